-- Following the parents back: what the loop over them keeps. Assumes nothing.
use mathlib.Core.Path.{◌≡◌, refl, sym, ap, ◌∙◌}
use mathlib.Core.List.{List, [], ◌∷◌, ◌++◌, map, map-append, append_assoc, append-nil, reverse, reverse-cons, reverse-append}
use Prim.Native.Nat.{ℕ, ◌+◌, ◌-◌, ◌<◌, ◌≤◌}
use native.Mathlib.Omega.{arith}
use lib.ListN.{length, get_or, set, take, drop, length-append, length-map, length-reverse}
use lib.Seq.{take_at, drop_at}
use Rattle.numbers.proofs.Lists.{store_next, some_in}
use Rattle.model.specs.Steps.{point_word}
use Rattle.stamps.specs.declared.Frame.{Frame}
use Rattle.search.specs.Search.{Trail, begin, back}
use Rattle.way_back.specs.Ways.{spot, Laid, Written}

module _ {parents : List ℕ} {s : ℕ} where
  pub trail_some : {q : ℕ} {ps : List ℕ} → Trail parents s q ps → 1 ≤ length ps
  trail_some begin = omega arith
  trail_some (back {q = q} {ps = ps} t n l) = simp length-append (omega arith)

  trail_same : {q r : ℕ} {ps rs : List ℕ} → Trail parents s q ps → Trail parents s r rs → q ≡ r → ps ≡ rs
  trail_same begin begin e = refl
  trail_same begin (back t n l) e = absurd (n (sym e))
  trail_same (back t n l) begin e = absurd (n e)
  trail_same (back {p = p} {q = q} t n l) (back {p = o} {q = r} u m k) e =
      let d : p ≡ o = omega (arith, l, k, ap (λ (x : ℕ). get_or parents x 0) e) in
      rw e (ap (λ (x : List ℕ). x ++ (r ∷ [])) (trail_same t u d))

  -- the parents lead back one way
  pub trail_one : {q : ℕ} {ps rs : List ℕ} → Trail parents s q ps → Trail parents s q rs → ps ≡ rs
  trail_one t u = trail_same t u refl

-- a place other than the first has the one before it as its parent
pub record Back (parents : List ℕ) (s q : ℕ) (qs : List ℕ) : Type 0 where
  pub p : ℕ
  pub ps : List ℕ
  pub trail : Trail parents s p ps
  pub link : get_or parents q 0 ≡ p + 1
  pub last : qs ≡ ps ++ (q ∷ [])
  pub within : q < length parents

trail_back : {parents : List ℕ} {s q : ℕ} {qs : List ℕ} → Trail parents s q qs → (q ≡ s → ⊥) → Back parents s q qs
trail_back begin n = absurd (n refl)
trail_back {parents} (back {p = p} {q = q} {ps = ps} t m l) n = record { p = p; ps = ps; trail = t; link = l; last = refl; within = some_in parents q (omega (arith, l)) }

reverse_map : (f : ℕ → ℕ) (l : List ℕ) → reverse (map f l) ≡ map f (reverse l)
reverse_map f [] = refl
reverse_map f (x ∷ l) = rw (reverse-cons (f x) (map f l), reverse_map f l, reverse-cons x l, map-append) refl

-- ---- words written from the front
module _ (f : Frame) where
  -- the words of places
  abbrev words : List ℕ → List ℕ
  words ps = map (λ q. point_word (spot f q)) ps

  -- n of them, and then what stood there before
  module _ (laid before : List ℕ) (n : ℕ) (count : length laid ≡ n) where
    words_length : length (words laid) ≡ n
    words_length = simp length-map count

    words_next : (v : ℕ) → n < length before → set (words laid ++ drop n before) n (point_word (spot f v)) ≡ words (laid ++ (v ∷ [])) ++ drop (n + 1) before
    words_next v h = rw map-append (store_next (words laid) before n (point_word (spot f v)) words_length h)

    words_turned : reverse (take n (words laid ++ drop n before)) ++ drop n (words laid ++ drop n before) ≡ words (reverse laid) ++ drop n before
    words_turned = rw (take_at (words laid) (drop n before) n words_length, drop_at (words laid) (drop n before) n words_length, reverse_map (λ q. point_word (spot f q)) laid)

-- the words of the places after p are written, those of e first
pub record Laying (parents : List ℕ) (s e : ℕ) (f : Frame) (before out : List ℕ) (n p : ℕ) : Type 0 where
  pub ahead : List ℕ
  pub ahead_trail : Trail parents s p ahead
  pub laid : List ℕ
  pub count : length laid ≡ n
  pub trail : Trail parents s e (ahead ++ reverse laid)
  pub short : length ahead + n ≤ length parents
  pub written : out ≡ words f laid ++ drop n before
  pub room : length parents ≤ length before

pub laying_begun : {parents : List ℕ} {s e : ℕ} {f : Frame} (out : List ℕ) {places : List ℕ} → Trail parents s e places → length places ≤ length parents → length parents ≤ length out → Laying parents s e f out out 0 e
laying_begun out {places} t short room = record { ahead = places; ahead_trail = t; laid = []; count = refl; trail = rw append-nil t; short = omega arith; written = refl; room = room }

module _ {parents : List ℕ} {s e n p : ℕ} {f : Frame} {before out : List ℕ} (L : Laying parents s e f before out n p) where
  pub laying_room : n < length parents
  laying_room = omega (arith, L.short, trail_some L.ahead_trail)

  -- one word more
  stored : (v : ℕ) → set out n (point_word (spot f v)) ≡ words f (L.laid ++ (v ∷ [])) ++ drop (n + 1) before
  stored v = ap (λ (l : List ℕ). set l n (point_word (spot f v))) L.written ∙ words_next f L.laid before n L.count v (omega (arith, laying_room, L.room))

  one_more : (v : ℕ) → length (L.laid ++ (v ∷ [])) ≡ n + 1
  one_more v = simp length-append (omega (arith, L.count))

  pub laid_all : p ≡ s → Laid parents s e f (n + 1) before (set out n (point_word (spot f s)))
  laid_all h =
      let one : L.ahead ≡ s ∷ [] = trail_one (rw h at L.ahead_trail) begin in
      record { laid = L.laid ++ (s ∷ []); trail = rw (reverse-append L.laid (s ∷ [])) (rw one at L.trail); count = one_more s; words = stored s }

  module _ (other : p ≡ s → ⊥) where
    pub laying_more : (p < length parents) × (1 ≤ get_or parents p 0)
    laying_more = let b = trail_back L.ahead_trail other in (b.within, omega (arith, b.link))

    pub laying_next : Laying parents s e f before (set out n (point_word (spot f p))) (n + 1) (get_or parents p 0 - 1)
    laying_next =
        let b = trail_back L.ahead_trail other in
        let q : b.p ≡ get_or parents p 0 - 1 = omega (arith, b.link) in
        record {
          ahead = b.ps;
          ahead_trail = rw q at b.trail;
          laid = L.laid ++ (p ∷ []);
          count = one_more p;
          trail = rw (reverse-append L.laid (p ∷ [])) (rw (b.last, append_assoc b.ps (p ∷ []) (reverse L.laid)) at L.trail);
          short = omega (arith, L.short, simp length-append at (ap length b.last));
          written = stored p;
          room = L.room;
        }

-- ---- what is laid and then turned round is the route
pub turned_written : {parents : List ℕ} {s e n : ℕ} {f : Frame} {before mid part : List ℕ} → Laid parents s e f n before mid → part ≡ reverse (take n mid) → Written parents s e f n before (part ++ drop n mid)
turned_written {n} {f} {before} {mid} L h = record {
  places = reverse L.laid;
  trail = L.trail;
  count = length-reverse L.laid ∙ L.count;
  words = ap (λ (l : List ℕ). l ++ drop n mid) h ∙ ap (λ (m : List ℕ). reverse (take n m) ++ drop n m) L.words ∙ words_turned f L.laid before n L.count;
}
