-- Laws of `written`: words behind words, words written at once, and a loop that writes one word, or the words of one value, after the other. Assumes nothing.
use mathlib.Core.Path.{◌≡◌, refl, sym, ap, ◌∙◌}
use mathlib.Core.List.{List, [], ◌∷◌, ◌++◌, flat_map, append-nil}
use Prim.Native.Nat.{ℕ, zero, suc, ◌+◌, ◌-◌, ◌*◌, ◌≤◌, ◌<◌, min}
use native.Mathlib.Omega.{arith}
use native.Mathlib.Numerals.{add-one}
use Rattle.std.proofs.Math.Nat.{mul-suc, min_comm}
use Rattle.std.proofs.lemmas.Grind.{flat_map-append}
use lib.ListN.{length, get_or, set, take, drop, length-take, length-append, length-drop}
use Rattle.std.proofs.lemmas.List.{take_min, drop_min}
use lib.Seq.{take-suc, take_all, take-nil, drop-nil}
use Rattle.model.specs.Words.{written}

-- the words of two lists, one behind the other
pub written_append : (k : ℕ) (a b l : List ℕ) → written k (a ++ b) l ≡ written (k + length a) b (written k a l)
unfolding written
written_append k [] b l = ap (λ (j : ℕ). written j b l) (omega arith)
written_append k (w ∷ a) b l = written_append (suc k) a b (set l k w) ∙ ap (λ (j : ℕ). written j b (written (suc k) a (set l k w))) (omega arith)

-- without places nothing is written
written_none : (k : ℕ) (ws : List ℕ) → written k ws [] ≡ []
unfolding written
written_none k [] = refl
written_none k (w ∷ ws) = written_none (suc k) ws

-- one place more stands before those that are written
written_behind : (k : ℕ) (ws l : List ℕ) (x : ℕ) → written (suc k) ws (x ∷ l) ≡ x ∷ written k ws l
unfolding written
written_behind k [] l x = refl
written_behind k (w ∷ ws) l x = written_behind (suc k) ws (set l k w) x

-- the places before `at` stay, then come as many words as there are places left, and the places behind them stay
written_parts : (at : ℕ) (ws out : List ℕ) → written at ws out ≡ take at out ++ (take (length (drop at out)) ws ++ drop (length ws) (drop at out))
unfolding written
written_parts at ws [] = written_none at ws ∙ rw (take-nil {A = ℕ} at, drop-nil {A = ℕ} at, drop-nil {A = ℕ} (length ws)) refl
written_parts zero [] (x ∷ l) = refl
written_parts zero (w ∷ ws) (x ∷ l) = written_behind 0 ws l w ∙ ap (λ (r : List ℕ). w ∷ r) (written_parts zero ws l)
written_parts (suc k) ws (x ∷ l) = written_behind k ws l x ∙ ap (λ (r : List ℕ). x ∷ r) (written_parts k ws l)

-- Written at once: the first `from` places stay, then come the first n words, and the places behind them stay. `from` is `at`, or the number of places where that is less, and n is the number of words, or of the places that are left where that is less.
pub written_slice : (at from n : ℕ) (ws out : List ℕ) → from ≡ min at (length out) → n ≡ min (length ws) (length out - from) → written at ws out ≡ take from out ++ (take n ws ++ drop n (drop from out))
written_slice at from n ws out f e =
    let rest = drop at out in
    let room : n ≡ min (length ws) (length rest) = rw (length-drop at out) (omega (arith, f, e)) in
    let words : take n ws ≡ take (length rest) ws = rw (room, min_comm (length ws) (length rest)) (take_min (length rest) ws) in
    let behind : drop n rest ≡ drop (length ws) rest = rw room (drop_min (length ws) rest) in
    written_parts at ws out ∙ rw (f, take_min at out, drop_min at out, words, behind) refl

-- two calls that write, one behind the other
pub both : (k j : ℕ) (a b l x y : List ℕ) → x ≡ written k a l → y ≡ written j b x → k + length a ≡ j → y ≡ written k (a ++ b) l
both k j a b l x y e f g = f ∙ (rw (e, ← g) (sym (written_append k a b l)))

-- a loop's next word
pub word_next : (at i : ℕ) (ws l : List ℕ) (d : ℕ) → i < length ws → set (written at (take i ws) l) (at + i) (get_or ws i d) ≡ written at (take (i + 1) ws) l
unfolding written
word_next at i ws l d h =
    let n : length (take i ws) ≡ i = length-take i ws ∙ omega arith in
    rw (add-one i, take-suc ws i d h, written_append at (take i ws) (get_or ws i d ∷ []) l, n)

mul_more : (n i : ℕ) → n * (i + 1) ≡ n * i + n
mul_more n i = rw (add-one i, mul-suc n i)

-- a loop that writes the words of each value, n of them
module _ {A : Type 0} (f : A → List ℕ) (n at : ℕ) (xs : List A) (before : List ℕ) where
  pub record WrittenBelow (i : ℕ) (now : List ℕ) : Type 0 where
    pub each : length (flat_map f (take i xs)) ≡ n * i
    pub done : now ≡ written at (flat_map f (take i xs)) before

  pub none_written : WrittenBelow 0 before
  unfolding flat_map written
  none_written = record { each = omega arith; done = refl }

  pub next_written : (i : ℕ) (d : A) {now ws after : List ℕ} → i < length xs → WrittenBelow i now → length ws ≡ n → ws ≡ f (get_or xs i d) → after ≡ written (at + n * i) ws now
      → WrittenBelow (i + 1) after
  unfolding flat_map
  next_written i d {now} {ws} {after} h so_far long e put =
      let more : flat_map f (take (i + 1) xs) ≡ flat_map f (take i xs) ++ ws = rw (add-one i, take-suc xs i d h, flat_map-append f (take i xs) (get_or xs i d ∷ []), e) (ap (λ (l : List ℕ). flat_map f (take i xs) ++ l) (append-nil (f (get_or xs i d)))) in
      record {
        each = rw (more, length-append (flat_map f (take i xs)) ws, so_far.each, long) (sym (mul_more n i));
        done = rw more (both at (at + n * i) (flat_map f (take i xs)) ws before now after so_far.done put (omega (arith, so_far.each)));
      }

  pub all_written : (i : ℕ) {now : List ℕ} → length xs ≤ i → WrittenBelow i now → now ≡ written at (flat_map f xs) before
  all_written i h so_far = rw (take_all i xs h) at so_far.done
