-- What the search's state says of every chain. Assumes nothing.
use mathlib.Core.Path.{◌≡◌, ap, sym, subst, ◌∙◌}
use mathlib.Core.List.{List, [], ◌∷◌, ◌++◌, map, map-append}
use mathlib.Core.Logic.{⊎_elim, ◌⊎◌, inl, inr}
use Prim.Native.Nat.{ℕ, zero, suc, ◌+◌, ◌*◌, ◌/◌, ◌%◌, ◌<◌, ◌≤◌}
use native.Mathlib.Omega.{arith}
use native.Mathlib.Decide.{dec_lt}
use mathlib.Core.Bool.{true, false}
use lib.Dec.{T}
use lib.ListN.{length, get_or, length-append}
use Rattle.model.specs.declared.PixelPosition.{PixelPosition}
use Rattle.model.specs.Steps.{Step, Chain, stay}
use Rattle.search.specs.Places.{center}
use Rattle.search.specs.Search.{Entry, Held, Queued, Searching, Trail, begin, back, Sought}
use Rattle.search.proofs.Codes.{code, code_snoc, code_le, digits, snoc, Reach, reach}
use Rattle.search.proofs.Codes
use Rattle.search.proofs.Centers.{place_one}

module _ {free : ℕ → ℕ → Type 0} {w s tail bound : ℕ} {queue parents codes : List ℕ} (Q : Queued free w s queue parents codes tail bound) where
  pub rising_le : (i j : ℕ) → i ≤ j → j < tail → get_or codes i 0 ≤ get_or codes j 0
  rising_le i j l m = split (dec_lt i j)
    where
      split : Dec (i < j) → get_or codes i 0 ≤ get_or codes j 0
      split (yes h) = omega (arith, Q.rising i j h m)
      split (no h) = omega (arith, ap (λ (n : ℕ). get_or codes n 0) (same i j l h))
        where
          same : (i j : ℕ) → i ≤ j → ¬ (i < j) → i ≡ j
          same i j l h = omega arith

  -- every entry is at a free center
  pub entry_free : (i : ℕ) → i < tail → free (get_or queue i 0 % w) (get_or queue i 0 / w)
  entry_free i m = split (dec_lt 0 i)
    where
      split : Dec (0 < i) → free (get_or queue i 0 % w) (get_or queue i 0 / w)
      split (yes h) = (Q.entry i h m).by.to
      split (no h) = let z : i ≡ 0 = omega arith in subst (λ (p : ℕ). free (p % w) (p / w)) (sym (ap (λ (n : ℕ). get_or queue n 0) z ∙ Q.start)) Q.start_free

  -- the chain that led to an entry: the places that the parents pass on the way back, and its number
  pub record Chained (i : ℕ) : Type 0 where
    pub places : List ℕ
    pub steps : List ℕ
    pub trail : Trail parents s (get_or queue i 0) places
    pub chain : Chain free (center w s) steps (map (center w) places) (center w (get_or queue i 0))
    pub numbered : code steps ≡ get_or codes i 0
    pub short : length places ≤ i + 1

  led_first : Chained 0
  led_first = record {
    places = s ∷ [];
    steps = [];
    trail = subst (λ (p : ℕ). Trail parents s p (s ∷ [])) (sym Q.start) begin;
    chain = subst (λ (p : ℕ). Chain free (center w s) [] (center w s ∷ []) (center w p)) (sym Q.start) stay;
    numbered = sym Q.start_code;
    short = omega arith;
  }

  led_later : (i : ℕ) (E : Entry free w s queue parents codes i) → Chained E.j → Chained i
  led_later i E L = record {
    places = L.places ++ (get_or queue i 0 ∷ []);
    steps = L.steps ++ (E.k ∷ []);
    trail = back L.trail E.not_start E.link;
    chain = rw map-append (snoc L.chain E.by);
    numbered = omega (arith, code_snoc L.steps E.k, L.numbered, E.code);
    short = simp length-append (omega (arith, L.short, E.earlier));
  }

  led_below : (n i : ℕ) → i < n → i < tail → Chained i
  led_below zero i l m = absurd (omega arith)
  led_below (suc n) i l m = split (dec_lt 0 i) (λ j. led_below n j)
    where
      split : Dec (0 < i) → ((j : ℕ) → j < n → j < tail → Chained j) → Chained i
      split (yes h) rec = let E = Q.entry i h m in led_later i E (rec E.j (omega (arith, E.earlier)) (omega (arith, E.earlier)))
      split (no h) rec = let z : 0 ≡ i = omega arith in subst Chained z led_first

  pub led : (i : ℕ) → i < tail → Chained i
  led i m = led_below (suc i) i (omega arith) m

module _ {free : ℕ → ℕ → Type 0} {w s e head tail : ℕ} {queue parents : List ℕ} (S : Searching free w s e queue parents head tail) where
  abbrev Ahead : ℕ → Type 0
  Ahead n = (i : ℕ) × (head ≤ i) × (i < tail) × (get_or S.codes i 0 ≤ n)

  -- the end of every chain is found, by a chain that is not after it, or an entry still to do is not after it
  frontier : {n : ℕ} {q : PixelPosition} → Reach free (center w s) n q → Held w queue S.codes tail q n ⊎ Ahead n
  frontier Codes.Reach.begin = inl (record { i = 0; queued = S.state.begun; there = ap (center w) S.state.start; code = omega (arith, S.state.start_code) })
  frontier (Codes.Reach.onward {n} {k} {p} {q} r t) = ⊎_elim (λ h. next h (dec_lt h.i head)) (λ a. inr (a.0, a.1, a.2, omega arith)) (frontier r)
    where
      next : (h : Held w queue S.codes tail p n) → Dec (h.i < head) → Held w queue S.codes tail q (8 * n + k) ⊎ Ahead (8 * n + k)
      next h (yes l) =
          let done = S.done h.i l in
          let got = S.state.covered h.i k q h.queued (omega (arith, t.number)) (subst (λ (c : PixelPosition). Step free k c q) (sym h.there) t) in
          inl (record { i = got.i; queued = got.queued; there = got.there; code = omega (arith, got.code, h.code) })
      next h (no l) = inr (h.i, omega arith, h.queued, omega (arith, h.code))

  -- with nothing left to do, and the end not among what is done, no chain leads to the end
  exhausted : tail ≤ head → (ks : List ℕ) (cs : List PixelPosition) → Chain free (center w s) ks cs (center w e) → ⊥
  exhausted over ks cs c =
      ⊎_elim (λ h. S.not_yet h.i (omega (arith, h.queued)) (place_one w _ _ h.there)) (λ a. omega arith) (frontier (reach c))

  -- the entry at the end, where it comes up, is there by a chain that is not after any other
  arrived : head < tail → get_or queue head 0 ≡ e → (ks : List ℕ) (cs : List PixelPosition) → Chain free (center w s) ks cs (center w e) → get_or S.codes head 0 ≤ code ks
  arrived more at-end ks cs c = ⊎_elim (λ h. held h (dec_lt h.i head)) (λ a. risen a.0 a.1 a.2 a.3) (frontier (reach c))
    where
      risen : (i : ℕ) → head ≤ i → i < tail → get_or S.codes i 0 ≤ code ks → get_or S.codes head 0 ≤ code ks
      risen i l m b = omega (arith, rising_le S.state head i l m)

      held : (h : Held w queue S.codes tail (center w e) (code ks)) → Dec (h.i < head) → get_or S.codes head 0 ≤ code ks
      held h (yes l) = absurd (S.not_yet h.i l (place_one w _ _ h.there))
      held h (no l) = risen h.i (omega arith) h.queued h.code

  -- so it is the route's, and the parents lead back along it
  pub found : (n : ℕ) → tail ≤ n → head < tail → get_or queue head 0 ≡ e → Sought free w s e n queue parents true tail
  found n limit more at-end =
      let L = led S.state head more in
      record {
        leads = λ _. record {
          places = L.places;
          trail = subst (λ (p : ℕ). Trail parents s p L.places) at-end L.trail;
          route = record {
            steps = L.steps;
            free_start = S.state.start_free;
            chain = subst (λ (p : ℕ). Chain free (center w s) L.steps (map (center w) L.places) (center w p)) at-end L.chain;
            first = λ ks ds c. code_le L.steps ks (digits L.chain) (digits c) (omega (arith, L.numbered, arrived more at-end ks ds c));
          };
          short = omega (arith, L.short);
        };
        none = λ h. absurd (subst T h tt);
        listed = S.state.listed;
        within = limit;
      }

  pub not_found : (n : ℕ) → tail ≤ n → tail ≤ head → Sought free w s e n queue parents false tail
  not_found n limit over = record { leads = λ h. absurd (subst T (sym h) tt); none = λ h. exhausted over; listed = S.state.listed; within = limit }
