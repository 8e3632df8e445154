-- How many places have a parent. Assumes nothing.
use mathlib.Core.Path.{◌≡◌, refl, ap, sym, ◌∙◌}
use mathlib.Core.List.{List, [], ◌∷◌}
use Prim.Native.Nat.{ℕ, zero, suc, ◌+◌, ◌<◌, ◌≤◌}
use native.Mathlib.Omega.{arith}
use native.Mathlib.Numerals.{add-one}
use native.Mathlib.Decide.{dec_lt}
use lib.ListN.{length, get_or, set, get_or-eq_default}
use Rattle.search.specs.Places.{Blank}
use Rattle.search.specs.Search.{noted}

pub noted_none : (ps : List ℕ) → ((p : ℕ) → get_or ps p 0 ≡ 0) → noted ps ≡ 0
noted_none [] h = refl
noted_none (zero ∷ ps) h = noted_none ps (λ p. h (suc p))
noted_none (suc q ∷ ps) h = absurd (omega (arith, h 0))

pub noted_more : (ps : List ℕ) (p v : ℕ) → p < length ps → get_or ps p 0 ≡ 0 → noted (set ps p (v + 1)) ≡ noted ps + 1
noted_more [] p v l z = absurd (omega arith)
noted_more (zero ∷ ps) zero v l z = ap (λ (n : ℕ). noted (n ∷ ps)) (add-one v) ∙ sym (add-one (noted ps))
noted_more (suc q ∷ ps) zero v l z = absurd (omega arith)
noted_more (zero ∷ ps) (suc p) v l z = noted_more ps p v (omega arith) z
noted_more (suc q ∷ ps) (suc p) v l z = omega (arith, noted_more ps p v (omega arith) z)

pub noted_le : (ps : List ℕ) → noted ps ≤ length ps
noted_le [] = omega arith
noted_le (zero ∷ ps) = omega (arith, noted_le ps)
noted_le (suc q ∷ ps) = omega (arith, noted_le ps)

pub noted_room : (ps : List ℕ) (p : ℕ) → p < length ps → get_or ps p 0 ≡ 0 → noted ps < length ps
noted_room [] p l z = absurd (omega arith)
noted_room (zero ∷ ps) zero l z = omega (arith, noted_le ps)
noted_room (suc q ∷ ps) zero l z = absurd (omega arith)
noted_room (zero ∷ ps) (suc p) l z = omega (arith, noted_room ps p (omega arith) z)
noted_room (suc q ∷ ps) (suc p) l z = omega (arith, noted_room ps p (omega arith) z)

-- an area that is blank as far as it goes has a zero everywhere
pub all_blank : (n : ℕ) (area : List ℕ) → length area ≡ n → Blank n area → (i : ℕ) → get_or area i 0 ≡ 0
all_blank n area e blank i = split (dec_lt i n)
  where
    split : Dec (i < n) → get_or area i 0 ≡ 0
    split (yes l) = blank i l
    split (no l) = let out : length area ≤ i = omega arith in get_or-eq_default area 0 out
