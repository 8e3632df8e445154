-- What `array::from_fn` makes of a function that each call leaves as it is. Assumes nothing.
use mathlib.Core.Path.{◌≡◌, refl, ap, subst, ◌∙◌}
use mathlib.Core.List.{List, [], ◌∷◌, ◌++◌, map}
use Prim.Native.Nat.{ℕ, zero, suc, ◌+◌, ◌<◌}
use native.Mathlib.Nat.{add-zero, zero-add}
use native.Mathlib.Numerals.{add-one}
use native.Mathlib.Omega.{arith}
use lib.ListN.{get_or}
use denote.Param.Members.{Mut, Called}
use Rattle.std.specs.Array.{IsFromFnResultFrom, IsFromFnResult}
use Rattle.std.specs.List.{range_with_len}
use Rattle.std.proofs.lemmas.List.FromFn.{map-range_with_len_more, fill_by_all}
use Rattle.model.specs.Lists.{table}

-- the calls from number i on
made : {F B : Type 0} (g : Mut F (ℕ × Unit {0}) B) (h : ℕ → B) (f : F) → ((i : ℕ) (y : B) (q : F) → Called g f (i, tt) y q → (y ≡ h i) × (q ≡ f))
    → (ys : List B) (d : B) (i n j : ℕ) → IsFromFnResultFrom g f ys i n → j < n → get_or ys (i + j) d ≡ h (i + j)
made g h f call ys d i zero j r below = absurd (omega arith)
made g h f call ys d i (suc n) zero (q, y, here, called, rest) below = rw add-zero (here.1 d ∙ (call i y q called).0)
made {F} g h f call ys d i (suc n) (suc j) (q, y, here, called, rest) below =
    let later : IsFromFnResultFrom g f ys (i + 1) n = subst (λ (p : F). IsFromFnResultFrom g p ys (i + 1) n) (call i y q called).1 rest in
    let at : i + suc j ≡ i + 1 + j = omega arith in
    rw at (made g h f call ys d (i + 1) n j later (omega arith))

as_range : {B : Type 0} (h : ℕ → B) (n : ℕ) → map h (range_with_len 0 n) ≡ table h n
unfolding table
as_range h zero = refl
as_range h (suc n) = (rw (add-one n) at (map-range_with_len_more h 0 n n (omega arith))) ∙ ap (λ (l : List _). l ++ (h n ∷ [])) (as_range h n)

pub from_fn_table : {F B : Type 0} (g : Mut F (ℕ × Unit {0}) B) (h : ℕ → B) (f : F) → ((i : ℕ) (y : B) (q : F) → Called g f (i, tt) y q → (y ≡ h i) × (q ≡ f))
    → (ys : List B) (d : B) (n : ℕ) → IsFromFnResult g f ys n → ys ≡ table h n
from_fn_table g h f call ys d n r = fill_by_all h ys n d r.long (λ k below. rw (zero-add k) at (made g h f call ys d 0 n k r.each below)) ∙ as_range h n
