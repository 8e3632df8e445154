-- For a caller whose marks say what `free` says of the map's centers: the answers by the marks are the answers by `free`. Assumes nothing.
use mathlib.Core.Path.{◌≡◌, refl, sym, subst, subst₂}
use mathlib.Core.Bool.{Bool, true, false}
use mathlib.Core.List.{List, [], ◌∷◌, map}
use Prim.Native.Nat.{ℕ, ◌-◌}
use native.Mathlib.Omega.{arith}
use Rattle.model.specs.declared.PixelPosition.{PixelPosition}
use Rattle.model.specs.Steps.{Joined, IsRoute}
use Rattle.model.proofs.Chains.{position_path}
use Rattle.model.proofs.Shifted.{Agree, shift, route_out, joined_out, joined_back}
use Rattle.std.specs.Prelude.{Option, None, Some}
use Rattle.stamps.specs.declared.Frame.{Frame}
use Rattle.marks.specs.Marks.{Unmarked}
use Rattle.route.specs.Answer.{Says, Clear, Answers}

module _ (marks : List ℕ) (f : Frame) {free : ℕ → ℕ → Type 0} (a : Agree f.left f.top (Unmarked marks f.width f.height) free) where
  -- both speak of the map's centers
  same : Agree 0 0 (Clear marks f) free
  same = record {
    out = λ x y c. subst₂ free (omega (arith, c.0)) (omega (arith, c.1)) (a.out (x - f.left) (y - f.top) c.2);
    back = λ x y there.
        let ex : x ≡ x - 0 = omega arith in
        let ey : y ≡ y - 0 = omega arith in
        (omega arith, omega arith, subst₂ (Clear marks f) ex ey (a.back x y there));
  }

  still : (p : PixelPosition) → shift 0 0 p ≡ p
  still p = position_path (omega arith) (omega arith)

  still_all : (cs : List PixelPosition) → map (shift 0 0) cs ≡ cs
  still_all [] = refl
  still_all (c ∷ cs) = λ i. still c i ∷ still_all cs i

  joined_in : {s e : PixelPosition} → Joined free s e → Joined (Clear marks f) s e
  joined_in {s} {e} j = joined_back 0 0 same (subst₂ (Joined free) (sym (still s)) (sym (still e)) j)

  pub answers_by : (s e : PixelPosition) (before after : List ℕ) (r : Option ℕ) → Answers (Clear marks f) s e before after r → Answers free s e before after r
  answers_by s e before after (Some n) t = record {
    centers = t.centers;
    route = subst (IsRoute free s e) (still_all t.centers) (subst₂ (λ (p q : PixelPosition). IsRoute free p q (map (shift 0 0) t.centers)) (still s) (still e) (route_out 0 0 same t.route));
    count = t.count;
    words = t.words;
  }
  answers_by s e before after None t = record { none = λ j. t.none (joined_in j); same = t.same }

  pub says_by : (s e : PixelPosition) (r : Bool) → Says r (Joined (Clear marks f) s e) → Says r (Joined free s e)
  says_by s e true j = subst₂ (Joined free) (still s) (still e) (joined_out 0 0 same j)
  says_by s e false none = λ j. none (joined_in j)
