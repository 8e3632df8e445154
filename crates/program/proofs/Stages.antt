-- How the program's stages follow one another. Assumes nothing.
use mathlib.Core.Path.{◌≡◌, refl, sym, ap, subst, ◌∙◌}
use mathlib.Core.List.{List, ◌++◌}
use Prim.Native.Nat.{ℕ}
use Rattle.std.specs.Prelude.{Result, Ok, Err}
use Rattle.model.specs.declared.WallError.{WallError}
use Rattle.model.specs.declared.WallQuery.{WallQuery}
use Rattle.model.specs.Ground.{Ground}
use Rattle.model.specs.Refusal.{Line, refusal, given, first}
use Rattle.model.specs.Report.{check_lines, PrintsAs, refused_text}
use Rattle.model.proofs.Lines.{stage_passed, stage_refused}
use Rattle.text.specs.Writing.{Wrote}
use Rattle.program.specs.Promise.{Told}

module _ {g : Ground} {q : WallQuery} {was now : List ℕ} {r : ℕ} {A : Type 0} {o : Result A WallError} where
  -- what refuses decides what is printed
  pub refused_by : (lines : List Line) {e : WallError} → given o ≡ first lines → o ≡ Err e → Wrote was 0 (refused_text (refusal e).number) now r → Told lines g q was now r
  refused_by lines {e} h f w =
      record { text = refused_text (refusal e).number; prints = subst (PrintsAs g q (refused_text (refusal e).number)) (sym (ap given f) ∙ h) refl; wrote = w }

  module _ (a b : List Line) (h : given o ≡ first a) where
    -- so does a stage that refuses
    pub refused_here : {e : WallError} → o ≡ Err e → Wrote was 0 (refused_text (refusal e).number) now r → Told (a ++ b) g q was now r
    refused_here f w = refused_by (a ++ b) (sym (stage_refused a b f h)) f w

    -- one that passes leaves it to the stages after it
    pub passed_here : {x : A} → o ≡ Ok x → Told b g q was now r → Told (a ++ b) g q was now r
    passed_here f t = record { text = t.text; prints = subst (PrintsAs g q t.text) (sym (stage_passed a b f h)) t.prints; wrote = t.wrote }

-- the check of a ground and a query that are what was read
pub as_said : {g g' : Ground} {q q' : WallQuery} {was now : List ℕ} {r : ℕ} → g ≡ g' → q ≡ q' → Told (check_lines g q) g q was now r → Told (check_lines g' q') g' q' was now r
as_said {was = was} {now = now} {r = r} e f t = coe 0 1 (i. Told (check_lines (e i) (f i)) (e i) (f i) was now r) t
