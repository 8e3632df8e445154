-- What a look and the baseline say together, and what a flag says. Assumes nothing.
use mathlib.Core.Path.{◌≡◌, refl, sym, subst, subst₂}
use mathlib.Core.Bool.{Bool, true, false}
use mathlib.Core.List.{List, [], map}
use mathlib.Core.Logic.{◌↔◌}
use Prim.Native.Nat.{ℕ, ◌-◌}
use native.Mathlib.Omega.{arith}
use Rattle.model.specs.declared.PixelPosition.{PixelPosition}
use Rattle.std.specs.Prelude.{Option, None, Some, Result, Ok, Err}
use Rattle.model.specs.declared.Passed.{Passed}
use Rattle.model.specs.declared.WallEndpoint.{WallEndpoint}
use Rattle.model.specs.declared.WallEndpoint.TheVariants.{Start, End}
use Rattle.stamps.specs.declared.Frame.{Frame}
use Rattle.model.specs.declared.WallPassage.TheVariants.{Open}
use Rattle.model.specs.Steps.{Joined, point_word}
use Rattle.model.specs.Passage.{Passage}
use Rattle.model.specs.Areas.{begun}
use Rattle.model.proofs.Chains.{joined_more}
use Rattle.model.proofs.Ends.{route_joined}
use Rattle.model.proofs.Shifted.{Agree}
use Rattle.model.proofs.Verdicts.{told, says_yes, says_no, start_blocked, end_blocked, opened, disconnected, within}
use Rattle.marks.specs.Marks.{Unmarked}
use Rattle.route.specs.Answer.{Says, Clear, Answers}
use Rattle.route.proofs.Reading.{answers_by, says_by}
use Rattle.passage.specs.Passing.{Finds, verdict_of}

-- ---- flags
flag : {P : Type 0} (r : Bool) → Says r P → (r ≡ true) ↔ P
flag true s = says_yes s
flag false s = says_no s

-- ---- what the marks say of the map's centers
module _ (marks : List ℕ) (f : Frame) {free : ℕ → ℕ → Type 0} (a : Agree f.left f.top (Unmarked marks f.width f.height) free) where
  clear_free : (p : PixelPosition) → Clear marks f p.x p.y → free p.x p.y
  clear_free p c = subst₂ free (omega (arith, c.0)) (omega (arith, c.1)) (a.out (p.x - f.left) (p.y - f.top) c.2)

  free_clear : (p : PixelPosition) → free p.x p.y → Clear marks f p.x p.y
  free_clear p there = a.back p.x p.y there

-- ---- verdicts, by the marks before the plan and after it
module _ (f : Frame) (before after : List ℕ) (s e : PixelPosition) (was now : List ℕ) {B A : ℕ → ℕ → Type 0}
    (ab : Agree f.left f.top (Unmarked before f.width f.height) B) (aa : Agree f.left f.top (Unmarked after f.width f.height) A) (more : (x y : ℕ) → A x y → B x y) where
  -- what is promised of an answer
  abbrev pub Told : Passed → Type 0
  Told r = (cs : List PixelPosition) × Passage B A s e r cs × (now ≡ begun (map point_word cs) was)

  pub led_told : (n : ℕ) → Finds (Clear after f) s e was now (Ok (Some n)) → Told (told Open true n)
  led_told n l =
      let t = answers_by after f aa s e was now (Some n) l.2 in
      let j = route_joined t.route in
      (t.centers, subst (λ (k : ℕ). Passage B A s e (told Open true k) t.centers) (sym t.count) (opened B A s e j.end_free t.route (says_yes (joined_more more j))), t.words)

  none_told : (b : Bool) → Finds (Clear after f) s e was now (Ok None) → Says b (Joined B s e) → Told (told (verdict_of (Ok None) b) b 0)
  none_told b l j = split b j
    where
      t : Answers A s e was now None
      t = answers_by after f aa s e was now None l.2

      split : (b : Bool) → Says b (Joined B s e) → Told (told (verdict_of (Ok None) b) b 0)
      split true j = ([], within B A s e (clear_free after f aa s l.0) (clear_free after f aa e l.1) t.none j, t.same)
      split false j = ([], disconnected B A s e (clear_free after f aa s l.0) (clear_free after f aa e l.1) t.none j, t.same)

  pub shut_told : (r : Result (Option ℕ) WallEndpoint) (b : Bool) → ((n : ℕ) → r ≡ Ok (Some n) → ⊥) → Finds (Clear after f) s e was now r → Says b (Joined (Clear before f) s e) → Told (told (verdict_of r b) b 0)
  shut_told (Err Start) b n l j = ([], start_blocked B A s e (λ a. l.0 (free_clear after f aa s a)) (flag b (says_by before f ab s e b j)), l.1)
  shut_told (Err End) b n l j =
      ([], end_blocked B A s e (clear_free after f aa s l.0) (λ a. l.1 (free_clear after f aa e a)) (flag b (says_by before f ab s e b j)), l.2)
  shut_told (Ok (Some k)) b n l j = absurd (n k refl)
  shut_told (Ok None) b n l j = none_told b l (says_by before f ab s e b j)
