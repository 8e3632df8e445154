-- `boxes::obstacle_at` meets its contract. Assumes nothing.
use mathlib.Core.Path.{◌≡◌, sym, ◌∙◌}
use mathlib.Core.List.{List}
use Prim.Native.Nat.{ℕ, ◌+◌, ◌*◌, ◌^◌, ◌<◌}
use native.Mathlib.Omega.{arith}
use lib.IntN.{ℤ, pos}
use lib.ListN.{get_or}
use lib.Signed.{mag}
use mir.Facts.{to_z-of_z}
use mir.Syntax.{w32}
use mir.Val.{to_z, of_z}
use Rattle.model.specs.Check.{no_rect}
use Rattle.model.proofs.Words.{rects_at}
use Rattle.boxes.proofs.obstacle_at.Goals as goal

-- a word of a slice is what the machine reads back of it
word : (l : List ℤ) (k : ℕ) → mag (get_or l k (pos 0)) < 2 ^ 31 → to_z w32 (of_z w32 (get_or l k (pos 0))) ≡ get_or l k (pos 0)
word l k p = to_z-of_z {w = w32} {z = get_or l k (pos 0)} (record { sfits = p })

pub returns : goal.returns
returns c =
    let a = c.args in
    let ws : List ℤ = a.words.now in
    let at = 4 * a.i in
    (λ j. record {
      left = word ws at c.result-1.given j;
      top = word ws (at + 1) c.result-2-1.given j;
      right = word ws (at + 2) c.result-3-1.given j;
      bottom = word ws (at + 3) c.result-4-1.given j;
    })
    ∙ sym (rects_at ws a.i no_rect (omega arith))
