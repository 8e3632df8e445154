-- `text_boxes::put_box` meets its contract. Assumes nothing.
use mathlib.Core.Path.{ap}
use mathlib.Core.List.{List}
use Prim.Native.Nat.{ℕ}
use native.Mathlib.Omega.{arith}
use borrow.Author.Rules.{rules}
use lib.IntN.{ℤ}
use lib.ListN.{length-append}
use mir.Syntax.{w32}
use mir.Val.{SFits, to_z, of_z}
use Rattle.std.proofs.lemmas.Int.{to_z-of_z}
use Rattle.model.specs.Report.{spaced}
use Rattle.text.specs.Writing.{Wrote}
use Rattle.text.proofs.Chain.{then, said}
use Rattle.text_boxes.proofs.put_box.Goals as goal

pub put_spaced-bottom-requires : goal.put_spaced-bottom-requires
put_spaced-bottom-requires c = grind (arith, to_z-of_z, length-append)

pub put_spaced-requires : goal.put_spaced-requires
put_spaced-requires c = grind (arith, to_z-of_z, length-append)

-- a side, as the machine holds it
side : {z : ℤ} {a b : List ℕ} {i k : ℕ} → SFits w32 z → Wrote a i (spaced (to_z w32 (of_z w32 z))) b k → Wrote a i (spaced z) b k
side {z} f wrote = said (ap spaced (to_z-of_z w32 z f)) wrote

pub returns : goal.returns
returns c =
    then (side (search rules) c.put_spaced-top.ensures)
    (then (side (search rules) c.put_spaced-right.ensures)
    (then (side (search rules) c.put_spaced-bottom.ensures) (side (search rules) c.put_spaced.ensures)))
