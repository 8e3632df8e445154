-- `search::neighbour` meets its contract, since the step stays in the window. Assumes nothing.
use mathlib.Core.Path.{ap, ◌∙◌}
use Prim.Native.Nat.{ℕ}
use native.Mathlib.Omega.{arith}
use lib.ListN.{get_or}
use Rattle.search.proofs.Neighbours.{seen_mark, lands_in}
use Rattle.search.proofs.neighbour.Goals as goal

pub step_from-requires-clause-ahead : goal.step_from-requires-clause-ahead
step_from-requires-clause-ahead g c =
    let a = c.args in
    (lands_in a.field.width a.field.height a.from.x a.from.y a.d a.from.place c.requires.placed.place (c.stays.ensures.yes c.if-not-stays.false)).0

pub mark-requires : goal.mark-requires
mark-requires g c =
    let a = c.args in
    omega (arith, lands_in a.field.width a.field.height a.from.x a.from.y a.d a.from.place c.requires.placed.place (c.stays.ensures.yes c.if-not-stays.false))

pub returns : goal.returns
returns g c =
    let a = c.args in
    seen_mark a.field.width a.field.height a.from.x a.from.y a.d a.from.place c.requires.placed.place (c.stays.ensures.yes c.if-not-stays.false) a.field.marks.now c.mark.result
    (c.mark.ensures.0 ∙ ap (λ (n : ℕ). get_or a.field.marks.now n 0) c.step_from.ensures) c.mark.ensures.1
