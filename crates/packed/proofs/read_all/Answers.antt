-- `packed::read_all` meets its contract. Assumes nothing.
use mathlib.Core.Path.{◌≡◌}
use Prim.Native.Nat.{◌+◌, ◌*◌}
use native.Mathlib.Omega.{arith}
use Rattle.model.specs.Packed.{header_in, area_in}
use Rattle.packed.proofs.Length.{area_of_header}
use Rattle.packed.proofs.Whole.{cells_read, words_read, query_read}
use Rattle.packed.proofs.read_all.Goals as goal

pub returns : goal.returns
returns c =
    let words = c.before.before in
    let cells = words.before.before.before.before in
    let start = cells.before.before.before.before.before.before in
    let s = start.args.s.now in
    let e = start.requires.header_is in
    let n = cells.area-n.ensures.0 in
    let at : cells.cells-at.result.at ≡ 40 + 5 * area_in s = omega (arith, area_of_header e) in
    let query = query_read e _ (c.query-query.ensures (4 * (header_in s).obstacles) (omega (arith, area_of_header e, e.obstacles))) in (
      (λ i. record { width = e.width i; height = e.height i; obstacles = e.obstacles i; query = query i }),
      (λ i. record { cells = cells_read e _ _ _ n cells.cells-at.ensures.1 i; words = words_read e _ _ _ at words.words-next.ensures.1 i }),
    )
