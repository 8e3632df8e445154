-- `packed::read_packed` meets its contract. Assumes nothing.
use mathlib.Core.Path.{refl, sym, ap, ◌∙◌}
use Rattle.model.specs.Areas.{room_lines}
use Rattle.model.specs.Refusal.{given}
use Rattle.model.specs.Packed.{packed_lines, ReadAreas, read_rooms}
use Rattle.model.proofs.Enough.{read_enough}
use Rattle.model.proofs.Lines.{none_both}
use Rattle.packed.proofs.read_packed.Goals as goal

pub read_all-requires-clause-s_in_bounds : goal.read_all-requires-clause-s_in_bounds
read_all-requires-clause-s_in_bounds c =
    let s = c.args.s.now in
    let was : ReadAreas = record { cells = c.args.cells.now; words = c.args.words.now } in
    let none = none_both (packed_lines s) (room_lines (read_rooms s was)) (sym (c.validate_read.ensures was refl refl) ∙ ap given c.in_ok-validate_read.was) in
    read_enough s was none.1
