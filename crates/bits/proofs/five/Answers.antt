-- `bits::five` meets its contract: on either path the five bytes are those at i, and five bytes are their 40 bits. Assumes nothing.
use mathlib.Core.Path.{◌∙◌}
use Rattle.bits.proofs.Fields.{field_five}
use Rattle.bits.proofs.five.Goals as goal

pub returns-then-i-s : goal.returns-then-i-s
returns-then-i-s c = c.join.ensures ∙ field_five c.args.s.now c.args.i (λ i. (c.type_inv.s i).fits)

pub returns : goal.returns
returns c =
    c.join-2.ensures
    ∙ rw (c.byte_or_0-a.ensures, c.byte_or_0-b.ensures, c.byte_or_0-c.ensures, c.byte_or_0-d.ensures, c.byte_or_0-e.ensures)
    (field_five c.args.s.now c.args.i (λ i. (c.type_inv.s i).fits))
