-- `packed::validate_length` meets its contract. Assumes nothing.
use mathlib.Core.Path.{◌≡◌, sym, ◌∙◌}
use Prim.Native.Nat.{◌+◌, ◌/◌}
use lib.ListN.{length}
use native.Mathlib.Omega.{arith}
use Rattle.packed.proofs.Length.{bits_of_header, too_short, too_long, bit_set, whole}
use Rattle.packed.proofs.validate_length.Goals as goal

pub returns-then-s-bytes : goal.returns-then-s-bytes
returns-then-s-bytes c =
    let e = bits_of_header c.read_header.ensures c.needed_bits-bits.ensures.0 in
    too_short c.args.s.now (rw e at c.if-s-bytes.true)

pub returns-then-bytes-s : goal.returns-then-bytes-s
returns-then-bytes-s c =
    let e = bits_of_header c.read_header.ensures c.needed_bits-bits.ensures.0 in
    too_long c.args.s.now (rw e at c.if-bytes-s.true)

pub returns-then-fill-ne0 : goal.returns-then-fill-ne0
returns-then-fill-ne0 c =
    let e = bits_of_header c.read_header.ensures c.needed_bits-bits.ensures.0 in
    let full : length c.args.s.now ≡ (c.needed_bits-bits.result + 7) / 8 = omega arith in
    bit_set c.args.s.now (rw e at full) (λ z. c.if-fill-ne0.true (rw e at c.get-fill.ensures.0 ∙ z))

pub returns : goal.returns
returns c =
    let e = bits_of_header c.read_header.ensures c.needed_bits-bits.ensures.0 in
    let full : length c.args.s.now ≡ (c.needed_bits-bits.result + 7) / 8 = omega arith in
    whole c.args.s.now (rw e at full) (sym (rw e at c.get-fill.ensures.0) ∙ c.if-fill-ne0.false)
