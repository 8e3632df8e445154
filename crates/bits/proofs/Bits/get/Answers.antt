-- `bits::Bits::get` meets its contract: a field within the 40 bits from a byte on is a quotient and a remainder of them. Assumes nothing.
use mathlib.Core.Path.{refl}
use native.Mathlib.Omega.{arith}
use lib.Pow.{pow_mono}
use native.Mathlib.Nat.{lt_of_lt_of_le}
use Rattle.bits.proofs.Fields.{field_taken, field_lt}
use Rattle.bits.proofs.Bits.get.Goals as goal

pub overflow_cast-result : goal.overflow_cast-result
overflow_cast-result c =
    let a = c.args in
    rw (c.five.ensures, field_taken a.s.now a.self.at a.n (omega arith))
    (record { fits = lt_of_lt_of_le (field_lt a.s.now a.self.at a.n) (pow_mono {j = 32} (omega arith)) })

pub returns : goal.returns
returns c =
    let a = c.args in
    rw (c.five.ensures, field_taken a.s.now a.self.at a.n (omega arith))
    (refl, refl, field_lt a.s.now a.self.at a.n)
