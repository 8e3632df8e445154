-- `bits::Bits::point` meets its contract. Assumes nothing.
use native.Mathlib.Omega.{arith}
use Prim.Native.Nat.{◌+◌}
use Rattle.bits.proofs.Fields.{word_is}
use Rattle.bits.proofs.Bits.point.Goals as goal

pub returns-clause-value : goal.returns-clause-value
returns-clause-value c =
    let s = c.args.s.now in
    λ k e i. record { x = word_is s _ k _ e c.get-x.ensures.0 i; y = word_is s _ (k + 1) _ (omega arith) c.get-y.ensures.0 i }
