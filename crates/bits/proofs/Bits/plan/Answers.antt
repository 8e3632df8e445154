-- `bits::Bits::plan` meets its contract. After i turns the first i places hold the first i buildings, and the rest is zero. Assumes nothing.
use borrow.Author.Rules.{rules}
use mathlib.Core.Path.{◌≡◌, refl, ap}
use Prim.Native.Nat.{◌+◌, ◌*◌}
use native.Mathlib.Omega.{arith}
use lib.ListN.{replicate}
use Rattle.model.specs.Lists.{table}
use Rattle.model.specs.Packed.{no_building}
use Rattle.model.proofs.Lists.{table_store}
use Rattle.bits.proofs.Fields.{plan_read}
use Rattle.bits.proofs.Bits.plan.Invariants.{nth}
use Rattle.bits.proofs.Bits.plan.Goals as goal

pub loop-i-init : goal.loop-i-init
unfolding table
loop-i-init c = record { cursor = omega arith; filled = λ k e. refl }

pub loop-i-preserved : goal.loop-i-preserved
loop-i-preserved c =
    let x = c.loop-i in record {
      cursor = omega arith;
      filled = λ k e. rw (x.invariant.filled k e, c.building-got.ensures.value (k + 8 * x.i) (omega arith)) (table_store (nth c.args.s.now k) x.i _ (omega arith));
    }

pub returns : goal.returns
returns c =
    let x = c.loop-i in
    let zero : c.default-buildings.result ≡ no_building = search rules in
    λ k e i. record {
      buildings = plan_read (nth c.args.s.now k) x.i c.args.count x.buildings _ (omega arith) (ap (replicate 32) zero) (x.invariant.filled k e) i;
      count = c.args.count;
    }
