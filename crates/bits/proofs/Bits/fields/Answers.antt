-- `bits::Bits::fields` meets its contract. After k turns the first k places hold the first k fields, and the rest is as it came. Assumes nothing.
use native.Mathlib.Omega.{arith}
use native.Mathlib.Numerals.{add-one}
use Prim.Native.Nat.{◌+◌, ◌*◌}
use mathlib.Core.Path.{◌≡◌, refl}
use Rattle.std.proofs.Math.Nat.{mul-suc}
use Rattle.model.specs.Lists.{table}
use Rattle.model.specs.Packed.{field_at}
use Rattle.model.proofs.Lists.{table_store}
use Rattle.bits.proofs.Bits.fields.Invariants.{nth}
use Rattle.bits.proofs.Bits.fields.Goals as goal

pub loop-k-init : goal.loop-k-init
unfolding table
loop-k-init g c = record { cursor = omega arith; filled = λ f h. refl }

pub loop-k-preserved : goal.loop-k-preserved
loop-k-preserved g c =
    let a = c.args in
    let x = c.loop-k in
    let more : a.width * (x.k + 1) ≡ a.width * x.k + a.width = rw (add-one x.k, mul-suc a.width x.k) in
    let field : c.get-got.result.value ≡ field_at a.s.now (a.self.at + a.width * x.k) a.width = rw (c.get-got.ensures.0, x.invariant.cursor) in record {
      cursor = omega (arith, c.get-got.ensures.1);
      filled = λ f h. rw (x.invariant.filled f h, h c.get-got.result.value c.of.result c.of.ensures, field) (table_store (nth f a.s.now a.self.at a.width) x.k a.out.now (omega arith));
    }

pub returns-clause-filled : goal.returns-clause-filled
returns-clause-filled g c =
    let e : c.loop-k.k ≡ c.args.count = omega arith in
    λ f h. rw (← e) (c.loop-k.invariant.filled f h)
