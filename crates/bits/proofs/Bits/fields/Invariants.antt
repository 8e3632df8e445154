-- `bits::Bits::fields` meets its contract. After k turns the first k places hold the first k fields, and the rest is as it came. Assumes nothing.
use Prim.Native.Nat.{ℕ, ◌+◌, ◌*◌}
use mathlib.Core.Path.{◌≡◌}
use mathlib.Core.List.{List, ◌++◌}
use lib.ListN.{drop}
use Rattle.model.specs.Lists.{table}
use Rattle.model.specs.Packed.{field_at}
use Rattle.bits.proofs.Bits.fields.Given as goal

-- what goes to place k
abbrev pub nth : {A : Type 0} → (ℕ → A) → List ℕ → ℕ → ℕ → ℕ → A
nth f s at width k = f (field_at s (at + width * k) width)

abbrev pub invariant-loop-k : goal.invariant-loop-k
invariant-loop-k g l = record {
  cursor : l.cur.at ≡ l.initial.cur.at + l.width * l.k;
  filled : (f : ℕ → g.row.T.Denot) → ((v : ℕ) (y : g.row.T.Denot) → goal.F-post g l.of v y → y ≡ f v) → l.out ≡ table (nth f l.s l.initial.cur.at l.width) l.k ++ drop l.k l.initial.out;
}
