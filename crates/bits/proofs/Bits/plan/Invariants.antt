-- `bits::Bits::plan` meets its contract. After i turns the first i places hold the first i buildings, and the rest is zero. Assumes nothing.
use mathlib.Core.Path.{◌≡◌}
use mathlib.Core.List.{List, ◌++◌}
use Prim.Native.Nat.{ℕ, ◌+◌, ◌*◌}
use lib.ListN.{drop}
use Rattle.model.specs.Lists.{table}
use Rattle.model.specs.declared.WallBuilding.{WallBuilding}
use Rattle.model.specs.Packed.{building_in}
use Rattle.bits.specs.Reading.{AtWord}
use Rattle.bits.proofs.Bits.plan.Given as goal

-- building j of those whose words begin at place k
abbrev pub nth : List ℕ → ℕ → ℕ → WallBuilding
nth s k j = building_in s (k + 8 * j)

abbrev pub invariant-loop-i : goal.invariant-loop-i
invariant-loop-i l = record {
  cursor : l.cur.at ≡ l.initial.cur.at + 256 * l.i;
  filled : (k : ℕ) → AtWord l.s l.initial.cur.at k → l.buildings ≡ table (nth l.s k) l.i ++ drop l.i l.initial.buildings;
}
