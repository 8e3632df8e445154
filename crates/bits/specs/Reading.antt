-- What the contracts of the reading methods say. Assumes nothing.
use Rattle.std.specs.Prelude.{◌≡◌, List, ◌++◌, ℕ, ◌+◌, ◌-◌, ◌*◌, ◌<◌, min, replicate}
use Rattle.model.specs.declared.Plan.{Plan}
use Rattle.model.specs.declared.WallQuery.{WallQuery}
use Rattle.model.specs.Lists.{table}
use Rattle.model.specs.Packed.{area_in, rect_in, point_in, extents_in, building_in, no_building}

-- Bit `at` is where word k behind the cells begins.
abbrev pub AtWord : List ℕ → ℕ → ℕ → Type 0
AtWord s at k = at ≡ 40 + 5 * area_in s + 32 * k

-- n bits from bit `at` on end where a cursor can still read
abbrev pub Near : ℕ → ℕ → Type 0
Near at n = at + n < 4611686018427387904

-- the plan of n buildings whose words begin at place k
abbrev pub plan_in : List ℕ → ℕ → ℕ → Plan
plan_in s k n = record { buildings = table (λ i. building_in s (k + 8 * i)) (min n 32) ++ replicate (32 - n) no_building; count = n }

-- the query with n buildings whose words begin at place k
abbrev pub query_from : List ℕ → ℕ → ℕ → WallQuery
query_from s k n = record { window = rect_in s k; start = point_in s (k + 4); end = point_in s (k + 6); mover = extents_in s (k + 8); plan = plan_in s (k + 12) n }
