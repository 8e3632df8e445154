-- What validation has shown. Assumes nothing.
use Rattle.model.specs.declared.WallQuery.{WallQuery}
use Rattle.model.specs.Ground.{Ground}
use Rattle.model.specs.Accepted.{Valid}
use Rattle.placement.specs.Assessed.{Assessable}

-- an accepted query may be assessed
pub assessable : {g : Ground} {q : WallQuery} → Valid g q → Assessable g q.plan
assessable v = record {
  cells = v.cells;
  few = v.few;
  fitting = v.plan;
}
