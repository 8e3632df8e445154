-- `route_list::leads_to` meets its contract. The loop's invariant: the points from the first on lead to the end as those from i on do. Assumes nothing.
use mathlib.Core.Path.{sym, ap, ◌∙◌}
use mathlib.Core.Bool.{Bool, ◌&&◌}
use Prim.Native.Nat.{◌+◌}
use native.Mathlib.Omega.{arith}
use Rattle.route_list.proofs.Reading.{From, from_told}
use Rattle.route_list.proofs.leads_to.Goals as goal

pub returns-then-not-goes_on : goal.returns-then-not-goes_on
returns-then-not-goes_on c =
    let a = c.args in
    let i = c.loop-i.i in
    λ free agree. sym (c.loop-i.invariant free agree
    ∙ from_told free a.end a.list.now i _ _ c.goes_on.result (omega arith) c.point_of.ensures c.point_of-in-loop-i.ensures (c.goes_on.ensures free agree)
    ∙ ap (λ (t : Bool). t && From free a.end a.list.now (i + 1)) c.if-not-goes_on.true)

pub loop-i-preserved : goal.loop-i-preserved
loop-i-preserved c =
    let a = c.args in
    let i = c.loop-i.i in
    λ free agree. c.loop-i.invariant free agree
    ∙ from_told free a.end a.list.now i _ _ c.goes_on.result (omega arith) c.point_of.ensures c.point_of-in-loop-i.ensures (c.goes_on.ensures free agree)
    ∙ ap (λ (t : Bool). t && From free a.end a.list.now (i + 1)) c.if-not-goes_on.false
