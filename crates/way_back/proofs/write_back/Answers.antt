-- `way_back::write_back` meets its contract. The loop's invariant: the words of the n places after p stand first, the end's before the others. Assumes nothing.
use mathlib.Core.Path.{◌≡◌, sym, subst, subst₂}
use Prim.Native.Nat.{ℕ, ◌+◌, ◌-◌}
use native.Mathlib.Omega.{arith}
use lib.ListN.{get_or, set}
use Rattle.way_back.specs.Ways.{Laid}
use Rattle.way_back.proofs.Tracing.{Laying, laying_begun, laying_room, laying_more, laying_next, laid_all}
use Rattle.way_back.proofs.write_back.Goals as goal

pub loop-p-init : goal.loop-p-init
loop-p-init c =
    let a = c.args in
    let led = c.requires.led in
    let first : Laying a.parents.now a.start a.end a.frame a.out.now a.out.now 0 a.end = laying_begun a.out.now led.1 led.2 (omega arith) in
    record { laying = first; short = record { up = omega arith; down = omega arith }; room = laying_room first; parent = laying_more first }

pub loop-p-preserved : goal.loop-p-preserved
loop-p-preserved c =
    let a = c.args in
    let l = c.loop-p in
    let hop = c.hop_back-hop.result in
    let lands : get_or a.parents.now l.p 0 - 1 ≡ l.p + hop.up - hop.down = omega arith in
    let next : Laying a.parents.now a.start a.end a.frame a.out.now (set l.out l.n c.point.result) (l.n + 1) (l.p + hop.up - hop.down) = subst₂ (λ (v r : ℕ). Laying a.parents.now a.start a.end a.frame a.out.now (set l.out l.n v) (l.n + 1) r)
    (sym c.point.ensures) lands (laying_next l.invariant.laying c.loop-p-test.true) in record {
      laying = next;
      short = c.hop_back-hop.ensures.0;
      room = laying_room next;
      parent = laying_more next;
    }

pub returns : goal.returns
returns c =
    let a = c.args in
    let l = c.loop-p in
    subst (λ (v : ℕ). Laid a.parents.now a.start a.end a.frame (l.n + 1) a.out.now (set l.out l.n v)) (sym c.point-2.ensures) (laid_all l.invariant.laying c.loop-p-test.false)
