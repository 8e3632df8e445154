-- `text::put` meets its contract. After k turns the first k bytes of the text are pasted over the buffer. Assumes nothing.
use native.Mathlib.Omega.{arith}
use Prim.Native.Nat.{◌+◌}
use mathlib.Core.Path.{◌≡◌, refl, ap, ◌∙◌}
use native.Mathlib.Numerals.{add-one}
use lib.ListN.{length, take, drop, length-set}
use lib.Seq.{paste-zero, paste-suc, take-paste, drop-paste, take_all}
use Rattle.text.proofs.put.Goals as goal

pub loop-k-init : goal.loop-k-init
loop-k-init c = (refl, paste-zero c.args.out.now c.args.at c.args.text.now)

pub loop-k-preserved : goal.loop-k-preserved
loop-k-preserved c =
    let x = c.loop-k in
    let a = c.args in (
      simp length-set x.invariant.0,
      rw (x.invariant.1, add-one x.k) (paste-suc a.out.now a.at a.text.now x.k 0 (omega arith) (omega arith)),
    )

pub returns : goal.returns
returns c =
    let x = c.loop-k in
    let a = c.args in
    let n = length a.text.now in
    let all : x.k ≡ n = omega arith in
    let pasted = rw all at x.invariant.1 in
    record {
      next = omega arith;
      front =
          ap (take (a.at + n)) pasted
          ∙ take-paste a.out.now a.at a.text.now n (omega arith) (omega arith)
          ∙ rw (take_all n a.text.now (omega arith));
      rest = ap (drop (a.at + n)) pasted ∙ drop-paste a.out.now a.at a.text.now n (omega arith) (omega arith);
    }
