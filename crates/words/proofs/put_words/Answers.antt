-- `words::put_words` meets its contract: as many words as there are places for are copied at once. Assumes nothing.
use native.Mathlib.Omega.{arith}
use mathlib.Core.Path.{◌≡◌, sym}
use Prim.Native.Nat.{◌+◌, ◌-◌}
use Rattle.words.proofs.Writing.{written_slice}
use Rattle.words.proofs.put_words.Goals as goal

pub returns : goal.returns
returns c =
    let a = c.args in
    let from = c.min-from.result in
    let n = c.min-n.result in
    let size : from + n - from ≡ n = omega arith in
    rw (size, c.copy_from_slice.ensures.after) (sym (written_slice a.at from n a.words.now a.out.now c.min-from.ensures c.min-n.ensures))
