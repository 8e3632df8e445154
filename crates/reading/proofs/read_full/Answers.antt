-- `reading::read_full` meets its contract: each read puts what it took from the input behind what is there. Assumes nothing.
use Rattle.std.proofs.Common.{◌≡◌, ℕ, ◌+◌, ◌≤◌, List, ◌++◌, length, take, drop, arith, subst, sym, ap, ◌∙◌, drop_at, length-take-le}
use Rattle.std.proofs.lemmas.Grind.{common_steps}
use Rattle.std.proofs.lemmas.List.{take-append-le}
use Rattle.std.specs.Io.KnownBytes.{Consumes}
use Rattle.std.proofs.KnownBytes.{Consumes-trans}
use borrow.Rule.Slice.PartMut.{put_mid, post_of}
use lib.Seq.{take-add, take_at}
use Rattle.reading.proofs.read_full.Goals as goal

filled : (d k n : ℕ) (xs ys : List ℕ) → d ≤ length xs → n ≤ length ys → take (d + n) (put_mid d k xs ys) ≡ take d xs ++ take n ys
filled d k n xs ys within fits =
    let front = length-take-le d xs within in
    let after = ys ++ post_of d k xs in
    take-add d n (take d xs ++ after) ∙ ap (λ l. l ++ take n (drop d (take d xs ++ after))) (take_at (take d xs) after d front)
    ∙ ap (λ l. take d xs ++ take n l) (drop_at (take d xs) after d front) ∙ ap (λ l. take d xs ++ l) (take-append-le n ys (post_of d k xs) fits)

pub loop-done-preserved : goal.loop-done-preserved
loop-done-preserved g c = record {
  within = grind (arith, common_steps);
  bytes = subst (Consumes _ _) (sym (filled c.loop-done.done _ c.in_ok-n.n c.loop-done.buffer c.read.new.buf c.loop-done.invariant.within c.in_ok-n.ensures.bound.0)) (Consumes-trans _ _ _ _ _ c.loop-done.invariant.bytes c.in_ok-n.ensures.bytes.0);
}
