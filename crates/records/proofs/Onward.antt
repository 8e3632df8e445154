-- From the copying to the check: the check's words are those of the rectangles. Assumes nothing.
use mathlib.Core.Path.{◌≡◌, ap, ◌∙◌}
use mathlib.Core.List.{List}
use Prim.Native.Nat.{ℕ, ◌*◌, ◌≤◌}
use native.Mathlib.Omega.{arith}
use lib.IntN.{ℤ}
use lib.ListN.{length, take, drop, length-append}
use lib.Seq.{take_at}
use Rattle.model.specs.declared.PixelRect.{PixelRect}
use Rattle.std.specs.Prelude.{Result, Ok}
use Rattle.model.specs.declared.WallCheck.{WallCheck}
use Rattle.model.specs.declared.WallError.{WallError}
use Rattle.model.specs.declared.WallQuery.{WallQuery}
use Rattle.model.specs.Ground.{ground}
use Rattle.model.specs.Check.{CheckAreas, Answers}
use Rattle.model.specs.Records.{words_of, Copies, RecordAnswers}
use Rattle.model.proofs.Records.{words_length}

module _ (rs : List PixelRect) (was now : List ℤ) where
  -- an accepted copy begins with the words of the rectangles
  copied : Copies rs was now (Ok tt) → take (4 * length rs) now ≡ words_of rs
  copied h = ap (take (4 * length rs)) h.leaves ∙ take_at (words_of rs) _ (4 * length rs) (words_length rs)

  -- so that the check finds them all
  pub enough : (told : Result Unit WallError) → Copies rs was now told → told ≡ Ok tt → 4 * length rs ≤ length now
  enough told h e =
      let leaves = (rw e at h).leaves in
      let long = ap (λ (l : List ℤ). length l) leaves ∙ length-append (words_of rs) (drop (length (words_of rs)) was) in
      omega (arith, long, words_length rs)

  module _ (width height : ℕ) (cells : List ℕ) (q : WallQuery) (lent left : CheckAreas) (r : Result WallCheck WallError) where
    pub joined : Copies rs was now (Ok tt) → Answers (ground width height cells (take (4 * length rs) now)) q lent left r → RecordAnswers width height cells rs q was now lent left r
    joined h c = record { told = Ok tt; copies = h; continues = rw (copied h) at c }
