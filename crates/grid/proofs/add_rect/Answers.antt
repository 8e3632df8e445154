-- `grid::add_rect` meets its contract: the four stores are `stamps`. Assumes nothing.
use Rattle.std.proofs.Common.{inl, inr}
use Rattle.grid.proofs.Boxes.{boxed, empty_boxed}
use Rattle.grid.proofs.add_rect.Goals as goal

pub returns-then-left-right : goal.returns-then-left-right
returns-then-left-right c = empty_boxed _ _ _ _ _ _ (inl c.if-left-right.true)

pub returns-then-top-bottom : goal.returns-then-top-bottom
returns-then-top-bottom c = empty_boxed _ _ _ _ _ _ (inr c.if-top-bottom.true)

pub returns : goal.returns
returns c =
    rw (c.add_at-4.ensures, c.add_at-3.ensures, c.add_at-2.ensures, c.add_at.ensures)
    (boxed _ _ _ _ _ _ c.if-left-right.false c.if-top-bottom.false c.requires.right_lt_stride c.requires.stride_in_bounds)
