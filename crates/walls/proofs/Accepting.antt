-- What the stages of a check have shown once none refuses, and the answer that they make together. Assumes nothing.
use mathlib.Core.Path.{◌≡◌, sym, ap, ◌∙◌}
use mathlib.Core.List.{List, ◌++◌}
use Prim.Native.Nat.{◌/◌}
use native.Mathlib.Omega.{arith}
use lib.ListN.{length}
use Rattle.std.specs.Prelude.{None, Result, Ok}
use Rattle.model.specs.declared.WallError.{WallError}
use Rattle.model.specs.declared.WallQuery.{WallQuery}
use Rattle.model.specs.Ground.{Ground, obstacles}
use Rattle.model.specs.Refusal.{Line, given, first, query_lines}
use Rattle.model.specs.Accepted.{Valid}
use Rattle.model.proofs.Lines.{none_both}
use Rattle.model.proofs.Valid.{valid}
use Rattle.rooms.specs.Lengths.{Small}

-- ---- after 1 to 16
module _ (g : Ground) (q : WallQuery) {A : Type 0} {o : Result A WallError} {x : A} (e : o ≡ Ok x) (h : given o ≡ first (query_lines g q)) where
  pub queried : Valid g q
  queried = valid g q (sym h ∙ ap given e)

  pub small : Small q.window
  small = record { width = queried.window.width_small; height = queried.window.height_small }

  pub obstacle_count : length g.words / 4 ≡ length (obstacles g)
  obstacle_count = omega (arith, queried.words)

-- ---- after 17, too
module _ (g : Ground) (q : WallQuery) (lines : List Line) {A : Type 0} {o : Result A WallError} {x : A} (e : o ≡ Ok x) (h : given o ≡ first (query_lines g q ++ lines)) where
  pub all_valid : Valid g q
  all_valid = valid g q (none_both (query_lines g q) lines (sym h ∙ ap given e)).0

  pub none_small : first lines ≡ None
  none_small = (none_both (query_lines g q) lines (sym h ∙ ap given e)).1
