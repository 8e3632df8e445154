-- The lines of the areas from i on: that of area i, and then those from i + 1 on. Assumes nothing.
use mathlib.Core.Path.{◌≡◌}
use mathlib.Core.List.{List, [], ◌∷◌}
use Prim.Native.Nat.{ℕ, ◌+◌, ◌<◌, ◌≤◌}
use native.Mathlib.Numerals.{add-one}
use lib.ListN.{length, get_or, drop}
use lib.Seq.{drop-cons}
use borrow.Author.Tests.{lt-ltb, le-ltb}
use Rattle.std.specs.Prelude.{Some, None}
use Rattle.std.proofs.lemmas.List.{drop_all}
use Rattle.model.specs.declared.Room.{Room}
use Rattle.model.specs.Refusal.{refuse, first}
use Rattle.model.specs.Areas.{room_lines}

module _ (rooms : List Room) (i : ℕ) (d : Room) (m : i < length rooms) where
  pub area_enough : (get_or rooms i d).needs ≤ (get_or rooms i d).has → first (room_lines (drop i rooms)) ≡ first (room_lines (drop (i + 1) rooms))
  unfolding first room_lines
  area_enough h = rw (drop-cons rooms i d m, le-ltb _ _ h, add-one i)

  pub area_small : (get_or rooms i d).has < (get_or rooms i d).needs → first (room_lines (drop i rooms)) ≡ Some (refuse 17 ((get_or rooms i d).area ∷ []))
  unfolding first room_lines
  area_small h = rw (drop-cons rooms i d m, lt-ltb _ _ h)

pub areas_done : (rooms : List Room) (i : ℕ) → length rooms ≤ i → first (room_lines (drop i rooms)) ≡ None
unfolding first room_lines
areas_done rooms i h = rw (drop_all i rooms h)
