-- The cells under a footprint, looked at row by row: the first of them that is unfit is the first of the bad cells. Assumes nothing.
use mathlib.Core.Path.{◌≡◌, sym, ap, subst}
use mathlib.Core.Bool.{Bool, true, false, not, ◌&&◌}
use mathlib.Core.List.{List}
use Prim.Native.Nat.{ℕ, ◌+◌, ◌*◌, ◌/◌, ◌%◌, ◌≤◌, ◌<◌}
use native.Mathlib.Decide.{dec_lt}
use native.Mathlib.Nat.{mul_comm, mul-le-mul_right, div-add-mod', div-eq_of_lt-le, div-lt_iff_lt-mul}
use native.Mathlib.Omega.{arith}
use lib.Dec.{T}
use lib.IntN.{pos}
use lib.ListN.{length, get_or}
use lib.Signed.{le_z}
use Rattle.numbers.proofs.Integers.{≤-nat}
use Rattle.numbers.proofs.Tests.{is_true, is_false, left_of, right_of, each_of_four}
use Rattle.numbers.proofs.Places.{rows_fit}
use Rattle.model.specs.declared.WallBuilding.{WallBuilding}
use Rattle.model.specs.Boxes.{meets, in_map, cell_box, footprint_box}
use Rattle.model.specs.Ground.{walkable, buildable}
use Rattle.model.specs.Placement.{bad_cells}
use Rattle.model.proofs.Meeting.{meeting, they_meet}
use Rattle.model.proofs.Places.{none_kept, first_kept}
use Rattle.std.specs.Prelude.{Some, None}
use Rattle.footprints.specs.Cells.{UnfitAt, unfit, head, bad_under, left_cell, right_cell, top_cell, bottom_cell, Covers}

-- the cell's column and row lie in these ranges
pub record Under (w left right top bottom j : ℕ) : Type 0 where
  pub from_left : left ≤ j % w
  pub to_right : j % w < right
  pub from_top : top ≤ j / w
  pub to_bottom : j / w < bottom

-- of the cells in the rows above y, none in the ranges is unfit
abbrev pub Clear : ℕ → ℕ → ℕ → ℕ → ℕ → List ℕ → ℕ → Type 0
Clear w left right top bottom cells y = (j : ℕ) → j / w < y → Under w left right top bottom j → unfit cells j ≡ false

module _ (w : ℕ) (b : WallBuilding) (j : ℕ) where
  abbrev Beneath : Type 0
  Beneath = Under w (left_cell b) (right_cell b) (top_cell b) (bottom_cell b) j

  -- a cell meets the footprint only where its column and row are the building's
  meets_under : T (meets (footprint_box b) (cell_box w j)) → Beneath
  meets_under t =
      let m = meeting (footprint_box b) (cell_box w j) t in
      record { from_left = omega arith; to_right = omega arith; from_top = omega arith; to_bottom = omega arith }

  -- and there it does
  under_meets : Beneath → meets (footprint_box b) (cell_box w j) ≡ true
  under_meets u =
      is_true (meets (footprint_box b) (cell_box w j)) (they_meet (footprint_box b) (cell_box w j) (record { left = omega arith; right = omega arith; top = omega arith; bottom = omega arith }))

  -- a place of a row of the building
  in_row : (y : ℕ) → right_cell b ≤ w → top_cell b ≤ y → y < bottom_cell b → y * w + left_cell b ≤ j → j < y * w + right_cell b → Beneath
  in_row y r u d l k =
      let q : j / w ≡ y = div-eq_of_lt-le w (omega arith) (omega arith) in
      let e : y * w + j % w ≡ j = rw q at (div-add-mod' j w) in
      record { from_left = omega arith; to_right = omega arith; from_top = omega arith; to_bottom = omega arith }

module _ (w : ℕ) (cells : List ℕ) (b : WallBuilding) where
  abbrev ClearUnder : ℕ → Type 0
  ClearUnder y = Clear w (left_cell b) (right_cell b) (top_cell b) (bottom_cell b) cells y

  -- the test of a bad cell
  abbrev bad : ℕ → ℕ → Bool
  bad i c = meets (footprint_box b) (cell_box w i) && not (walkable c && buildable c)

  not_bad : (j : ℕ) → (Beneath w b j → unfit cells j ≡ false) → bad j (get_or cells j 0) ≡ false
  not_bad j fit =
      let under = meets (footprint_box b) (cell_box w j) in
      is_false (under && unfit cells j) (λ t. subst T (fit (meets_under w b j (left_of under (unfit cells j) t))) (right_of under (unfit cells j) t))

  module _ (y : ℕ) (clear : ClearUnder y) where
    -- a cell of the rows up to y, fit if it is one of row y
    up_to : (j : ℕ) → j / w < y + 1 → Beneath w b j → (y * w + left_cell b ≤ j → j < y * w + right_cell b → unfit cells j ≡ false) → unfit cells j ≡ false
    up_to j h u fit = pick (dec_lt (j / w) y)
      where
        pick : Dec (j / w < y) → unfit cells j ≡ false
        pick (yes l) = clear j l u
        pick (no l) =
            let q : j / w ≡ y = omega arith in
            let e : y * w + j % w ≡ j = rw q at (div-add-mod' j w) in
            fit (omega arith) (omega arith)

    -- a row with one: the first there is the first of the bad cells
    pub row_stopped : (i : ℕ) → Covers w cells b → top_cell b ≤ y → y < bottom_cell b → UnfitAt cells (y * w + left_cell b) (y * w + right_cell b) i → Some i ≡ head (bad_under w cells b)
    unfolding bad_cells
    row_stopped i v top bottom u =
        let beneath = in_row w b i y v.across top bottom u.low u.high in
        let within : i < length cells = omega (arith, rows_fit w y (bottom_cell b) (length cells) bottom v.down) in
        let some : 0 < w = omega arith in
        let none_before : (j : ℕ) → j < i → bad j (get_or cells j 0) ≡ false = λ j h. not_bad j (λ n. up_to j ((div-lt_iff_lt-mul some).1 (omega arith)) n (λ l r. u.before j l h)) in
        sym (ap head (first_kept bad 0 cells i within none_before (rw (under_meets w b i beneath) u.here)).1)

    -- past the building's rows: there is no bad cell
    pub rows_done : bottom_cell b ≤ y → None ≡ head (bad_under w cells b)
    unfolding bad_cells
    rows_done h = sym (ap head (none_kept bad 0 cells (λ j k. not_bad j (λ n. clear j (omega arith) n))))

-- a footprint in the map covers cells of the map
pub in_map_covers : (w h : ℕ) (cells : List ℕ) (b : WallBuilding) → in_map w h (footprint_box b) ≡ true → length cells ≡ w * h → Covers w cells b
unfolding in_map
in_map_covers w h cells b e l =
    let f = footprint_box b in
    let sides = each_of_four (le_z (pos 0) f.left) (le_z (pos 0) f.top) (le_z f.right (pos (8 * w))) (le_z f.bottom (pos (8 * h))) (subst T (sym e) tt) in
    let right = ≤-nat {a = f.right} {b = pos (8 * w)} (record { le = sides.2 }) in
    let bottom = ≤-nat {a = f.bottom} {b = pos (8 * h)} (record { le = sides.3 }) in
    let rows : bottom_cell b ≤ h = omega arith in
    record { across = omega arith; down = omega (arith, mul-le-mul_right w rows, mul_comm w h) }
