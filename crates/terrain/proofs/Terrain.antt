-- The unwalkable cells within reach of the window stop the mover where any unwalkable cell of the map does. Assumes nothing.
use mathlib.Core.Path.{◌≡◌, sym, ◌∙◌}
use mathlib.Core.Bool.{Bool, not, ◌&&◌}
use mathlib.Core.List.{List, map}
use Prim.Native.Nat.{ℕ, ◌+◌, ◌*◌, ◌/◌, ◌%◌, ◌≤◌, ◌<◌}
use native.Mathlib.Nat.{div-add-mod'}
use native.Mathlib.Omega.{arith}
use lib.ListN.{length, get_or}
use Rattle.numbers.proofs.Tests.{right_of}
use Rattle.model.specs.declared.CollisionBounds.{CollisionBounds}
use Rattle.model.specs.Lists.{places}
use Rattle.model.specs.Boxes.{meets, around, cell_box}
use Rattle.model.specs.Ground.{walkable}
use Rattle.stamps.specs.declared.Frame.{Frame}
use Rattle.stamps.specs.declared.Span.{Span}
use Rattle.stamps.specs.Stamps.{stop, stops, among}
use Rattle.stamps.proofs.Some.{Passing, passing, passed, among_alike, any_map}
use Rattle.terrain.specs.Terrain.{cell_at, row_stops, reach_of}
use Rattle.terrain.proofs.Cells.{reaches}
use Rattle.terrain.proofs.Places.{any_places}

-- column and row of a cell
column_row : (width c r : ℕ) → c < width → ((r * width + c) % width ≡ c) × ((r * width + c) / width ≡ r)
column_row width c r h = grind arith

row_of : (width height i : ℕ) → i < width * height → i / width < height
row_of width height i h = grind arith

-- a cell that the mover reaches from a center of the window is one of those looked at, on one axis
within_reach : (start size before after cells x c : ℕ) → x < size → c < cells → start + x < 8 * c + 8 + before → 8 * c ≤ start + x + after
    → ((reach_of start size before after cells).from ≤ c) × (c < (reach_of start size before after cells).to)
within_reach start size before after cells x c hx hc p q = (omega arith, omega arith)

module _ (f : Frame) (m : CollisionBounds) (cells : List ℕ) (width height : ℕ) (size : length cells ≡ width * height) where
  abbrev columns : Span
  columns = reach_of f.left f.width m.left m.right width

  abbrev rows : Span
  rows = reach_of f.top f.height m.top m.bottom height

  module _ (x y : ℕ) (hx : x < f.width) (hy : y < f.height) where
    -- an unwalkable cell stops the mover, by column and row, and by its number
    abbrev cell : ℕ → ℕ → Bool
    cell r c = not (walkable (get_or cells (r * width + c) 0)) && stop f m (cell_at c r) x y

    abbrev numbered : ℕ → Bool
    numbered i = not (walkable (get_or cells i 0)) && stop f m (cell_box width i) x y

    abbrev row : ℕ → Bool
    row r = row_stops f m cells width r columns.from columns.to x y

    out : Passing rows.from rows.to row → Passing 0 (length cells) numbered
    out p =
        let r = p.number in
        let q = passing (cell r) columns.from columns.to p.passes in
        let c = q.number in
        let hc : c < width = omega (arith, q.high) in
        let e = column_row width c r hc in
        record {
          number = r * width + c;
          low = omega arith;
          high = grind (arith, p.high);
          passes = rw (e.1, e.0) q.passes;
        }

    back : Passing 0 (length cells) numbered → Passing rows.from rows.to row
    back p =
        let i = p.number in
        let c = i % width in
        let r = i / width in
        let hr : r < height = row_of width height i (omega (arith, p.high, size)) in
        let hc : c < width = grind arith in
        let k = reaches m (f.left + x) (f.top + y) (8 * c) (8 * r) (8 * c + 8) (8 * r + 8) (right_of (not (walkable (get_or cells i 0))) (stop f m (cell_at c r) x y) p.passes) in
        let h = within_reach f.left f.width m.left m.right width x c hx hc k.before k.after in
        let v = within_reach f.top f.height m.top m.bottom height y r hy hr k.above k.below in
        record {
          number = r;
          low = v.0;
          high = v.1;
          passes = passed (cell r) {a = columns.from} {b = columns.to} (record {
            number = c;
            low = h.0;
            high = h.1;
            passes = rw (div-add-mod' i width) p.passes;
          });
        }

    pub terrain_stops : among rows.from rows.to row ≡ stops f m (map (cell_box width) (places (λ i c. not (walkable c)) cells)) x y
    terrain_stops =
        among_alike row numbered rows.from rows.to 0 (length cells) out back
        ∙ sym
        (any_map (meets (around m (f.left + x) (f.top + y))) (cell_box width) (places (λ i c. not (walkable c)) cells)
        ∙ any_places (λ c. not (walkable c)) 0 (λ i. stop f m (cell_box width i) x y) cells)

  -- the same, of the spans and the row that a loop has come to
  pub reached_rows : {c r : Span} {end : ℕ} → c ≡ columns → r ≡ rows → end ≡ r.to → (x y : ℕ) → x < f.width → y < f.height
      → among r.from end (λ n. row_stops f m cells width n c.from c.to x y) ≡ stops f m (map (cell_box width) (places (λ i c. not (walkable c)) cells)) x y
  reached_rows p q e x y hx hy = rw (e, q, p) (terrain_stops x y hx hy)
