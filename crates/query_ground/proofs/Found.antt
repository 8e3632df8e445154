-- What a search of the cells or of the obstacles shows of their lines. Assumes nothing.
use mathlib.Core.Path.{◌≡◌}
use mathlib.Core.Bool.{true, false}
use mathlib.Core.List.{List, [], ◌∷◌}
use Rattle.std.specs.Prelude.{Some, None}
use Prim.Native.Nat.{ℕ, ◌<◌, ◌≤◌}
use lib.IntN.{ℤ}
use lib.ListN.{length, get_or}
use borrow.Author.Tests.{le-leb, lt-leb, lt-ltb}
use Rattle.model.specs.Check.{no_rect}
use Rattle.model.specs.Ground.{elevation, rects}
use Rattle.model.specs.Refusal.{refuse, first, hollow, faulty, cell_lines}
use Rattle.model.proofs.Places.{none_kept, first_kept}
use Rattle.query_ground.specs.Searches.{is_faulty, FirstFault, hollow_lines}

-- ---- cells
pub no_fault : (cells : List ℕ) → FirstFault cells None → first (cell_lines cells (faulty cells)) ≡ None
unfolding first cell_lines faulty
no_fault cells f = rw (none_kept (λ i c. is_faulty c) 0 cells f)

module _ (cells : List ℕ) (r : ℕ) (f : FirstFault cells (Some r)) where
  kept : (rest : List ℕ) × (faulty cells ≡ r ∷ rest)
  unfolding faulty
  kept = first_kept (λ i c. is_faulty c) 0 cells r f.0 f.2 f.1

  pub bad_cell : 32 ≤ get_or cells r 0 → first (cell_lines cells (faulty cells)) ≡ Some (refuse 3 (r ∷ []))
  unfolding first cell_lines
  bad_cell h = rw (kept.1, le-leb 32 (get_or cells r 0) h)

  pub bad_elevation : get_or cells r 0 < 32 → first (cell_lines cells (faulty cells)) ≡ Some (refuse 4 (r ∷ elevation (get_or cells r 0) ∷ []))
  unfolding first cell_lines
  bad_elevation h = rw (kept.1, lt-leb 32 (get_or cells r 0) h, lt-ltb (get_or cells r 0) 32 h)

-- ---- obstacles
module _ (ws : List ℤ) where
  pub none_hollow : ((k : ℕ) → k < length (rects ws) → hollow (get_or (rects ws) k no_rect) ≡ false) → first (hollow_lines ws) ≡ None
  unfolding first
  none_hollow h = rw (none_kept (λ i r. hollow r) no_rect (rects ws) h)

  pub first_hollow : (i : ℕ) → i < length (rects ws) → ((k : ℕ) → k < i → hollow (get_or (rects ws) k no_rect) ≡ false) → hollow (get_or (rects ws) i no_rect) ≡ true
      → first (hollow_lines ws) ≡ Some (refuse 7 (i ∷ []))
  unfolding first
  first_hollow i m h e = rw (first_kept (λ i r. hollow r) no_rect (rects ws) i m h e).1
