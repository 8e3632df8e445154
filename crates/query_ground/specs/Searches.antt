-- What a search of the cells finds, and what a search of the obstacles is to answer. Assumes nothing.
use Rattle.std.specs.Prelude.{◌≡◌, Bool, true, false, ◌||◌, Option, Some, None, List, [], ◌∷◌, ℕ, ◌<◌, leb, eqb, ℤ, length, get_or}
use Rattle.model.specs.Lists.{places}
use Rattle.model.specs.Ground.{elevation, rects}
use Rattle.model.specs.Refusal.{Line, line_at, hollow}

-- a cell is 32 or more, or has elevation 3
abbrev pub is_faulty : ℕ → Bool
is_faulty c = leb 32 c || eqb (elevation c) 3

-- r is the place of the first faulty cell, if one is
abbrev pub FirstFault : List ℕ → Option ℕ → Type 0
FirstFault cells (Some r) = (r < length cells) × (is_faulty (get_or cells r 0) ≡ true) × ((k : ℕ) → k < r → is_faulty (get_or cells k 0) ≡ false)
FirstFault cells None = (k : ℕ) → k < length cells → is_faulty (get_or cells k 0) ≡ false

-- 7 alone: the first obstacle with left ≥ right or top ≥ bottom
abbrev pub hollow_lines : List ℤ → List Line
hollow_lines words = line_at 7 (places (λ i o. hollow o) (rects words)) (λ i. true) (λ i. i ∷ []) ∷ []
