-- Places, centers and what surrounds them. A place is a center's row times the window's width, and its column. Assumes nothing.
use Rattle.std.specs.Prelude.{◌≡◌, List, [], ◌∷◌, ℕ, ◌+◌, ◌*◌, ◌-◌, ◌/◌, ◌%◌, ◌<◌, ◌≤◌, length, get_or, ℤ, pos}
use Rattle.model.specs.declared.PixelPosition.{PixelPosition}
use Rattle.model.specs.Steps.{steps, raised}
use Rattle.marks.specs.Marks.{Unmarked}
use Rattle.search.specs.declared.Field.{Field}
use Rattle.search.specs.declared.Center.{Center}

-- the window's center at place p
abbrev pub center : ℕ → ℕ → PixelPosition
center w p = record { x = p % w; y = p / w }

-- how many centers a field has
abbrev pub size : Field → ℕ
size f = f.width * f.height

-- a center of the field is free
abbrev pub Free : Field → ℕ → ℕ → Type 0
Free f x y = Unmarked f.marks.now f.width f.height x y

-- A field of few centers, each of which has a mark.
pub record Marked (f : Field) : Type 0 where
  pub limit : size f ≤ 1048576
  pub long : size f ≤ length f.marks.now

-- A center of the field, by its place.
pub record Placed (f : Field) (c : Center) : Type 0 where
  pub place : c.place ≡ c.y * f.width + c.x
  pub column : c.x < f.width
  pub row : c.y < f.height

-- The areas of a search among w by h centers.
pub record Areas (w h : ℕ) (marks parents queue : List ℕ) : Type 0 where
  pub limit : w * h ≤ 1048576
  pub marks_long : w * h ≤ length marks
  pub parents_long : length parents ≡ w * h
  pub queue_long : length queue ≡ w * h

-- the first n places are zero
abbrev pub Blank : ℕ → List ℕ → Type 0
Blank n area = (i : ℕ) → i < n → get_or area i 0 ≡ 0

-- (x, y) is not at the window's edge.
pub record Inner (w h x y : ℕ) : Type 0 where
  pub west : 0 < x
  pub east : x + 1 < w
  pub north : 0 < y
  pub south : y + 1 < h

-- a move along x and one along y, each and one more
abbrev pub eastward : List ℤ → ℕ
eastward d = raised (get_or d 0 (pos 0))

abbrev pub southward : List ℤ → ℕ
southward d = raised (get_or d 1 (pos 0))

-- d is a move by at most one along each axis.
pub record Small (d : List ℤ) : Type 0 where
  pub x : eastward d ≤ 2
  pub y : southward d ≤ 2

-- The step d from (x, y) stays in the window.
pub record Stays (w h x y : ℕ) (d : List ℤ) : Type 0 where
  pub west : 1 ≤ x + eastward d
  pub east : x + eastward d ≤ w
  pub north : 1 ≤ y + southward d
  pub south : y + southward d ≤ h

-- the place that the step d leads to from place p
abbrev pub ahead : ℕ → ℕ → List ℤ → ℕ
ahead w p d = p + (eastward d + southward d * w) - (w + 1)

-- m is 0 exactly where the step d leads from (x, y) to a center that is free.
pub record Seen (free : ℕ → ℕ → Type 0) (x y : ℕ) (d : List ℤ) (m : ℕ) : Type 0 where
  pub is : m ≡ 0 → (q : PixelPosition) × (q.x + 1 ≡ x + eastward d) × (q.y + 1 ≡ y + southward d) × free q.x q.y
  pub all : (q : PixelPosition) → q.x + 1 ≡ x + eastward d → q.y + 1 ≡ y + southward d → free q.x q.y → m ≡ 0
  pub small : m ≤ 255

-- entry k is 0 exactly where step k leads from (x, y) to a center that is free, whatever its sides
abbrev pub Around : (ℕ → ℕ → Type 0) → ℕ → ℕ → List ℕ → Type 0
Around free x y around = (k : ℕ) → k < 8 → Seen free x y (get_or steps k []) (get_or around k 0)

-- the steps along x and along y that a diagonal step, from 4 on, is made of
abbrev pub side_x : ℕ → ℕ
side_x k = get_or (0 ∷ 1 ∷ 2 ∷ 3 ∷ 0 ∷ 2 ∷ 2 ∷ 0 ∷ []) k 0

abbrev pub side_y : ℕ → ℕ
side_y k = get_or (0 ∷ 1 ∷ 2 ∷ 3 ∷ 1 ∷ 1 ∷ 3 ∷ 3 ∷ []) k 0

-- The corner rule: entry k of bars is 0 exactly where that of around is, and of a diagonal step also those of both its sides.
pub record Allows (around bars : List ℕ) : Type 0 where
  pub opens : (k : ℕ) → k < 8 → get_or bars k 0 ≡ 0 → (get_or around k 0 ≡ 0) × (4 ≤ k → (get_or around (side_x k) 0 ≡ 0) × (get_or around (side_y k) 0 ≡ 0))
  pub joins : (k : ℕ) → k < 8 → get_or around k 0 ≡ 0 → (4 ≤ k → (get_or around (side_x k) 0 ≡ 0) × (get_or around (side_y k) 0 ≡ 0)) → get_or bars k 0 ≡ 0
  pub small : (k : ℕ) → k < 8 → get_or bars k 0 ≤ 765
