-- Which of 18 and 19 a packed query is refused with, by its length and its filling bits. Assumes nothing.
use mathlib.Core.Path.{◌≡◌}
use mathlib.Core.List.{List, []}
use Rattle.std.specs.Prelude.{Some, None}
use Prim.Native.Nat.{ℕ, ◌-◌, ◌*◌, ◌≤◌, ◌<◌}
use native.Mathlib.Omega.{arith}
use lib.ListN.{length}
use borrow.Author.Tests.{lt-ltb, le-ltb, eq-eqb, ne_eqb}
use Rattle.model.specs.Refusal.{refuse, first}
use Rattle.model.specs.Packed.{field_at, area_in, bits_in, bytes_in, packed_lines}
use Rattle.packed.specs.declared.Header.{Header}
use Rattle.packed.specs.Reading.{HeaderIs, bits_of}

pub bits_of_header : {s : List ℕ} {h : Header} {n : ℕ} → HeaderIs s h → n ≡ bits_of h → n ≡ bits_in s
bits_of_header e m = rw (m, e.width, e.height, e.obstacles, e.buildings)

pub area_of_header : {s : List ℕ} {h : Header} → HeaderIs s h → h.width * h.height ≡ area_in s
area_of_header e = rw (e.width, e.height)

module _ (s : List ℕ) where
  -- the header alone is five bytes
  least : 5 ≤ bytes_in s
  least = omega arith

  -- the filling bits, as a number
  abbrev fill : ℕ
  fill = field_at s (bits_in s) (8 * bytes_in s - bits_in s)

  pub too_short : length s < bytes_in s → Some (refuse 18 []) ≡ first (packed_lines s)
  unfolding first packed_lines
  too_short h = rw (lt-ltb (length s) (bytes_in s) h)

  pub too_long : bytes_in s < length s → Some (refuse 19 []) ≡ first (packed_lines s)
  unfolding first packed_lines
  too_long h = rw (le-ltb (length s) (bytes_in s) (omega arith), le-ltb (length s) 5 (omega (arith, least)), lt-ltb (bytes_in s) (length s) h)

  pub bit_set : length s ≡ bytes_in s → (fill ≡ 0 → ⊥) → Some (refuse 19 []) ≡ first (packed_lines s)
  unfolding first packed_lines
  bit_set e h = rw (le-ltb (length s) (bytes_in s) (omega arith), le-ltb (length s) 5 (omega (arith, least)), le-ltb (bytes_in s) (length s) (omega arith), ne_eqb fill 0 h)

  pub whole : length s ≡ bytes_in s → fill ≡ 0 → None ≡ first (packed_lines s)
  unfolding first packed_lines
  whole e h = rw (le-ltb (length s) (bytes_in s) (omega arith), le-ltb (length s) 5 (omega (arith, least)), le-ltb (bytes_in s) (length s) (omega arith), eq-eqb fill 0 h)
