-- What the contracts of the reading functions say. Assumes nothing.
use Rattle.std.specs.Prelude.{◌≡◌, List, ℕ, ◌+◌, ◌*◌, ◌≤◌, ◌<◌}
use Rattle.model.specs.Packed.{header_in}
use Rattle.packed.specs.declared.Header.{Header}

-- a header's fields are as small as their bits
pub record Small (h : Header) : Type 0 where
  pub wide : h.width ≤ 1024
  pub high : h.height ≤ 1024
  pub many : h.obstacles < 16384
  pub planned : h.buildings < 64

-- h is the header of the bytes s
pub record HeaderIs (s : List ℕ) (h : Header) : Type 0 where
  pub width : h.width ≡ (header_in s).width
  pub height : h.height ≡ (header_in s).height
  pub obstacles : h.obstacles ≡ (header_in s).obstacles
  pub buildings : h.buildings ≡ (header_in s).buildings
  pub small : Small h

-- the bits that a header's counts need
abbrev pub bits_of : Header → ℕ
bits_of h = 40 + 5 * (h.width * h.height) + 32 * (4 * h.obstacles + 12 + 8 * h.buildings)
