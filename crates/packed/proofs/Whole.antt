-- What was read behind the header is what the bytes say. Assumes nothing.
use mathlib.Core.Path.{◌≡◌, ap, ◌∙◌}
use mathlib.Core.List.{List, ◌++◌}
use Prim.Native.Nat.{ℕ, ◌+◌, ◌*◌}
use lib.IntN.{ℤ}
use lib.ListN.{drop}
use Rattle.model.specs.declared.WallQuery.{WallQuery}
use Rattle.model.specs.Lists.{table}
use Rattle.model.specs.Areas.{begun}
use Rattle.model.specs.Packed.{field_at, signed, header_in, area_in, cells_in, word_in, words_in, query_in}
use Rattle.model.proofs.Lists.{table_length}
use Rattle.packed.specs.declared.Header.{Header}
use Rattle.bits.specs.Reading.{query_from}
use Rattle.packed.specs.Reading.{HeaderIs}
use Rattle.packed.proofs.Length.{area_of_header}

-- a list filled with n values begins with them
begun_table : {A : Type 0} (f : ℕ → A) (n : ℕ) (d : List A) → table f n ++ drop n d ≡ begun (table f n) d
begun_table f n d = rw (table_length f n)

module _ {s : List ℕ} {h : Header} (e : HeaderIs s h) where
  pub cells_read : (was now : List ℕ) (n : ℕ) → n ≡ h.width * h.height → now ≡ table (λ k. field_at s (40 + 5 * k) 5) n ++ drop n was → now ≡ begun (cells_in s) was
  cells_read was now n m f = f ∙ (begun_table _ n was ∙ ap (λ (k : ℕ). begun (table (λ j. field_at s (40 + 5 * j) 5) k) was) (m ∙ area_of_header e))

  pub words_read : (was now : List ℤ) (at : ℕ) → at ≡ 40 + 5 * area_in s → now ≡ table (λ j. signed (field_at s (at + 32 * j) 32)) (4 * h.obstacles) ++ drop (4 * h.obstacles) was
      → now ≡ begun (words_in s) was
  unfolding word_in
  words_read was now at m f = f ∙ (begun_table _ (4 * h.obstacles) was ∙ rw (m, e.obstacles))

  pub query_read : (q : WallQuery) → q ≡ query_from s (4 * (header_in s).obstacles) h.buildings → q ≡ query_in s
  query_read q f = f ∙ ap (query_from s (4 * (header_in s).obstacles)) e.buildings
