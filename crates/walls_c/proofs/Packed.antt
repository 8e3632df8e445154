-- A packed query that is read and then checked. Assumes nothing.
use mathlib.Core.Path.{◌≡◌, sym, subst}
use mathlib.Core.List.{List}
use Prim.Native.Nat.{ℕ, ◌*◌}
use native.Mathlib.Omega.{arith}
use lib.ListN.{take}
use Rattle.std.specs.Prelude.{Result, Ok}
use Rattle.model.specs.declared.PackedQuery.{PackedQuery}
use Rattle.model.specs.declared.WallCheck.{WallCheck}
use Rattle.model.specs.declared.WallError.{WallError}
use Rattle.model.specs.Ground.{ground}
use Rattle.model.specs.Refusal.{given}
use Rattle.model.specs.Check.{CheckAreas, Answers, Continues}
use Rattle.model.specs.Packed.{ground_in, query_in, ReadAreas, ReadAnswers}
use Rattle.model.specs.Words.{number, check_words, written, PackedSaid}
use Rattle.model.proofs.Packed.{query_said, width_said, height_said, obstacles_said, cells_there, words_there, ground_said}
use Rattle.bits.proofs.Fields.{field_lt}
use Rattle.walls_c.specs.Held.{Held}

module _ {s : List ℕ} {was now : ReadAreas} {r : Result PackedQuery WallError} (a : ReadAnswers s was now r) where
  pub held : {p : PackedQuery} → r ≡ Ok p → Held p now.cells now.words
  held e =
      record {
        wide = omega (arith, width_said a e, field_lt s 0 10);
        high = omega (arith, height_said a e, field_lt s 10 10);
        many = omega (arith, obstacles_said a e, field_lt s 20 14);
        cells_there = cells_there a e;
        words_there = words_there a e;
      }

  module _ {areas : CheckAreas} {reply : Result WallCheck WallError} {before words : List ℕ} {told : ℕ} (said : (words ≡ written 0 (check_words reply) before) × (told ≡ number (given reply))) where
    -- read and checked
    pub checked : {after : CheckAreas} {p : PackedQuery} → r ≡ Ok p
        → Answers (ground p.width p.height (take (p.width * p.height) now.cells) (take (4 * p.obstacles) now.words)) p.query areas after reply
        → PackedSaid s was now areas after before words told
    checked {after} e h =
        let same : Answers (ground_in s) (query_in s) areas after reply = coe 0 1 (i. Answers (ground_said a e i) (query_said a e i) areas after reply) h in
        record { read = r; reads = a; reply = reply; continues = subst (λ (o : Result PackedQuery WallError). Continues o (ground_in s) (query_in s) areas after reply) (sym e) same; words = said.0; told_number = said.1 }
