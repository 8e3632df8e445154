-- `runs::open_numbered` is safe: two digits are text. Assumes nothing.
use Rattle.std.proofs.Common.{ℕ, ◌+◌, ◌<◌, ◌/◌, ◌%◌, [], ◌∷◌, arith, refl}
use Rattle.std.specs.Prelude.{Result, Ok, Err, MatchResult, IsOk, IsUtf8}
use Rattle.std.proofs.lemmas.Str.{IsUtf8-from_ascii}
use Rattle.std.proofs.lemmas.Str.Ascii.{IsAscii-nil, IsAscii-cons}
use Rattle.runs.proofs.open_numbered.Goals as goal

two_bytes : (a b : ℕ) → a < 128 → b < 128 → IsUtf8 (a ∷ b ∷ [])
two_bytes a b p q = IsUtf8-from_ascii (a ∷ b ∷ []) (IsAscii-cons a (b ∷ []) p (IsAscii-cons b [] q IsAscii-nil))

ok_where : {T E N : Type 0} (r : Result T E) (P : T → Type 0) (Q : E → Type 0) → N → MatchResult r P (λ e. (N → ⊥) × Q e) → IsOk r
ok_where (Ok x) P Q n m = refl
ok_where (Err e) P Q n m = absurd (m.0 n)

pub unwrap-name-requires : goal.unwrap-name-requires
unwrap-name-requires g c =
    ok_where c.from_utf8.result _ _ (two_bytes (48 + c.args.k / 10 % 10) (48 + c.args.k % 10) (omega arith) (omega arith)) c.from_utf8.ensures.cases
