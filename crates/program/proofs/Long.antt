-- An input longer than the longest that is not refused: a part of it that is longer than that is refused as the whole is. Assumes nothing.
use mathlib.Core.Path.{◌≡◌, refl, sym, ap, subst, ◌∙◌}
use mathlib.Core.Bool.{◌||◌}
use mathlib.Core.List.{List, [], ◌++◌}
use Rattle.std.specs.Prelude.{Option, None, Some}
use Prim.Native.Nat.{ℕ, zero, suc, ◌+◌, ◌*◌, ◌/◌, ◌≤◌, ◌<◌}
use native.Mathlib.Nat.{mul-le-mul}
use native.Mathlib.Omega.{arith}
use native.Mathlib.Decide.{dec_lt}
use lib.Dec.{ltb}
use lib.ListN.{length, take, drop, length-append, length-take, take-append-drop, get_or-append}
use lib.Seq.{take_all}
use borrow.Author.Tests.{ltb-false, le-ltb}
use Rattle.numbers.proofs.First.{or_next}
use Rattle.model.specs.Refusal.{Refusal, refuse, first}
use Rattle.model.specs.Packed.{bit_at, field_at, header_in, bytes_in, packed_lines, ground_in, query_in}
use Rattle.model.specs.Report.{header_lines, reading_lines, check_lines, program_lines, PrintsAs, Prints}
use Rattle.model.proofs.Lines.{first_append, none_line, neither}
use Rattle.bits.proofs.Fields.{field_lt}
use Rattle.packed.proofs.Length.{too_long}
use Rattle.program.specs.Promise.{longest}

-- a field within the first bytes is a field of them
field_kept : (s more : List ℕ) (i n : ℕ) → i + n ≤ 8 * length s → field_at (s ++ more) i n ≡ field_at s i n
unfolding field_at bit_at
field_kept s more i zero h = refl
field_kept s more i (suc n) h =
    let within : (i + n) / 8 < length s = omega arith in
    rw (field_kept s more i n (omega arith), get_or-append s more 0 ((i + n) / 8) within)

-- so is the header, and what it decides
header_kept : (s more : List ℕ) → 5 ≤ length s → first (header_lines (s ++ more)) ≡ first (header_lines s)
unfolding first header_lines
header_kept s more h =
    rw (
      le-ltb (length (s ++ more)) 5 (omega (arith, length-append s more)),
      le-ltb (length s) 5 h,
      field_kept s more 0 10 (omega arith),
      field_kept s more 10 10 (omega arith),
      field_kept s more 20 14 (omega arith),
    )

-- a header that passes needs no more bytes than the longest: 64 by 64 cells, 32 obstacles and 63 buildings
few_bytes : (s : List ℕ) → first (header_lines s) ≡ None → bytes_in s ≤ longest
unfolding header_lines
few_bytes s e =
    let limit = (none_line _ _ (none_line _ _ e).1).0 in
    let last = neither (ltb 64 (header_in s).width || ltb 64 (header_in s).height) (ltb 32 (header_in s).obstacles) limit in
    let axes = neither (ltb 64 (header_in s).width) (ltb 64 (header_in s).height) last.0 in
    let w = ltb-false 64 (header_in s).width axes.0 in
    let h = ltb-false 64 (header_in s).height axes.1 in
    let n = ltb-false 32 (header_in s).obstacles last.1 in
    omega (arith, mul-le-mul w h, n, field_lt s 34 6)

-- a longer input is refused by the header, or with 19
long_refused : (s : List ℕ) → longest < length s → first (program_lines s) ≡ or_next (first (header_lines s)) (Some (refuse 19 []))
long_refused s h = first_append (header_lines s) _ ∙ by (first (header_lines s)) refl
  where
    by : (o : Option Refusal) → first (header_lines s) ≡ o → or_next o (first (reading_lines s ++ check_lines (ground_in s) (query_in s))) ≡ or_next o (Some (refuse 19 []))
    by None e =
        let tail = sym (too_long s (omega (arith, few_bytes s e))) in
        rw (first_append (reading_lines s) (check_lines (ground_in s) (query_in s)), first_append (packed_lines s) _, tail)
    by (Some r) e = refl

whole_prints : (s more out : List ℕ) → longest < length s → Prints s out → Prints (s ++ more) out
whole_prints s more out h p =
    let longer : longest < length (s ++ more) = omega (arith, length-append s more) in
    let same = long_refused (s ++ more) longer ∙ ap (λ (o : Option Refusal). or_next o (Some (refuse 19 []))) (header_kept s more (omega arith)) in
    subst (PrintsAs (ground_in (s ++ more)) (query_in (s ++ more)) out) (sym same) (carried (first (header_lines s)) (subst (PrintsAs (ground_in s) (query_in s) out) (long_refused s h) p))
  where
    carried : (o : Option Refusal) → PrintsAs (ground_in s) (query_in s) out (or_next o (Some (refuse 19 []))) → PrintsAs (ground_in (s ++ more)) (query_in (s ++ more)) out (or_next o (Some (refuse 19 [])))
    carried None q = q
    carried (Some r) q = q

-- an input of which all was read, or more than the longest that is not refused
pub read_prints : (b s out : List ℕ) (n : ℕ) → n ≤ length b → longest < length b → take (length b) s ≡ take n b → Prints (take n b) out → Prints s out
read_prints b s out n h l e p = by (dec_lt n (length b))
  where
    by : Dec (n < length b) → Prints s out
    by (yes m) =
        let short : length s ≤ length b = omega (arith, simp length-take at (ap length e)) in
        subst (λ (t : List ℕ). Prints t out) (sym e ∙ take_all (length b) s short) p
    by (no m) =
        let many : longest < length (take n b) = omega (arith, length-take n b) in
        subst (λ (t : List ℕ). Prints t out) (ap (λ (t : List ℕ). t ++ drop (length b) s) (sym e) ∙ take-append-drop (length b) s) (whole_prints (take n b) (drop (length b) s) out many p)
