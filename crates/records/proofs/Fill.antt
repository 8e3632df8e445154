-- Of `copy_obstacles`, over plain lists: what holds at each turn, and what follows from it. Assumes nothing.
-- The loop lays the words of one rectangle after the other over a list d: after i turns it is `words_of (take i rs) ++ drop (4 * i) d`.
--     Inv           the loop's invariant: that, at a list as long as d
--     begins, again, ends     it holds at first, after the four stores of a turn, and at the end it is what the contract says
--     refuses       what the contract says where there is too little room
use mathlib.Core.Path.{◌≡◌, refl, sym, ap, subst, ◌∙◌}
use mathlib.Core.List.{List, [], ◌∷◌, ◌++◌}
use Prim.Native.Nat.{ℕ, zero, suc, ◌+◌, ◌*◌, ◌<◌, ◌≤◌}
use native.Mathlib.Nat.{not-suc-le-zero, le_of_suc-le-suc}
use native.Mathlib.Numerals.{unary_clauses}
use native.Mathlib.Omega.{arith}
use borrow.Author.Tests.{lt-ltb, le-ltb}
use lib.IntN.{ℤ}
use lib.ListN.{length, set, take, drop, get_or, length-set}
use Rattle.model.specs.declared.PixelRect.{PixelRect}
use Rattle.std.specs.Prelude.{Ok, Err}
use Rattle.model.specs.declared.WallError.TheVariants.{RoomTooSmall}
use Rattle.model.specs.Refusal.{first}
use Rattle.model.specs.Areas.{room_lines}
use Rattle.model.specs.Records.{words_of, Copies}
use Rattle.model.proofs.Records.{words_length}
use Rattle.records.specs.Stores.{stored}

-- the list after i turns, with k for 4 * i
abbrev filled : List PixelRect → List ℤ → ℕ → ℕ → List ℤ
filled rs d i k = words_of (take i rs) ++ drop k d

-- 4 * i, by which a list can be taken apart
abbrev quad : ℕ → ℕ
quad zero = zero
quad (suc i) = suc (suc (suc (suc (quad i))))

quad_is : (i : ℕ) → quad i ≡ 4 * i
quad_is zero = refl
quad_is (suc i) = omega (arith, quad_is i)

-- the four stores of a turn lay one more rectangle
turn : (i : ℕ) (rs : List PixelRect) (d : List ℤ) (z : PixelRect) → i < length rs → quad (suc i) ≤ length d
    → stored (filled rs d i (quad i)) (quad i) (get_or rs i z) ≡ filled rs d (suc i) (quad (suc i))
unfolding words_of
turn i [] d z h l = absurd (not-suc-le-zero h)
turn i (r ∷ rs) [] z h l = absurd (not-suc-le-zero l)
turn i (r ∷ rs) (a ∷ []) z h l = absurd (not-suc-le-zero (le_of_suc-le-suc l))
turn i (r ∷ rs) (a ∷ b ∷ []) z h l = absurd (not-suc-le-zero (le_of_suc-le-suc (le_of_suc-le-suc l)))
turn i (r ∷ rs) (a ∷ b ∷ c ∷ []) z h l = absurd (not-suc-le-zero (le_of_suc-le-suc (le_of_suc-le-suc (le_of_suc-le-suc l))))
turn zero (r ∷ rs) (a ∷ b ∷ c ∷ e ∷ d) z h l = refl
turn (suc i) (r ∷ rs) (a ∷ b ∷ c ∷ e ∷ d) z h l =
    let rest = turn i rs d z (le_of_suc-le-suc h) (le_of_suc-le-suc (le_of_suc-le-suc (le_of_suc-le-suc (le_of_suc-le-suc l)))) in
    simp unary_clauses (ap (λ (t : List ℤ). r.left ∷ r.top ∷ r.right ∷ r.bottom ∷ t) (simp unary_clauses at rest))

fill_more : (i : ℕ) (rs : List PixelRect) (d : List ℤ) (z : PixelRect) → i < length rs → 4 * i + 3 < length d
    → stored (filled rs d i (4 * i)) (4 * i) (get_or rs i z) ≡ filled rs d (i + 1) (4 * (i + 1))
fill_more i rs d z h l =
    let next : suc i ≡ i + 1 = omega arith in
    let fits : quad (suc i) ≤ length d = omega (arith, quad_is (suc i)) in
    subst (λ (k : ℕ). stored (filled rs d i k) k (get_or rs i z) ≡ filled rs d (i + 1) (4 * (i + 1))) (quad_is i)
    (turn i rs d z h fits ∙ (ap (λ (k : ℕ). filled rs d (suc i) k) (quad_is (suc i)) ∙ ap (λ (k : ℕ). filled rs d k (4 * k)) next))

take_all : (rs : List PixelRect) → take (length rs) rs ≡ rs
take_all [] = refl
take_all (r ∷ rs) = ap (λ (t : List PixelRect). r ∷ t) (take_all rs)

-- all turns lay all rectangles
fill_all : (i : ℕ) (rs : List PixelRect) (d : List ℤ) → i ≡ length rs → filled rs d i (4 * i) ≡ words_of rs ++ drop (length (words_of rs)) d
fill_all i rs d e =
    ap (λ (k : ℕ). filled rs d k (4 * k)) e
    ∙ (ap (λ (t : List PixelRect). words_of t ++ drop (4 * length rs) d) (take_all rs) ∙ ap (λ (k : ℕ). words_of rs ++ drop k d) (sym (words_length rs)))

-- four stores keep the length
stored_length : (ws : List ℤ) (k : ℕ) (r : PixelRect) → length (stored ws k r) ≡ length ws
stored_length ws k r =
    let a = set ws k r.left in
    let b = set a (k + 1) r.top in
    omega (arith, length-set ws k r.left, length-set a (k + 1) r.top, length-set b (k + 2) r.right, length-set (set b (k + 2) r.right) (k + 3) r.bottom)

abbrev pub Inv : List PixelRect → List ℤ → List ℤ → ℕ → Type 0
Inv rs d ws i = (i ≤ length rs) × (length ws ≡ length d) × (ws ≡ filled rs d i (4 * i))

pub begins : (rs : List PixelRect) (d : List ℤ) → Inv rs d d 0
unfolding words_of
begins rs d = (omega arith, refl, refl)

-- there is room for every rectangle of the list
module _ (rs : List PixelRect) (d : List ℤ) (room : 4 * length rs ≤ length d) where
  pub again : (ws ws' : List ℤ) (i : ℕ) (z : PixelRect) → Inv rs d ws i → i < length rs → ws' ≡ stored ws (4 * i) (get_or rs i z) → Inv rs d ws' (i + 1)
  again ws ws' i z h e s = (
    omega arith,
    ap (λ (l : List ℤ). length l) s ∙ stored_length ws (4 * i) (get_or rs i z) ∙ h.1,
    s ∙ ap (λ (l : List ℤ). stored l (4 * i) (get_or rs i z)) h.2 ∙ fill_more i rs d z e (omega arith),
  )

  pub ends : (ws : List ℤ) (i : ℕ) → Inv rs d ws i → length rs ≤ i → Copies rs d ws (Ok tt)
  unfolding first room_lines
  ends ws i h e = record { refuses = simp (le-ltb (length d) (4 * length rs) room); leaves = h.2 ∙ fill_all i rs d (omega (arith, h.0)) }

pub refuses : (rs : List PixelRect) (d : List ℤ) → length d < 4 * length rs → Copies rs d d (Err (RoomTooSmall 1))
unfolding first room_lines
refuses rs d e = record { refuses = simp (lt-ltb (length d) (4 * length rs) e); leaves = refl }
