-- The passes over the marks: one row more, and one part behind the other. Assumes nothing.
use Rattle.std.proofs.Common.{◌≡◌, ◌∙◌, sym, ap, ℕ, ◌+◌, ◌*◌, ◌≤◌, ◌<◌, List, ◌++◌, length, get_or, take, drop, arith}
use Rattle.std.proofs.lemmas.List.{drop-drop, drop_at}
use Rattle.std.proofs.lemmas.Grind.{common_steps}
use borrow.Rule.Slice.PartMut.{put_mid}
use native.Mathlib.Decide.{dec_lt}
use Rattle.numbers.proofs.Lists.{same_rest}
use Rattle.numbers.proofs.Places.{row_below}
use Rattle.marks.specs.Marks.{mark_of}
use Rattle.marks.specs.Passes.{covered, Row, Part}

-- what stands within a part that was written, and on either side of it
module _ (a k : ℕ) (xs ys : List ℕ) (long : length ys ≡ k) (room : a + k ≤ length xs) where
  at_mid : (i : ℕ) → i < k → get_or (put_mid a k xs ys) (a + i) 0 ≡ get_or ys i 0
  at_mid i h = grind (arith, common_steps)

  below_mid : (i : ℕ) → i < a → get_or (put_mid a k xs ys) i 0 ≡ get_or xs i 0
  below_mid i h = grind (arith, common_steps)

  above_mid : (i : ℕ) → a + k ≤ i → get_or (put_mid a k xs ys) i 0 ≡ get_or xs i 0
  above_mid i h = grind (arith, common_steps)

-- the counts of a row, cut out of the grid's
count_of : (counts : List ℕ) (from k w i : ℕ) → k ≡ w → from + w ≤ length counts → i < w → get_or (take k (drop from counts)) i 0 ≡ get_or counts (from + i) 0
count_of counts from k w i e room h = grind (arith, common_steps)

module _ (ground plan : List ℕ) (w y : ℕ) {was mid row : List ℕ} (to from k n : ℕ) (e : to ≡ y * w) (u : from ≡ y * (w + 1)) (v : k ≡ w) (t : n ≡ w) (room : to + w ≤ length mid)
    (ground-room : from + w ≤ length ground) (plan-room : from + w ≤ length plan) (long : length row ≡ length (take k (drop to mid)))
    (p : Part w y ground plan was mid) (r : Row (take n (drop from ground)) (take n (drop from plan)) (take k (drop to mid)) row) where
  long_row : length row ≡ k
  long_row = grind (arith, common_steps)

  pub part_more : Part w (y + 1) ground plan was (put_mid to k mid row)
  part_more = record { mark = λ x z hx hz. at x z hx (dec_lt z y) (omega arith); rest = λ i h. above_mid to k mid row long_row (omega arith) i (omega arith) ∙ p.rest i (omega arith) }
    where
      at : (x z : ℕ) → x < w → Dec (z < y) → z ≤ y → get_or (put_mid to k mid row) (z * w + x) 0 ≡ mark_of (covered ground plan (z * (w + 1) + x))
      at x z hx (yes h) l = below_mid to k mid row long_row (omega arith) (z * w + x) (omega (arith, row_below w x z y hx h)) ∙ p.mark x z hx h
      at x z hx (no h) l =
          let same : y ≡ z = omega arith in
          grind (
            arith,
            at_mid to k mid row long_row (omega arith) x (omega arith),
            r.mark x (grind (arith, common_steps)),
            count_of ground from n w x t ground-room hx,
            count_of plan from n w x t plan-room hx,
          )

-- the first part of the marks, and the one behind it
module _ (w h : ℕ) {base plan before after first second : List ℕ} (cut : length before ≡ h * w) (same : length first ≡ length before) (long : length second ≡ length after)
    (p : Part w h base base before first) (q : Part w h base plan after second) where
  pub first_part : (x y : ℕ) → x < w → y < h → get_or (first ++ second) (y * w + x) 0 ≡ mark_of (covered base base (y * (w + 1) + x))
  first_part x y hx hy = grind (arith, common_steps, row_below w x y h hx hy, p.mark x y hx hy)

  pub second_part : (x y : ℕ) → x < w → y < h → get_or (first ++ second) (h * w + (y * w + x)) 0 ≡ mark_of (covered base plan (y * (w + 1) + x))
  second_part x y hx hy = grind (arith, common_steps, row_below w x y h hx hy, q.mark x y hx hy)

  pub behind_parts : (marks : List ℕ) → after ≡ drop (h * w) marks → drop (h * w + h * w) (first ++ second) ≡ drop (h * w + h * w) marks
  behind_parts marks e =
      let n : ℕ = h * w in
      sym (drop-drop n n (first ++ second))
      ∙ ap (drop n) (drop_at first second n (omega arith))
      ∙ same_rest 0 n second after long q.rest
      ∙ ap (drop n) e
      ∙ drop-drop n n marks
