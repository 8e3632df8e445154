-- Words put first in an area: one more, or others in the rest of it. Assumes nothing.
use mathlib.Core.Path.{◌≡◌, refl, sym, ap, ◌∙◌}
use mathlib.Core.List.{List, [], ◌∷◌, ◌++◌, append_assoc, append-nil}
use Prim.Native.Nat.{ℕ, suc, ◌+◌, ◌-◌, ◌<◌}
use native.Mathlib.Omega.{arith}
use borrow.Rule.Slice.PartMut.{put_mid}
use lib.ListN.{length, get_or, take, drop, set, length-append, length-drop}
use lib.Seq.{drop-cons, drop-drop, set_at, take_at}
use Rattle.std.specs.List.{between}
use Rattle.std.proofs.lemmas.Slice.{between_to_end, drop-append-drop}
use Rattle.std.proofs.lemmas.List.{drop_all}
use Rattle.placement_issues.specs.Words.{Put}

module _ {t was now : List ℕ} {n : ℕ} (p : Put t was now n) where
  -- one word more was stored
  pub one_more : (w : ℕ) → n < length was → Put (t ++ (w ∷ [])) was (set now n w) (n + 1)
  one_more w h =
      let here : length t ≡ n = sym p.count in
      let next : length (t ++ (w ∷ [])) ≡ suc n = omega (arith, length-append t (w ∷ [])) in
      record {
        count = omega arith;
        area =
            rw (p.area, here, drop-cons was n 0 h, set_at t (get_or was n 0) (drop (suc n) was) w n here, next)
            (sym (append_assoc t (w ∷ []) (drop (suc n) was)));
      }

  -- words were put first in the rest, which is `part` now
  pub then : {u part : List ℕ} {m : ℕ} → Put u (between n (length now) now) part m → Put (t ++ u) was (put_mid n (length now - n) now part) (n + m)
  then {u} {part} {m} q =
      let front : take n now ≡ t = ap (take n) p.area ∙ take_at t (drop (length t) was) n (sym p.count) in
      let rest : drop n now ≡ drop n was = ap (drop n) p.area ∙ drop-append-drop (length t) was t n (omega arith) refl in
      let written : part ≡ u ++ drop (n + length u) was = q.area ∙ rw (between_to_end now n (length now) (omega arith), rest, drop-drop (length u) n was) in
      let past : drop (length now - n) (drop n now) ≡ [] = drop_all (length now - n) (drop n now) (omega (arith, length-drop n now)) in
      let long : length (t ++ u) ≡ n + length u = omega (arith, length-append t u) in
      record {
        count = omega arith;
        area = rw (front, written, past, append-nil (u ++ drop (n + length u) was), long) (sym (append_assoc t u (drop (n + length u) was)));
      }
