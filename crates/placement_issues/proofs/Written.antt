-- A loop over a list that writes the word of each element that passes a test: what holds after i turns, and what follows from it. Assumes nothing.
use mathlib.Core.Path.{◌≡◌, sym, ap, subst, ◌∙◌}
use mathlib.Core.Bool.{Bool, true, false}
use mathlib.Core.List.{List, map, append-nil}
use Prim.Native.Nat.{ℕ, ◌+◌, ◌≤◌, ◌<◌}
use native.Mathlib.Omega.{arith}
use lib.ListN.{length, get_or, take, set}
use Rattle.model.specs.Lists.{places}
use Rattle.model.specs.Placement.{Issue, issue_word}
use Rattle.placement_issues.specs.Words.{Put}
use Rattle.placement_issues.proofs.Puts.{one_more}
use Rattle.placement_issues.proofs.Each.{each, each_next, each_room, each_all, words_at, found_each}

-- after i turns the words of the first i elements are written
pub record Written {A : Type 0} (k : ℕ) (issue : ℕ → Issue) (test : ℕ → A → Bool) (l : List A) (i : ℕ) (was now : List ℕ) (n : ℕ) : Type 0 where
  pub put : Put (each (words_at k issue test) (take i l)) was now n

module _ {A : Type 0} {k : ℕ} {issue : ℕ → Issue} {test : ℕ → A → Bool} {l : List A} {i : ℕ} {was now : List ℕ} {n : ℕ} (w : Written k issue test l i was now n) where
  module _ (d : A) (h : i < length l) where
    -- an element that fails the test
    pub passed : test i (get_or l i d) ≡ false → Written k issue test l (i + 1) was now n
    passed e =
        record { put = rw (each_next (words_at k issue test) l i d h, e, append-nil (each (words_at k issue test) (take i l))) w.put }

    module _ (room : length (map (issue_word k) (map issue (places test l))) ≤ length was) (e : test i (get_or l i d) ≡ true) where
      -- one that passes it has room for its word
      pub room_here : n < length was
      room_here =
          omega (arith, w.put.count, rw e at (each_room (words_at k issue test) l i d h), ap length (found_each k issue test 0 l))

      pub found : Written k issue test l (i + 1) was (set now n (issue_word k (issue i))) (n + 1)
      found = record { put = rw (each_next (words_at k issue test) l i d h, e) (one_more w.put (issue_word k (issue i)) room_here) }

  pub at_last : length l ≤ i → Put (map (issue_word k) (map issue (places test l))) was now n
  at_last h =
      subst (λ (ws : List ℕ). Put ws was now n) (each_all (words_at k issue test) l i h ∙ sym (found_each k issue test 0 l)) w.put
