-- How the search goes from entry to entry: it begins, the next entry is taken up, its steps have been tried. Assumes nothing.
use mathlib.Core.Path.{◌≡◌, refl}
use mathlib.Core.List.{List, [], ◌∷◌}
use Prim.Native.Nat.{ℕ, ◌+◌, ◌*◌, ◌<◌, ◌≤◌}
use native.Mathlib.Omega.{arith}
use native.Mathlib.Decide.{dec_lt}
use lib.ListN.{length, get_or, set}
use borrow.Author.Count.{below_more}
use Rattle.model.specs.declared.PixelPosition.{PixelPosition}
use Rattle.model.specs.Steps.{Step}
use Rattle.search.specs.Places.{center}
use Rattle.search.specs.Search.{Held, Listed, Queued, Searching, Expanding}
use Rattle.search.proofs.Noted.{noted_none, noted_more}
use Rattle.search.proofs.Entering.{Fresh, queue_new, listed_more}
use Rattle.search.proofs.Frontier.{rising_le}

-- the search begins: the start comes into a queue that has no entry
pub begun : {free : ℕ → ℕ → Type 0} {w s e : ℕ} (queue parents : List ℕ) → length parents ≤ length queue → s < length parents → ((p : ℕ) → get_or parents p 0 ≡ 0) → ((i : ℕ) → get_or queue i 0 ≡ 0)
    → free (center w s).x (center w s).y → Searching free w s e (set queue 0 s) (set parents s (s + 1)) 0 1
begun {s = s} queue parents room inside blank empty open-start =
    let none : Listed queue parents 0 = record { linked = λ i l. absurd (omega arith); only = λ p h. absurd (omega (arith, blank p)); unused = λ i l. empty i } in
    let F : Fresh queue parents 0 s = record { listed = none; parentless = blank s; inside = inside; room = omega arith } in
    record {
      codes = 1 ∷ [];
      bound = 8;
      state = record {
        known = refl;
        begun = omega arith;
        start = queue_new F;
        start_free = open-start;
        start_code = refl;
        counted = omega (arith, noted_more parents s s inside (blank s), noted_none parents blank);
        listed = listed_more F s;
        rising = λ i j l m. absurd (omega arith);
        entry = λ i z m. absurd (omega arith);
        below = λ i l. omega (arith, one i l);
        covered = λ i k q l h t. absurd (omega (arith, one i l));
      };
      done = λ i l. absurd (omega arith);
      to_do = λ i h l. omega (arith, one i l);
      not_yet = λ i l. absurd (omega arith);
    }
  where
    one : (i : ℕ) → i < 1 → ◌≡◌ {A = ℕ} (get_or (1 ∷ []) i 0) 1
    one i l = let z : i ≡ 0 = omega arith in rw z

-- a larger bound, where each step with a number below it leads to what has been found
pub wider : {free : ℕ → ℕ → Type 0} {w s tail bound : ℕ} {queue parents codes : List ℕ} → Queued free w s queue parents codes tail bound → (b : ℕ) → bound ≤ b
    → ((i k : ℕ) (q : PixelPosition) → i < tail → 8 * get_or codes i 0 + k < b → Step free k (center w (get_or queue i 0)) q → Held w queue codes tail q (8 * get_or codes i 0 + k))
    → Queued free w s queue parents codes tail b
wider Q b more covered = record {
  known = Q.known;
  begun = Q.begun;
  start = Q.start;
  start_free = Q.start_free;
  start_code = Q.start_code;
  counted = Q.counted;
  listed = Q.listed;
  rising = Q.rising;
  entry = Q.entry;
  below = λ i l. omega (arith, Q.below i l);
  covered = covered;
}

module _ {free : ℕ → ℕ → Type 0} {w s e head tail : ℕ} {queue parents : List ℕ} where
  -- the next entry is taken up
  pub taken_up : Searching free w s e queue parents head tail → head < tail → (get_or queue head 0 ≡ e → ⊥) → Expanding free w s e queue parents head tail 0
  taken_up S more other = record {
    codes = S.codes;
    state = wider S.state (8 * get_or S.codes head 0 + 0) (omega (arith, S.to_do head (omega arith) more)) (λ i k q l h t. covered i k q l h t (dec_lt i head));
    working = more;
    not_yet = λ i l. below_more (λ i. get_or queue i 0 ≡ e → ⊥) head S.not_yet other i (omega arith);
  }
    where
      covered : (i k : ℕ) (q : PixelPosition) → i < tail → 8 * get_or S.codes i 0 + k < 8 * get_or S.codes head 0 + 0 → Step free k (center w (get_or queue i 0)) q → Dec (i < head) → Held w queue S.codes tail q (8 * get_or S.codes i 0 + k)
      covered i k q l h t (yes d) = S.state.covered i k q l (omega (arith, S.done i d, t.number)) t
      covered i k q l h t (no d) = absurd (omega (arith, rising_le S.state head i (omega arith) l))

  -- its eight steps have been tried
  pub worked : Expanding free w s e queue parents head tail 8 → Searching free w s e queue parents (head + 1) tail
  worked X = record {
    codes = X.codes;
    bound = 8 * get_or X.codes head 0 + 8;
    state = X.state;
    done = λ i l. omega (arith, rising_le X.state i head (omega arith) X.working);
    to_do = λ i l m. omega (arith, X.state.rising head i (omega arith) m);
    not_yet = λ i l. X.not_yet i (omega arith);
  }
