-- A step of the entry at work changes the search's state: it is passed over, or it finds a place. Assumes nothing.
use mathlib.Core.Path.{◌≡◌, ap, sym, ◌∙◌}
use mathlib.Core.List.{List, [], ◌∷◌, ◌++◌}
use Prim.Native.Nat.{ℕ, ◌+◌, ◌*◌, ◌<◌, ◌≤◌}
use native.Mathlib.Omega.{arith}
use native.Mathlib.Decide.{dec_lt}
use lib.ListN.{length, get_or, set, length-append, get_or-append}
use lib.Seq.{get_or_at}
use borrow.Author.Count.{below_more}
use Rattle.model.specs.declared.PixelPosition.{PixelPosition}
use Rattle.model.specs.Steps.{Step}
use Rattle.search.specs.Places.{center}
use Rattle.search.specs.Search.{Entry, Held, Expanding}
use Rattle.model.proofs.Chains.{step_one}
use Rattle.search.proofs.Noted.{noted_more}
use Rattle.search.proofs.Entering.{Fresh, queue_old, queue_new, apart, parent_old, parent_new, listed_more}
use Rattle.search.proofs.Moves.{wider}

-- step k of entry `head` is tried
module _ {free : ℕ → ℕ → Type 0} {w s e head tail k : ℕ} {queue parents : List ℕ} (X : Expanding free w s e queue parents head tail k) (small : k < 8) where
  -- the step's number
  abbrev number : ℕ
  number = 8 * get_or X.codes head 0 + k

  -- what holds of the places found, and of where this step leads, holds of where each step with a number up to this one's leads
  onward : (P : PixelPosition → ℕ → Type 0) → ((q : PixelPosition) (n : ℕ) → Held w queue X.codes tail q n → P q n) → ((q : PixelPosition) → Step free k (center w (get_or queue head 0)) q → P q number)
      → (i l : ℕ) (q : PixelPosition) → i < tail → 8 * get_or X.codes i 0 + l ≤ number → Step free l (center w (get_or queue i 0)) q → P q (8 * get_or X.codes i 0 + l)
  onward P old this i l q m h t = split (dec_lt (8 * get_or X.codes i 0 + l) number) (dec_lt i head) (dec_lt head i)
    where
      split : Dec (8 * get_or X.codes i 0 + l < number) → Dec (i < head) → Dec (head < i) → P q (8 * get_or X.codes i 0 + l)
      split (yes d) a b = old q _ (X.state.covered i l q m d t)
      split (no d) (yes a) b = absurd (omega (arith, t.number, X.state.rising i head a X.working))
      split (no d) (no a) (yes b) = absurd (omega (arith, X.state.rising head i b m))
      split (no d) (no a) (no b) =
          let si : i ≡ head = omega arith in
          let sl : l ≡ k = omega (arith, rw si at h, rw si at d) in
          rw (si, sl) (this q (rw (si, sl) at t))

  -- it leads nowhere, or to a place that has been found
  pub passed : ((q : PixelPosition) → Step free k (center w (get_or queue head 0)) q → (p : ℕ) × (0 < get_or parents p 0) × (center w p ≡ q)) → Expanding free w s e queue parents head tail (k + 1)
  passed known = record {
    codes = X.codes;
    state = wider X.state (8 * get_or X.codes head 0 + (k + 1)) (omega arith) (λ i l q m h t. onward (Held w queue X.codes tail) (λ q n h. h) held i l q m (omega arith) t);
    working = X.working;
    not_yet = X.not_yet;
  }
    where
      held : (q : PixelPosition) → Step free k (center w (get_or queue head 0)) q → Held w queue X.codes tail q number
      held q t =
          let f = known q t in
          let o = X.state.listed.only f.0 f.1 in
          record { i = o.0; queued = o.1; there = ap (center w) o.2 ∙ f.2; code = omega (arith, X.state.below o.0 o.1) }

  -- it finds place p, which comes in at the queue's end
  module _ (p : ℕ) (fresh : get_or parents p 0 ≡ 0) (inside : p < length parents) (room : tail < length queue) (led : Step free k (center w (get_or queue head 0)) (center w p)) where
    abbrev queue' : List ℕ
    queue' = set queue tail p

    abbrev parents' : List ℕ
    parents' = set parents p (get_or queue head 0 + 1)

    abbrev codes' : List ℕ
    codes' = X.codes ++ (number ∷ [])

    F : Fresh queue parents tail p
    F = record { listed = X.state.listed; parentless = fresh; inside = inside; room = room }

    code_old : (i : ℕ) → i < tail → get_or codes' i 0 ≡ get_or X.codes i 0
    code_old i l = get_or-append X.codes (number ∷ []) 0 i (omega (arith, X.state.known))

    code_new : get_or codes' tail 0 ≡ number
    code_new = get_or_at X.codes number [] 0 tail X.state.known

    held_old : (q : PixelPosition) (n : ℕ) → Held w queue X.codes tail q n → Held w queue' codes' (tail + 1) q n
    held_old q n h = record { i = h.i; queued = omega (arith, h.queued); there = ap (center w) (queue_old F h.i h.queued) ∙ h.there; code = omega (arith, code_old h.i h.queued, h.code) }

    held_new : (q : PixelPosition) → Step free k (center w (get_or queue head 0)) q → Held w queue' codes' (tail + 1) q number
    held_new q t = record { i = tail; queued = omega arith; there = ap (center w) (queue_new F) ∙ step_one led t; code = omega (arith, code_new) }

    entry_old : (i : ℕ) → i < tail → Entry free w s queue parents X.codes i → Entry free w s queue' parents' codes' i
    entry_old i l E = let m : E.j < tail = omega (arith, E.earlier) in
        record {
          j = E.j;
          k = E.k;
          earlier = E.earlier;
          not_start = rw (queue_old F i l) E.not_start;
          link = rw (queue_old F i l, parent_old F (get_or queue head 0) i l, queue_old F E.j m) E.link;
          code = rw (code_old i l, code_old E.j m) E.code;
          by = rw (queue_old F i l, queue_old F E.j m) E.by;
        }

    entry_new : Entry free w s queue' parents' codes' tail
    entry_new = record {
      j = head;
      k = k;
      earlier = X.working;
      not_start = λ h. apart F 0 X.state.begun (X.state.start ∙ sym h ∙ queue_new F);
      link = rw (queue_new F, parent_new F (get_or queue head 0), queue_old F head X.working);
      code = rw (code_new, code_old head X.working);
      by = rw (queue_new F, queue_old F head X.working) led;
    }

    pub pushed : Expanding free w s e queue' parents' head (tail + 1) (k + 1)
    pushed = let Q = X.state in
        let at_head = code_old head X.working in
        record {
          codes = codes';
          state = record {
            known = simp length-append (omega (arith, Q.known));
            begun = omega arith;
            start = queue_old F 0 Q.begun ∙ Q.start;
            start_free = Q.start_free;
            start_code = code_old 0 Q.begun ∙ Q.start_code;
            counted = omega (arith, noted_more parents p (get_or queue head 0) inside fresh, Q.counted);
            listed = listed_more F (get_or queue head 0);
            rising = λ i j l m. below_more (λ j. i < j → get_or codes' i 0 < get_or codes' j 0) tail (λ j h l. omega (arith, code_old i (omega arith), code_old j h, Q.rising i j l h)) (λ l. omega (arith, code_old i l, code_new, Q.below i l)) j m l;
            entry = λ i z l. below_more (λ i. 0 < i → Entry free w s queue' parents' codes' i) tail (λ i m z. entry_old i m (Q.entry i z m)) (λ z. entry_new) i l z;
            below = below_more (λ i. get_or codes' i 0 < 8 * get_or codes' head 0 + (k + 1)) tail (λ i l. omega (arith, code_old i l, Q.below i l)) (omega (arith, code_new));
            covered = λ i l q. below_more (λ i. 8 * get_or codes' i 0 + l < 8 * get_or codes' head 0 + (k + 1) → Step free l (center w (get_or queue' i 0)) q → Held w queue' codes' (tail + 1) q (8 * get_or codes' i 0 + l)) tail
                (λ i m. rw (code_old i m, queue_old F i m) (λ h t. onward (Held w queue' codes' (tail + 1)) held_old held_new i l q m (omega arith) t)) (λ h t. absurd (omega (arith, code_new, Q.below 0 Q.begun))) i;
          };
          working = omega (arith, X.working);
          not_yet = λ i l h. X.not_yet i l (sym (queue_old F i (omega (arith, X.working))) ∙ h);
        }
