-- What the search keeps while it runs.
-- The chain that led to each queued place is kept as a number, its steps the digits to base eight after a leading 1: the numbers' order is that of the chains.
-- Assumes nothing.
use Rattle.std.specs.Prelude.{◌≡◌, Bool, true, false, List, [], ◌∷◌, ◌++◌, map, ℕ, zero, suc, ◌+◌, ◌*◌, ◌<◌, ◌≤◌, length, get_or, set}
use Rattle.model.specs.declared.PixelPosition.{PixelPosition}
use Rattle.model.specs.Steps.{steps, across, down, Step, Chain, IsRoute}
use Rattle.search.specs.Places.{center, ahead}

-- how many numbers are not zero
abbrev pub noted : List ℕ → ℕ
noted [] = 0
noted (zero ∷ ps) = noted ps
noted (suc p ∷ ps) = suc (noted ps)

-- How entry i of the queue came in: from the earlier entry j, by step k.
pub record Entry (free : ℕ → ℕ → Type 0) (w s : ℕ) (queue parents codes : List ℕ) (i : ℕ) : Type 0 where
  pub j : ℕ
  pub k : ℕ
  pub earlier : j < i
  pub not_start : get_or queue i 0 ≡ s → ⊥
  pub link : get_or parents (get_or queue i 0) 0 ≡ get_or queue j 0 + 1
  pub code : get_or codes i 0 ≡ 8 * get_or codes j 0 + k
  pub by : Step free k (center w (get_or queue j 0)) (center w (get_or queue i 0))

-- Some entry of the queue is at q, by a chain whose number is at most n.
pub record Held (w : ℕ) (queue codes : List ℕ) (tail : ℕ) (q : PixelPosition) (n : ℕ) : Type 0 where
  pub i : ℕ
  pub queued : i < tail
  pub there : center w (get_or queue i 0) ≡ q
  pub code : get_or codes i 0 ≤ n

-- The first `tail` entries of the queue are the places found, which are those that have a parent.
pub record Listed (queue parents : List ℕ) (tail : ℕ) : Type 0 where
  pub linked : (i : ℕ) → i < tail → 0 < get_or parents (get_or queue i 0) 0
  pub only : (p : ℕ) → 0 < get_or parents p 0 → (i : ℕ) × (i < tail) × (get_or queue i 0 ≡ p)
  pub unused : (i : ℕ) → tail ≤ i → get_or queue i 0 ≡ 0

-- The places found are queued in the order of their chains.
-- Each step from an entry that gives a number below `bound` leads to a place that has been found.
pub record Queued (free : ℕ → ℕ → Type 0) (w s : ℕ) (queue parents codes : List ℕ) (tail bound : ℕ) : Type 0 where
  pub known : length codes ≡ tail
  pub begun : 0 < tail
  pub start : get_or queue 0 0 ≡ s
  pub start_free : free (center w s).x (center w s).y
  pub start_code : get_or codes 0 0 ≡ 1
  pub counted : noted parents ≡ tail
  pub listed : Listed queue parents tail
  pub rising : (i j : ℕ) → i < j → j < tail → get_or codes i 0 < get_or codes j 0
  pub entry : (i : ℕ) → 0 < i → i < tail → Entry free w s queue parents codes i
  pub below : (i : ℕ) → i < tail → get_or codes i 0 < bound
  pub covered : (i k : ℕ) (q : PixelPosition) → i < tail → 8 * get_or codes i 0 + k < bound → Step free k (center w (get_or queue i 0)) q → Held w queue codes tail q (8 * get_or codes i 0 + k)

-- Entries before `head` are done, the others are still to do, and the end is not among those done.
pub record Searching (free : ℕ → ℕ → Type 0) (w s e : ℕ) (queue parents : List ℕ) (head tail : ℕ) : Type 0 where
  pub codes : List ℕ
  pub bound : ℕ
  pub state : Queued free w s queue parents codes tail bound
  pub done : (i : ℕ) → i < head → 8 * get_or codes i 0 + 8 ≤ bound
  pub to_do : (i : ℕ) → head ≤ i → i < tail → bound ≤ 8 * get_or codes i 0
  pub not_yet : (i : ℕ) → i < head → get_or queue i 0 ≡ e → ⊥

-- Entry `head`, which is not at the end, is at work, and its steps below k have been tried.
pub record Expanding (free : ℕ → ℕ → Type 0) (w s e : ℕ) (queue parents : List ℕ) (head tail k : ℕ) : Type 0 where
  pub codes : List ℕ
  pub state : Queued free w s queue parents codes tail (8 * get_or codes head 0 + k)
  pub working : head < tail
  pub not_yet : (i : ℕ) → i ≤ head → get_or queue i 0 ≡ e → ⊥

-- What trying the steps of entry `head` from k up to k' makes of the queue, the parents and the tail.
pub record Works (free : ℕ → ℕ → Type 0) (w head : ℕ) (queue parents : List ℕ) (tail k : ℕ) (queue' parents' : List ℕ) (tail' k' : ℕ) : Type 0 where
  pub counted : noted parents' ≡ tail'
  pub grown : tail ≤ tail'
  pub kept : (i : ℕ) → i < tail → get_or queue' i 0 ≡ get_or queue i 0
  pub goes_on : (s e : ℕ) → Expanding free w s e queue parents head tail k → Expanding free w s e queue' parents' head tail' k'

-- Entry k of bars is 0 exactly where step k leads from place p to a place of the window, of which there are n.
pub record Bars (free : ℕ → ℕ → Type 0) (w n p : ℕ) (bars : List ℕ) : Type 0 where
  pub goes : (k : ℕ) → k < 8 → get_or bars k 0 ≡ 0 → Step free k (center w p) (center w (ahead w p (get_or steps k [])))
  pub inside : (k : ℕ) → k < 8 → get_or bars k 0 ≡ 0 → (w + 1 ≤ p + (across k + down k * w)) × (ahead w p (get_or steps k []) < n)
  pub only : (k : ℕ) (q : PixelPosition) → Step free k (center w p) q → get_or bars k 0 ≡ 0
  pub small : (k : ℕ) → k < 8 → get_or bars k 0 ≤ 765

-- The lists of a search whose queue ends at `tail`: as many places have a parent.
pub record Growing (parents queue : List ℕ) (tail : ℕ) : Type 0 where
  pub limit : length parents ≤ 1048576
  pub as_long : length queue ≡ length parents
  pub counted : noted parents ≡ tail

-- Trying the place `next` from place p: nothing changes if it is barred or has been found, and else it is queued with its parent.
pub record Tried (p next bar : ℕ) (queue parents : List ℕ) (tail : ℕ) (queue' parents' : List ℕ) (tail' : ℕ) : Type 0 where
  pub old : 0 < get_or parents next 0 + bar → (queue' ≡ queue) × (parents' ≡ parents) × (tail' ≡ tail)
  pub new : get_or parents next 0 + bar ≡ 0 → (queue' ≡ set queue tail next) × (parents' ≡ set parents next (p + 1)) × (tail' ≡ tail + 1)

-- Following the parents from place p back to s passes the places ps, which are listed from s on.
pub data Trail (parents : List ℕ) (s : ℕ) : ℕ → List ℕ → Type 0 where
  begin : Trail parents s s (s ∷ [])
  back : {p q : ℕ} {ps : List ℕ} → Trail parents s p ps → (q ≡ s → ⊥) → get_or parents q 0 ≡ p + 1 → Trail parents s q (ps ++ (q ∷ []))

-- The parents lead from e back to s along the route, which passes at most n places.
pub record Led (free : ℕ → ℕ → Type 0) (w s e n : ℕ) (parents : List ℕ) : Type 0 where
  pub places : List ℕ
  pub trail : Trail parents s e places
  pub route : IsRoute free (center w s) (center w e) (map (center w) places)
  pub short : length places ≤ n

-- found says whether a chain leads from s to e, and where one does the parents lead back along the route. `used` entries of the queue are not zero.
pub record Sought (free : ℕ → ℕ → Type 0) (w s e n : ℕ) (queue parents : List ℕ) (found : Bool) (used : ℕ) : Type 0 where
  pub leads : found ≡ true → Led free w s e n parents
  pub none : found ≡ false → (ks : List ℕ) (cs : List PixelPosition) → Chain free (center w s) ks cs (center w e) → ⊥
  pub listed : Listed queue parents used
  pub within : used ≤ n
