-- One text behind another. `Going before at whole rest after r` says that a text is put as far as r, and that `rest` of it is left. Assumes nothing.
use mathlib.Core.Path.{◌≡◌, refl, sym, ap, subst, ◌∙◌}
use mathlib.Core.List.{List, [], ◌++◌, append_assoc, append-nil}
use Prim.Native.Nat.{ℕ, ◌+◌, ◌≤◌}
use native.Mathlib.Omega.{arith}
use lib.ListN.{length, take, drop, length-append}
use lib.Seq.{drop-drop}
use Rattle.text.specs.Writing.{Wrote}

nothing : (a : List ℕ) (i : ℕ) → Wrote a i [] a i
nothing a i = record { next = omega arith; front = sym (append-nil (take i a)); rest = refl }

-- what stays behind the first text stays behind both
rest_behind : (a b u : List ℕ) (j k : ℕ) → k ≡ j + length u → drop j b ≡ drop j a → drop k b ≡ drop k a
rest_behind a b u j k e h = rw (e, ← (drop-drop (length u) j b), ← (drop-drop (length u) j a), h)

pub then : {a b c t u : List ℕ} {i j k : ℕ} → Wrote a i t b j → Wrote b j u c k → Wrote a i (t ++ u) c k
then {a} {b} {c} {t} {u} {i} {j} {k} p q = record {
  next = omega (arith, p.next, q.next, length-append t u);
  front = q.front ∙ ap (λ (l : List ℕ). l ++ u) p.front ∙ append_assoc (take i a) t u;
  rest = q.rest ∙ rest_behind a b u j k q.next p.rest;
}

-- the same text, said otherwise
pub said : {a b t u : List ℕ} {i k : ℕ} → t ≡ u → Wrote a i t b k → Wrote a i u b k
said {a} {b} {t} {u} {i} {k} e w = subst (λ (l : List ℕ). Wrote a i l b k) e w

-- whoever puts the rest has put the whole
pub record Going (before : List ℕ) (at : ℕ) (whole rest after : List ℕ) (r : ℕ) : Type 0 where
  pub left : r + length rest ≡ at + length whole
  pub ends : {last : List ℕ} {end : ℕ} → Wrote after r rest last end → Wrote before at whole last end

pub started : (a : List ℕ) (i : ℕ) (w : List ℕ) → Going a i w w a i
started a i w = record { left = refl; ends = λ q. q }

pub went : {a w t rest b c : List ℕ} {i j k : ℕ} → Going a i w (t ++ rest) b j → Wrote b j t c k → Going a i w rest c k
went {t = t} {rest = rest} g p = record { left = omega (arith, g.left, p.next, length-append t rest); ends = λ q. g.ends (then p q) }

-- the next text has room where the whole has
pub next_fits : {a w b : List ℕ} {i j n : ℕ} (t rest : List ℕ) → Going a i w (t ++ rest) b j → i + length w ≤ n → j + length t ≤ n
next_fits t rest g h = omega (arith, g.left, length-append t rest)

-- nothing is left
pub ended : {a w b : List ℕ} {i j : ℕ} → Going a i w [] b j → Wrote a i w b j
ended {b = b} {j = j} g = g.ends (nothing b j)
