-- `passage::judge` meets its contract. Assumes nothing.
use mathlib.Core.Path.{◌≡◌, ◌∙◌}
use Prim.Native.Nat.{ℕ}
use Rattle.std.specs.Prelude.{Some, Ok}
use Rattle.std.proofs.Common.{arith}
use Rattle.std.proofs.lemmas.Grind.{common_steps}
use Rattle.passage.proofs.Looking.{led_told, shut_told}
use Rattle.passage.proofs.judge.Goals as goal

pub returns-in-Ok-Some : goal.returns-in-Ok-Some
returns-in-Ok-Some c =
    let l = c.look-looked.ensures in
    let a = c.args in
    let led : c.look-looked.result ≡ Ok (Some c.in-Ok-Some.points) = grind (arith, common_steps) in record {
      parents_left = l.parents_left;
      queue_left = l.queue_left;
      passage = λ B A ab aa more. led_told a.frame a.before.now a.after.now a.start a.end a.out.now _ ab aa more _ (rw led at l.finds);
    }

pub returns : goal.returns
returns c =
    let l = c.look-looked.ensures in
    let f = c.find_chain-baseline.ensures in
    let a = c.args in
    let not-led : (n : ℕ) → c.look-looked.result ≡ Ok (Some n) → ⊥ = λ n h. grind (arith, common_steps) in record {
      parents_left = f.parents_left ∙ l.parents_left;
      queue_left = f.queue_left ∙ l.queue_left;
      passage = λ B A ab aa more.
          rw c.verdict.ensures (shut_told a.frame a.before.now a.after.now a.start a.end a.out.now _ ab aa more c.look-looked.result c.find_chain-baseline.result not-led l.finds f.says);
    }
