-- `query_words::plan_at` meets its contract. Assumes nothing.
use Prim.Native.Nat.{◌+◌, ◌*◌}
use borrow.Author.Rules.{rules}
use Rattle.model.specs.Words.{building_at}
use Rattle.model.specs.Packed.{no_building}
use Rattle.query_words.proofs.FromFn.{from_fn_table}
use Rattle.query_words.proofs.plan_at.Goals as goal

pub returns : goal.returns
returns c =
    let all = from_fn_table _ (λ i. building_at c.args.words.now (12 + 8 * i)) _ (λ i y q call. search rules) c.from_fn-buildings.result no_building 32 c.from_fn-buildings.ensures.items in
    λ i. record { buildings = all i; count = c.args.count }
