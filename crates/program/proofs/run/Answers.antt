-- `program::run` meets its contract. Assumes nothing.
use Rattle.program.proofs.Long.{read_prints}
use Rattle.program.proofs.run.Goals as goal

pub returns : goal.returns
returns c =
    let told = c.print_input.ensures in
    record { within = told.within; prints = λ s e. read_prints c.args.buffer.now s _ c.args.n c.requires.1 c.requires.2 e told.prints; rest = told.rest }
