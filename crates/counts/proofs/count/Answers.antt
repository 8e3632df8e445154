-- `counts::count` meets its contract: cleared, stamped and finished. Assumes nothing.
use Rattle.std.proofs.Common.{refl, arith}
use Rattle.std.proofs.lemmas.Grind.{common_steps}
use Rattle.stamps.proofs.Adding.{counted}
use Rattle.counts.proofs.count.Goals as goal

pub returns : goal.returns
returns g c = λ k Q few stamps.
    let stamped = stamps _ _ (record { shown = _; shows = refl; left = _; met = c.stamp.ensures; leaves = refl }) in
    counted few (grind (arith, common_steps)) stamped c.finish.ensures
