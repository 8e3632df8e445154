-- What all stages print together is what the program is to print. Assumes nothing.
use mathlib.Core.Path.{◌≡◌, sym, ap, subst}
use mathlib.Core.List.{List}
use Prim.Native.Nat.{ℕ}
use native.Mathlib.Omega.{arith}
use lib.ListN.{length, take, length-take}
use Rattle.model.specs.Packed.{ground_in, query_in}
use Rattle.model.specs.Report.{program_lines, Prints}
use Rattle.program.specs.Promise.{Told, Printed}

pub printed : {s was now : List ℕ} {r : ℕ} → length now ≡ length was → Told (program_lines s) (ground_in s) (query_in s) was now r → Printed s was now r
printed {s} {was} {now} {r} same t =
    let e = t.wrote.front in
    let short : length (take r now) ≡ length t.text = ap length e in
    record { within = omega (arith, t.wrote.next, length-take r now); prints = subst (Prints s) (sym e) t.prints; rest = t.wrote.rest }
