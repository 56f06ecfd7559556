-- The line is added part by part.
use Rattle.std.proofs.Common.{arith}
use Rattle.text.specs.Text.{line}
use Rattle.text.proofs.Filling.{adds_then}
use Rattle.text.proofs.Page.put_numbers.Goals as goal

pub returns : goal.returns
unfolding line
returns c =
    let place = adds_then c.put_decimal.ensures.adds c.put.ensures (omega arith) in
    let number = adds_then place c.put_decimal-2.ensures.adds (omega arith) in
    adds_then number c.put-2.ensures (omega arith)
