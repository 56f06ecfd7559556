-- A number's text is as long as its logarithm says.
use Rattle.std.proofs.Common.{arith, rules}
use Rattle.text.proofs.Widths.{log_length, digits_put}
use Rattle.text.proofs.Page.put_decimal.Goals as goal

pub returns-clause-adds : goal.returns-clause-adds
returns-clause-adds c =
    let e = log_length c.args.n c.ilog10.result (omega arith) (omega arith) (omega arith) in
    let w = c.write_digits.ensures in
    record {
      put = digits_put c.args.self.now.end c.args.n c.write_digits.result (omega arith) (omega arith) w.start w.written w.before;
      size = search rules;
      same = search rules;
    }
