use Rattle.std.proofs.Common.{◌≤◌, ◌-◌, length, decimal, arith, lit<, length-set}
use Rattle.std.proofs.lemmas.Fmt.{length-decimal-le}
use Rattle.irig_print.proofs.backwards.write_number.Goals as goal

pub write_digits-requires : goal.write_digits-requires
write_digits-requires c =
    let few : length (decimal c.args.number) ≤ 20 = length-decimal-le 20 c.args.number (lit< tt) (omega arith) (omega arith) in
    (omega (arith, c.requires.0), omega (arith, c.requires.1, length-set c.args.bytes.now (c.args.end - 1) 32))

pub returns-clause-start : goal.returns-clause-start
returns-clause-start c =
    let few : length (decimal c.args.number) ≤ 20 = length-decimal-le 20 c.args.number (lit< tt) (omega arith) (omega arith) in
    (omega (arith, c.requires.0, c.write_digits.ensures.start), omega (arith, c.requires.1, c.write_digits.ensures.start))
