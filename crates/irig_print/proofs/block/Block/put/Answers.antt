use Rattle.std.proofs.Common.{rules}
use Rattle.irig_print.proofs.Blocks.{front_longer}
use Rattle.irig_print.proofs.block.Block.put.Goals as goal

pub returns-in_err-flush-clause-err : goal.returns-in_err-flush-clause-err
returns-in_err-flush-clause-err g c =
    let p = front_longer _ _ _ c.args.text.now c.in_err-flush.ensures.printed in
    search (rules, p)
