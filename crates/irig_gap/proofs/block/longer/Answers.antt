use Rattle.std.proofs.Common.{arith}
use Rattle.irig_gap.proofs.GapLemmas.{run_full}
use Rattle.irig_gap.proofs.block.longer.Goals as goal

pub copy_items-requires-clause-full : goal.copy_items-requires-clause-full
copy_items-requires-clause-full g c = λ k lt. run_full c.args.cells.slots c.args.full k c.requires.full (omega (arith, c.requires.len, c.requires.longer)) lt
