use Rattle.irig_saved.proofs.ShortLines.{no_short}
use Rattle.irig_saved.proofs.lines.short.Goals as goal

pub returns-in_err-i : goal.returns-in_err-i
returns-in_err-i c =
    rw c.from_residual.ensures (no_short c.args.text.now c.in_default.ensures c.in_default-format.ensures c.in_default-set_mark.ensures c.in_err-i.ensures)
