use Rattle.std.proofs.Common.{ap, ◌∙◌, arith}
use Rattle.irig_index.specs.Sides.{turned}
use Rattle.irig_index.proofs.{ShownLemmas.shown-set_left, ShownLemmas.shown-set_right, SideLemmas.turned-twice}
use Rattle.irig_index.proofs.places.set_record.Goals as goal

pub returns-then-k-gap_at-clause-shown : goal.returns-then-k-gap_at-clause-shown
returns-then-k-gap_at-clause-shown c =
    shown-set_left c.args.pulses c.args.k c.args.found c.args.records.now c.set.new.self c.set.ensures (omega (arith, c.gap_at.ensures.place))

pub returns-else-k-gap_at-clause-shown : goal.returns-else-k-gap_at-clause-shown
returns-else-k-gap_at-clause-shown c =
    shown-set_right c.args.pulses c.args.k c.turned.result c.args.records.now c.set-else-k-gap_at.new.self c.set-else-k-gap_at.ensures
    c.args.found (omega (arith, c.gap_at.ensures.place))
    (ap (turned c.args.pulses) c.turned.ensures.turned ∙ turned-twice c.args.pulses c.args.found c.turned.ensures.fits (omega arith))
