use Rattle.std.proofs.Common.{◌∷◌, [], ℕ, sym, subst}
use Rattle.irig_stamps.specs.Steps.{Takes}
use Rattle.irig_stamps.proofs.TakenBytes.{pushed}
use Rattle.irig_stamps.proofs.taking.take_byte.Goals as goal

pub returns-then-byte-ne10-clause-taken : goal.returns-then-byte-ne10-clause-taken
returns-then-byte-ne10-clause-taken c =
    pushed c.args.format c.args.pulses.now.track.pulses c.args.settings.now c.args.byte c.args.text.now.items c.args.state.now c.push_byte.new.state
    c.push_byte.result c.if-byte-ne10.true c.push_byte.ensures

pub returns-in-Ok-clause-taken : goal.returns-in-Ok-clause-taken
returns-in-Ok-clause-taken c =
    subst (λ (b : ℕ). Takes c.args.format c.args.pulses.now.track.pulses c.args.settings.now (b ∷ []) c.args.text.now.items c.end_line.new.text.items
    c.args.state.now c.end_line.new.state) (sym c.if-byte-ne10.false) c.in-Ok.ensures.taken
