use Rattle.std.proofs.Common.{◌∙◌, ap}
use Rattle.irig_edit.specs.State.State.{frames_of}
use Rattle.irig_guarding.proofs.PulseLemmas.{shown_all, shown_seen}
use Rattle.irig_guarding.proofs.seen.shown_of.Goals as goal

pub returns : goal.returns
returns c =
    c.in_ok-shown.ensures ∙ (ap shown_all c.requires ∙ shown_seen c.args.session.now.state.pulses (frames_of c.args.session.now.state))
