use Rattle.std.proofs.Common.{Option, subst, sym}
use Rattle.std.specs.Prelude.{◌↔◌, ◌⊎◌, IsTrue, MatchOption}
use Rattle.irig_codes.specs.Format.{FormatView}
use Rattle.irig_recording.specs.declared.pulse.Pulse.{Pulse}
use Rattle.irig_safety.specs.Original.{IsLost, IsRecorded}
use Rattle.irig_guarding.proofs.elements.is_borne_by_recording.Goals as goal

pub returns-in-Some : goal.returns-in-Some
returns-in-Some c =
    let of_format = subst (λ (f : FormatView). IsTrue c.is_recorded_or_lost.result
    ↔ (IsRecorded f c.args.opened.now.pulses c.in-Some.pulse ⊎ IsLost f c.args.opened.now.pulses c.in-Some.pulse))
    c.current_format.ensures c.is_recorded_or_lost.ensures in
    subst (λ (o : Option Pulse). IsTrue c.is_recorded_or_lost.result ↔ MatchOption o ⊥ (λ q.
    IsRecorded c.args.session.now.state.format c.args.opened.now.pulses q ⊎ IsLost c.args.session.now.state.format c.args.opened.now.pulses q))
    (sym c.in-Some.is) of_format
