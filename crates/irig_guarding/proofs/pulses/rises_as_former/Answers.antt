use Rattle.std.proofs.Common.{◌∙◌, sym, subst}
use Rattle.std.specs.Prelude.{◌↔◌, IsTrue}
use Rattle.irig_safety.specs.Rises.{KeepsRises}
use Rattle.irig_guarding.proofs.PulseLemmas.{first_marker}
use Rattle.irig_guarding.proofs.pulses.rises_as_former.Goals as goal

pub returns : goal.returns
returns c =
    let same = c.marker.ensures ∙ sym (first_marker c.args.opened.now.markers c.args.place) in
    subst (λ m.
    IsTrue c.keeps_rises.result ↔ KeepsRises c.args.opened.now.pulses m c.args.session.now.state.pulses c.args.frame.now.marker) same c.keeps_rises.ensures
