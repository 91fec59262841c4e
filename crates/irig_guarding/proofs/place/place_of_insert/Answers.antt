use Rattle.std.proofs.Common.{ap, subst, sym, ◌∙◌}
use Rattle.irig_track.specs.Splices.{risen_by}
use Rattle.irig_guarding.specs.Known.{Became}
use Rattle.irig_guarding.proofs.PlaceLemmas.{inserted}
use Rattle.irig_guarding.proofs.place.place_of_insert.Goals as goal

pub returns : goal.returns
returns c = λ from new h.
    subst (λ k. Became k 1 c.args.session.now.state.pulses new.state.pulses)
    (ap (λ t. risen_by t c.args.session.now.state.pulses) (sym c.time.ensures) ∙ sym c.find.ensures) (inserted from c.args.to.now c.args.session.now new h)
