use Rattle.std.proofs.Common.{◌≡◌, ◌*◌, ap, length, subst, sym, ◌∙◌}
use Rattle.irig_edit.specs.Edits.Regenerated.{rising_before}
use Rattle.irig_script.specs.{Obey.Machine.present_in, Obey.PulseNumbers.time_of}
use Rattle.irig_guarding.specs.Known.{Became}
use Rattle.irig_guarding.proofs.PlaceLemmas.{generated}
use Rattle.irig_guarding.proofs.place.place_of_regen.Goals as goal

pub returns : goal.returns
returns c = λ moment control new h.
    let come : 100 * c.args.frames ≡ 100 * c.from.result = ap (λ n. 100 * n) (sym c.from.ensures) in
    subst (λ k. Became k (100 * c.from.result) c.args.session.now.state.pulses new.state.pulses)
    (ap (λ t. length (rising_before t c.args.session.now.state.pulses)) (sym c.time.ensures) ∙ sym c.rising_before.ensures)
    (subst (λ k. Became (length (rising_before
    (time_of c.args.start.now (present_in c.args.session.now)) c.args.session.now.state.pulses)) k c.args.session.now.state.pulses new.state.pulses) come
    (generated c.args.start.now c.args.frames moment control c.args.session.now new h))
