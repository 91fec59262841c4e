use Rattle.std.proofs.Common.{◌≡◌, ◌-◌, ℕ, ap, arith, subst}
use Rattle.irig_script.specs.{Obey.Machine.present_in, Obey.PulseNumbers.first_of}
use Rattle.irig_guarding.specs.Known.{Became}
use Rattle.irig_guarding.proofs.PlaceLemmas.{joined}
use Rattle.irig_guarding.proofs.place.place_of_join.Goals as goal

pub returns : goal.returns
returns c = λ new h.
    let first : c.ends-first.result.0 ≡ first_of c.args.range.now (present_in c.args.session.now) = ap (λ (p : ℕ × ℕ). p.0) c.ends-first.ensures in
    let at : first_of c.args.range.now (present_in c.args.session.now) - 1 ≡ c.saturating_sub.result = omega (arith, first, c.saturating_sub.ensures) in
    subst (λ k. Became k 1 c.args.session.now.state.pulses new.state.pulses) at (joined c.args.range.now c.args.session.now new h)
