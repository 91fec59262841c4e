use Rattle.std.proofs.Common.{◌≡◌, ◌+◌, ◌-◌, ℕ, ap, arith, subst}
use Rattle.irig_script.specs.{Obey.Machine.present_in, Obey.PulseNumbers.first_of, Obey.PulseNumbers.last_of}
use Rattle.irig_guarding.specs.Known.{Became}
use Rattle.irig_guarding.proofs.PlaceLemmas.{shifted_by}
use Rattle.irig_guarding.proofs.place.place_of_shift.Goals as goal

pub returns : goal.returns
returns c = λ by new h.
    let i = first_of c.args.range.now (present_in c.args.session.now) in
    let j = last_of c.args.range.now (present_in c.args.session.now) in
    let first : c.ends-first.result.0 ≡ i = ap (λ (p : ℕ × ℕ). p.0) c.ends-first.ensures in
    let last : c.ends-first.result.1 ≡ j = ap (λ (p : ℕ × ℕ). p.1) c.ends-first.ensures in
    let at : i - 1 ≡ c.saturating_sub.result = omega (arith, first, c.saturating_sub.ensures) in
    let come : j + 1 - i ≡ c.saturating_sub-2.result = omega (arith, first, last, c.saturating_sub-2.ensures) in
    subst (λ k. Became k c.saturating_sub-2.result c.args.session.now.state.pulses new.state.pulses) at
    (subst (λ k. Became (i - 1) k c.args.session.now.state.pulses new.state.pulses) come (shifted_by c.args.range.now by c.args.session.now new h))
