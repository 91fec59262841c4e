use Rattle.std.proofs.Common.{◌≡◌, ◌<◌, ◌-◌, ℕ}
use Rattle.irig_safety.specs.Rises.{rise_in}
use Rattle.irig_guarding.proofs.pulses.keeps_rises.Given as goal

abbrev pub invariant-loop-element : goal.invariant-loop-element
invariant-loop-element l = (j : ℕ) → j < l.element
    → rise_in l.opened.pulses l.former_marker j - rise_in l.opened.pulses l.former_marker 0
    ≡ rise_in l.session.state.pulses l.marker j - rise_in l.session.state.pulses l.marker 0
