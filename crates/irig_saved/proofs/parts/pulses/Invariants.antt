use Rattle.irig_saved.specs.{Ranges.ArePulses, SavedText.pulse_lines, Reading.Reads}
use Rattle.irig_saved.proofs.parts.pulses.Given as goal

-- one pulse for each turn is before the rest
abbrev pub invariant-loop : goal.invariant-loop
invariant-loop l = Reads (ArePulses l.counter) pulse_lines l.text l.pulses l.rest
