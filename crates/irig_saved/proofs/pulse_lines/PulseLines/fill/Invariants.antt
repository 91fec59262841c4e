use Rattle.std.proofs.Common.{◌≡◌, ◌++◌, ℕ, drop}
use Rattle.irig_saved.specs.{Lines.text_of, SavedText.pulse_lines, LinesLeft.pulses_left}
use Rattle.irig_saved.proofs.pulse_lines.PulseLines.fill.Given as goal

-- the block, with the lines of the pulses that are left
abbrev pub invariant-loop-place : goal.invariant-loop-place
invariant-loop-place l = record {
  given : l.block.items ++ pulses_left l.self-inside.pulses l.place ≡ l.fn.block.items ++ l.fn.self;
  known : (n : ℕ) → pulses_left l.self-inside.pulses n ≡ text_of (pulse_lines (drop n l.pulses));
}
