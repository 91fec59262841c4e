-- Lines of pulses.
use Rattle.std.proofs.Common.{◌≡◌, ◌++◌, ◌∷◌, ℕ, List, lit<}
use Rattle.irig_saved.specs.{SavedText.pulse_line, SavedText.pulse_lines, Ranges.IsPulse, Reading.Stops, Reading.Lacks}
use Rattle.irig_recording.specs.declared.pulse.Pulse.{Pulse}
use Rattle.irig_saved.proofs.Sequences.{line_stops, no_line_stops}
use Rattle.irig_saved.proofs.{Clean.newline, Clean.pulse_lacks, Rows.one_line, Rows.pulse_row, Unique.same_pulse, Repeats.Family}

pub no_pulse : Pulse
no_pulse = record { rise = 0; fall = 0 }

pub no_pulse_lawful : IsPulse no_pulse
unfolding no_pulse
no_pulse_lawful = (lit< tt, lit< tt)

pub pulse_family : Family IsPulse one_line pulse_lines
pulse_family = record {
  row = pulse_row;
  clean = λ p h. (pulse_lacks newline p h, tt);
  law = same_pulse;
  some = no_pulse;
  lawful = no_pulse_lawful;
}

-- a line that is not a pulse's
pub pulse_stops : (text l rest : List ℕ) → text ≡ l ++ 10 ∷ rest → Lacks 10 l → ((p : Pulse) → IsPulse p → l ≡ pulse_line p → ⊥)
    → Stops IsPulse one_line text text
pulse_stops text l rest cut whole none = line_stops IsPulse pulse_line text l rest no_pulse cut whole no_pulse_lawful (pulse_lacks newline) none

pub no_pulse_stops : (text : List ℕ) → Lacks 10 text → Stops IsPulse one_line text text
no_pulse_stops text lacks = no_line_stops IsPulse pulse_line text no_pulse lacks no_pulse_lawful
