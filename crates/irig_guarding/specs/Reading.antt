-- The frames that read well, and what is known of a recording by them. This project's own.
use Rattle.std.specs.Prelude.{◌≡◌, ◌==◌, ℕ, Bool, List, [], ◌∷◌, get_or, if◌then◌else◌, length, map}
use Rattle.std.specs.List.{flat_map}
use Rattle.irig_codes.specs.Format.{FormatView}
use Rattle.irig_codes.specs.declared.note.Note.TheVariants.{Fine}
use Rattle.irig_recording.specs.declared.pulse.Pulse.{Pulse}
use Rattle.irig_track.specs.Edges.{pulse}
use Rattle.irig_index.specs.declared.record.Verdict.TheVariants.{Read}
use Rattle.irig_index.specs.{declared.record.Record.Record, declared.record.Verdict.Verdict}
use Rattle.irig_edit.specs.State.State.{State, frames_of}
use Rattle.irig_safety.specs.{InStep.loose_of, OddFunctions.odd_of, Original.OriginalView}
use Rattle.irig_safety.specs.{Terms.TermsView}
use Rattle.irig_safety.specs.declared.{odd.Odd.Odd, shown.Shown.Shown}
use Rattle.irig_guarding.specs.{declared.seen.Frames.Frames, declared.seen.Seen.Seen}

-- what a frame shows that begins at a time: its fields, if nothing is wrong with it
abbrev pub shown_at : ℕ → Verdict → List Shown
shown_at rise (Read fields Fine) = record { rise = rise; fields = fields } ∷ []
shown_at rise _ = []

-- what a record shows, by the rise of its marker
abbrev pub shown_by : List Pulse → Record → List Shown
shown_by pulses r = shown_at (get_or pulses r.marker (pulse 0 0)).rise r.verdict

-- what the frames of a state show that read well
abbrev pub fine_frames : State → List Shown
fine_frames s = flat_map (shown_by s.pulses) (frames_of s)

-- the same with the place of its marker among the pulses, from 0
abbrev pub seen_at : ℕ → ℕ → Verdict → List Seen
seen_at rise marker (Read fields Fine) =
    record { shown = record { rise = rise; fields = fields }; marker = marker } ∷ []
seen_at rise marker _ = []

-- so of a record, by the rise of its marker
abbrev pub seen_by : List Pulse → Record → List Seen
seen_by pulses r = seen_at (get_or pulses r.marker (pulse 0 0)).rise r.marker r.verdict

-- so of all frames of a state
abbrev pub seen_frames : State → List Seen
seen_frames s = flat_map (seen_by s.pulses) (frames_of s)

-- these are the frames of a state that read well, with their markers and without
pub record Lists (s : State) (frames : Frames) : Type 0 where
  pub seen : frames.seen.items ≡ seen_frames s
  pub shown : frames.shown.items ≡ fine_frames s

-- the control functions of a frame whose pulses are odd
abbrev pub odd_by : FormatView → List Pulse → Seen → List Odd
odd_by f pulses y = odd_of f pulses y.marker y.shown

-- what a frame shows, if it has none of these
abbrev pub even_if : Bool → Shown → List Shown
even_if so x = if so then x ∷ [] else []

abbrev pub even_by : FormatView → List Pulse → Seen → List Shown
even_by f pulses y = even_if (length (odd_by f pulses y) == 0) y.shown

-- so of all frames of a state that read well
abbrev pub odd_functions : State → List Odd
odd_functions s = flat_map (odd_by s.format s.pulses) (seen_frames s)

abbrev pub even_frames : State → List Shown
even_frames s = flat_map (even_by s.format s.pulses) (seen_frames s)

-- what is known of a recording that was opened as a state, and by what repairs are judged besides
abbrev pub original_of : TermsView → State → OriginalView
original_of terms s = record {
  frames = fine_frames s;
  markers = map (λ y. y.marker) (seen_frames s);
  pulses = s.pulses;
  odd = odd_functions s;
  loose = loose_of terms.moved s.format s.pulses (map (λ y. y.marker) (seen_frames s));
  terms = terms;
}
