-- What is read from frames that were generated. The frames are those of IRIG Standard 200-04; that
-- the fields that were asked for are read from them is this project's own promise.
use Rattle.std.specs.Prelude.{◌≡◌, ◌↔◌, ◌+◌, ◌-◌, ◌*◌, ◌<◌, ◌≤◌, ℕ, true, List, [], ◌∷◌, ◌++◌}
use Rattle.std.specs.Prelude.{length, slice_get, Ok, Some, Contains}
use Rattle.irig_codes.specs.declared.note.Note.TheVariants.{Fine}
use Rattle.irig_codes.specs.declared.width.Element.TheVariants.{Position}
use Rattle.irig_codes.specs.{Format.FormatView, Width.is_in_step}
use Rattle.irig_index.specs.declared.record.Verdict.TheVariants.{Read}
use Rattle.irig_index.specs.{declared.record.Record.Record, Frames.frames, Marker.class_at}
use Rattle.irig_moment.specs.{Generated.frame_fields, Moment.MomentView, Moment.IsMoment}
use Rattle.irig_recording.specs.declared.pulse.Pulse.{Pulse}
use Rattle.irig_edit.specs.Edits.Regenerated.{CanMake, frames_pulses, rising_before}
use Rattle.irig_edit.specs.{Session.Calls.Edit.Regen, State.State.IsState, State.State.frames_of}
use Rattle.irig_edit.specs.{Session.Calls.Call.Make, Session.Machine.Steps, Session.Work.Work}

-- frame k from a moment on, from 0, as it is read: its fields, and the note is `Fine`. The frames
-- begin with the pulse at a place, from 0
abbrev pub frame_read : FormatView → MomentView → ℕ → ℕ → ℕ → Record
frame_read f moment control place k =
    record { marker = place + 100 * k; verdict = Read (frame_fields f moment k control) Fine }

-- each frame but the first is read as what it was made to carry, wherever the pulses are
abbrev pub MadeFramesReadBack : Type 0
MadeFramesReadBack = (f : FormatView) (moment : MomentView) (start count control k : ℕ)
    (before after : List Pulse) → CanMake f moment count control → 1 ≤ k → k < count
    → Contains (frames f (before ++ (frames_pulses f start count moment control ++ after)))
    (frame_read f moment control (length before) k)

-- the first one too, if the pulse before it is a position identifier, in step
abbrev pub FirstFrameReadsBack : Type 0
FirstFrameReadsBack = (f : FormatView) (moment : MomentView) (start count control : ℕ) (p : Pulse)
    (before after : List Pulse) → CanMake f moment count control → 1 ≤ count
    → class_at f p ≡ Some Position → is_in_step f (start - p.rise) ≡ true
    → Contains
    (frames f ((before ++ p ∷ []) ++ (frames_pulses f start count moment control ++ after)))
    (frame_read f moment control (length before + 1) 0)

-- no other frame begins among their pulses
abbrev pub NoOtherFrameIsRead : Type 0
NoOtherFrameIsRead = (f : FormatView) (moment : MomentView) (start count control : ℕ)
    (before after : List Pulse) (r : Record) → CanMake f moment count control
    → Contains (frames f (before ++ (frames_pulses f start count moment control ++ after))) r
    → length before < r.marker → r.marker < length before + 100 * count
    → (k : ℕ) × (1 ≤ k) × (k < count) × (r ≡ frame_read f moment control (length before) k)

-- how many pulses are before those of a regeneration
abbrev pub pulses_before : ℕ → Work → ℕ
pulses_before start g = length (rising_before start g.state.pulses)

-- after an accepted regeneration the frames that begin among its pulses, after the first of these,
-- are those that were asked for, but for the first
abbrev pub RegenReadsBack : Type 0
RegenReadsBack = (start count control : ℕ) (moment : MomentView) (old new : Work)
    (r : Record) → IsState old.state → IsMoment moment.day moment.hundredths
    → Steps (Make (Regen start count moment control)) old (Ok tt) new
    → pulses_before start old < r.marker → r.marker < pulses_before start old + 100 * count
    → Contains (frames_of new.state) r
    ↔ ((k : ℕ) × (1 ≤ k) × (k < count)
    × (r ≡ frame_read old.state.format moment control (pulses_before start old) k))

-- and the first one too, if the pulse before it is a position identifier, in step
abbrev pub RegenReadsFirstBack : Type 0
RegenReadsFirstBack = (start count control n : ℕ) (moment : MomentView) (old new : Work)
    (p : Pulse) → IsState old.state → IsMoment moment.day moment.hundredths
    → Steps (Make (Regen start count moment control)) old (Ok tt) new
    → pulses_before start old ≡ n + 1 → slice_get old.state.pulses n ≡ Some p
    → class_at old.state.format p ≡ Some Position
    → is_in_step old.state.format (start - p.rise) ≡ true
    → Contains (frames_of new.state)
    (frame_read old.state.format moment control (n + 1) 0)
