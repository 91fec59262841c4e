-- What an accepted edit does to the set of edges, the format, the marks and the cursor. This
-- project's own.
--
-- An edit on edges is given by what it does to one time: `was` says whether the time is an edge
-- before, and the answer whether it is one afterwards. Membership determines the pulses, so this
-- says all.
use Rattle.std.specs.Prelude.{◌≡◌, ◌+◌, ◌-◌, ◌*◌, ℕ, Bool, List, [], ◌∷◌, length, map, Option}
use Rattle.std.specs.Prelude.{get_or, slice_set, min}
use Rattle.irig_codes.specs.{Format.FormatView, Width.nominal_of}
use Rattle.irig_recording.specs.declared.pulse.Pulse.{Pulse}
use Rattle.irig_track.specs.Edges.{pulse, edges_of, is_edge, with_both, without, without_between}
use Rattle.irig_track.specs.Edges.{inverted, replaced}
use Rattle.irig_track.specs.{Splices.piece, Splices.risen_by, Track.IsTrack}
use Rattle.irig_edit.specs.State.Marks.{moved_mark, moved_time}
use Rattle.irig_edit.specs.Edits.Regenerated.{frames_end, rising_before, rising_in, frames_pulses}
use Rattle.irig_edit.specs.Session.Calls.Edit.{Insert, Delete, Split, Join, Shift, Invert, Force}
use Rattle.irig_edit.specs.Session.Calls.Edit.{Regen, SetFormat, SetMark}
use Rattle.irig_edit.specs.{State.State.State, Session.Calls.Edit}

-- pulse i, from 1
abbrev pub pulse_of : ℕ → State → Pulse
pulse_of i s = get_or s.pulses (i - 1) (pulse 0 0)

-- the edges of pulses i to j, from 1, both included
abbrev pub edges_from : ℕ → ℕ → State → List ℕ
edges_from i j s = edges_of (piece (i - 1) (j + 1 - i) s.pulses)

-- whether a time is an edge afterwards
abbrev pub edge_after : Edit → State → ℕ → Bool → Bool
edge_after (Insert a b) s t was = with_both a b t was
edge_after (Split i a b) s t was = with_both a b t was
edge_after (Delete i j) s t was = without (edges_from i j s) t was
edge_after (Join i j) s t was = without_between (pulse_of i s).fall (pulse_of j s).rise t was
edge_after (Invert a b) s t was = inverted a b t was
edge_after (Shift i j d) s t was =
    replaced (edges_from i j s) (map (moved_time d) (edges_from i j s)) t was
edge_after (Force i e) s t was =
    replaced ((pulse_of i s).fall ∷ []) (((pulse_of i s).rise + nominal_of s.format e) ∷ []) t was
edge_after (Regen start frames moment control) s t was =
    replaced (edges_of (rising_in start (frames_end s.format start frames) s.pulses))
    (edges_of (frames_pulses s.format start frames moment control)) t was
edge_after _ s t was = was

-- the format afterwards
abbrev pub format_after : Edit → State → FormatView
format_after (SetFormat f) s = f
format_after _ s = s.format

-- the marks afterwards
abbrev pub marks_after : Edit → State → List (Option ℕ)
marks_after (SetMark letter time) s = slice_set s.marks letter time
marks_after (Shift i j d) s = map (moved_mark (pulse_of i s).rise (pulse_of j s).fall d) s.marks
marks_after _ s = s.marks

-- the cursor afterwards, from the cursor before and the pulses afterwards
abbrev pub cursor_after : Edit → ℕ → List Pulse → ℕ
cursor_after (Insert a b) cursor ps = risen_by a ps
cursor_after (Delete i j) cursor ps = min i (length ps)
cursor_after (Split i a b) cursor ps = i + 1
cursor_after (Join i j) cursor ps = i
cursor_after (Shift i j d) cursor ps = j
cursor_after (Invert a b) cursor ps = risen_by b ps
cursor_after (Force i e) cursor ps = i
cursor_after (Regen start frames moment control) cursor ps =
    length (rising_before start ps) + 100 * frames
cursor_after _ cursor ps = cursor

-- the state after an accepted edit
pub record IsAfter (edit : Edit) (old new : State) : Type 0 where
  pub length : new.micros ≡ old.micros
  pub track : IsTrack new.micros new.pulses
  pub edges : (t : ℕ) → is_edge t new.pulses ≡ edge_after edit old t (is_edge t old.pulses)
  pub format : new.format ≡ format_after edit old
  pub marks : new.marks ≡ marks_after edit old
