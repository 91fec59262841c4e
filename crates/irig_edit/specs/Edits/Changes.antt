-- The change that each edit is. This project's own.
use Rattle.std.specs.Prelude.{◌+◌, ◌-◌, [], ◌∷◌, length, map}
use Rattle.irig_codes.specs.Width.{nominal_of}
use Rattle.irig_track.specs.{Edges.pulse, Splices.risen_by}
use Rattle.irig_edit.specs.Session.Calls.Edit.{Insert, Delete, Split, Join, Shift, Invert, Force}
use Rattle.irig_edit.specs.Session.Calls.Edit.{Regen, SetFormat, SetMark}
use Rattle.irig_edit.specs.Edits.Regenerated.{frames_end, frames_pulses, rising_before, rising_in}
use Rattle.irig_edit.specs.{Session.Calls.Edit, Edits.Conditions.fall_at, Edits.Edits.pulse_of}
use Rattle.irig_edit.specs.{State.Marks.stands, State.State.State}
use Rattle.irig_saved.specs.declared.single.Single.TheVariants.{Splice, Toggle, Shift as Shifted}
use Rattle.irig_saved.specs.declared.single.Single.TheVariants.{SetFormat as Formatted}
use Rattle.irig_saved.specs.declared.single.Single.TheVariants.{SetMark as Marked}
use Rattle.irig_saved.specs.{declared.change.Change.Change, declared.change.Change.TheVariants.One}

-- what an edit of a state changes. Most insert pulses instead of those that they remove, an
-- inserted one after those that rise at or before its fall; a shift moves the marks that are
-- from the first rise to the last fall
abbrev pub change_by : Edit → State → Change
change_by (Insert a b) s = One (Splice (risen_by b s.pulses + 1) 0 (pulse a b ∷ []))
change_by (Delete i j) s = One (Splice i (j + 1 - i) [])
change_by (Split i a b) s =
    One (Splice i 1 (pulse (pulse_of i s).rise a ∷ pulse b (pulse_of i s).fall ∷ []))
change_by (Join i j) s =
    One (Splice i (j + 1 - i) (pulse (pulse_of i s).rise (pulse_of j s).fall ∷ []))
change_by (Shift i j d) s =
    One (Shifted i j d (map (stands (pulse_of i s).rise (pulse_of j s).fall) s.marks))
change_by (Invert a b) s = One (Toggle a b)
change_by (Force i e) s = One (Splice i 1
    (pulse (pulse_of i s).rise (fall_at i (nominal_of s.format e) s) ∷ []))
change_by (Regen start frames moment control) s =
    One (Splice (length (rising_before start s.pulses) + 1)
    (length (rising_in start (frames_end s.format start frames) s.pulses))
    (frames_pulses s.format start frames moment control))
change_by (SetFormat f) s = One (Formatted f.kind f.expression)
change_by (SetMark letter time) s = One (Marked letter time)
