-- A single change of a state within the limits leaves one within them. This project's own.
use Rattle.std.proofs.Common.{suc, ◌<◌, length, sym, subst, ◌∙◌, arith}
use Rattle.irig_recording.specs.Recording.{IsRecording}
use Rattle.irig_track.specs.{Edges.edges_of, Toggles.toggled}
use Rattle.irig_track.proofs.Recordings.{track_of}
use Rattle.irig_saved.specs.declared.single.Single.{Single}
use Rattle.irig_saved.specs.declared.single.Single.TheVariants.{Splice, Toggle, Shift, SetFormat}
use Rattle.irig_saved.specs.declared.single.Single.TheVariants.{SetMark}
use Rattle.irig_edit.specs.Changes.Single.{FitsSingle, turned_single, pulses_of}
use Rattle.irig_edit.specs.Changes.Laws.Edges.{edges_of-toggled}
use Rattle.irig_edit.specs.Changes.Laws.Marks.{length-marks_moved, marks_within}
use Rattle.irig_edit.specs.Changes.Laws.SetMarks.{all-set, length-set}
use Rattle.irig_edit.specs.State.State.{State, IsState}

-- it leaves a state within the limits
pub IsState-turned_single : (s : State) (d : Single) → IsState s → FitsSingle s d
    → IsState (turned_single s d).0
IsState-turned_single s (Splice (suc at) count put) is can =
    record { track = can.track; permitted = is.permitted; letters = is.letters; marks = is.marks }
IsState-turned_single s (Toggle a b) is can =
    let edges = edges_of-toggled s.micros a b s.pulses can in
    record {
      track = track_of s.micros (pulses_of (toggled a b (edges_of s.pulses)))
          (subst (IsRecording s.micros) (sym edges) can.track);
      permitted = is.permitted;
      letters = is.letters;
      marks = is.marks;
    }
IsState-turned_single s (Shift (suc i) (suc j) d named) is can = record {
  track = can.0.track;
  permitted = is.permitted;
  letters = length-marks_moved d named s.marks ∙ is.letters;
  marks = marks_within s.micros d named s.marks is.marks can.1;
}
IsState-turned_single s (SetFormat kind expression) is can =
    record { track = is.track; permitted = can; letters = is.letters; marks = is.marks }
IsState-turned_single s (SetMark letter time) is can =
    let there : letter < length s.marks = omega (arith, is.letters, can.0) in
    record {
      track = is.track;
      permitted = is.permitted;
      letters = length-set letter time s.marks ∙ is.letters;
      marks = all-set s.micros letter time s.marks can.1 is.marks;
    }
IsState-turned_single s _ is can = absurd can
