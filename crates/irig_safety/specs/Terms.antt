-- By what repairs are judged besides the recording. This project's own.
use Rattle.std.specs.Prelude.{◌++◌, Bool, List, []}
use Rattle.irig_safety.specs.declared.{odd.Odd.Odd, shown.Shown.Shown}

-- whether frames may move; frames of other recordings of the same code; and those of other
-- recordings in which no pulse of a control function is odd
pub record TermsView : Type 0 where
  pub moved : Bool
  pub others : List Shown
  pub even : List Shown

-- no frame of another recording
abbrev pub without_others : Bool → TermsView
without_others moved = record { moved = moved; others = []; even = [] }

-- with more frames of other recordings
abbrev pub with_more : List Shown → List Shown → TermsView → TermsView
with_more others even t =
    record t { others = t.others ++ others; even = t.even ++ even }

-- these frames of other recordings, and the control functions of this one whose pulses are odd
pub record OthersView : Type 0 where
  pub frames : List Shown
  pub even : List Shown
  pub odd : List Odd
