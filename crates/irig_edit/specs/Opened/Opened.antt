-- The session that is opened from a dump, with the journal that it carries. This project's own.
use Rattle.std.specs.Prelude.{◌≡◌, ◌⊎◌, ◌+◌, ◌-◌, ℕ, List, [], ◌∷◌, Option, Some, None, length}
use Rattle.std.specs.Prelude.{nat_lt, not, if◌then◌else◌, reverse, take}
use Rattle.irig_codes.specs.Format.{is_permitted}
use Rattle.irig_saved.specs.SavedText.{mark_lines, steps_lines}
use Rattle.irig_saved.specs.{declared.saved.Saved.Saved, declared.step.SavedStep.SavedStep}
use Rattle.irig_recording.specs.Recording.{RecordingView}
use Rattle.irig_edit.specs.Session.Session.{SessionView, session_view}
use Rattle.irig_edit.specs.Opened.Taken.{CanTakeAll, StopsAfter, steps_of}
use Rattle.irig_edit.specs.{Changes.Single.pulses_of, State.State.State, State.State.state}

-- the state of a recording with the format and the marks of its journal
abbrev pub state_of : RecordingView → Saved → State
state_of r saved =
    state r.micros (pulses_of r.edges)
    (record { kind = saved.kind; expression = saved.expression }) saved.marks

-- the line of the first mark beyond a length, the first of these marks having this line
abbrev pub mark_beyond : ℕ → ℕ → List (Option ℕ) → Option ℕ
mark_beyond micros line [] = None
mark_beyond micros line (None ∷ marks) = mark_beyond micros line marks
mark_beyond micros line (Some t ∷ marks) =
    if nat_lt micros t then Some line else mark_beyond micros (line + 1) marks

-- the first line at fault above the steps: a format that is not permitted, a cursor beyond the
-- number of pulses, a mark beyond the length
abbrev pub head_fault : State → Saved → Option ℕ
head_fault s saved =
    if not (is_permitted saved.kind saved.expression) then Some 2
    else if nat_lt (length s.pulses) saved.cursor then Some 3
    else mark_beyond s.micros 4 saved.marks

-- the line that counts the steps forward
abbrev pub line_of_future : Saved → ℕ
line_of_future saved = 5 + length (mark_lines 97 saved.marks) + length (steps_lines saved.past)

-- the first step at fault, if the steps forward are counted on this line: of the steps back, the
-- newest first, one that is this many lines above; or else one of the steps forward
abbrev pub IsStepAtFault : State → List SavedStep → List SavedStep → ℕ → ℕ → Type 0
IsStepAtFault s past future line fault =
    ((count : ℕ) × (StopsAfter s (reverse past) count
    × (fault ≡ line - length (steps_lines (take (count + 1) (reverse past))))))
    ⊎ (CanTakeAll s (steps_of (reverse past)) × ((count : ℕ) × (StopsAfter s future count
    × (fault ≡ line + 1 + length (steps_lines (take count future))))))

-- the first line at fault: above the steps, or else that of a step
abbrev pub IsLineAtFault : State → Saved → ℕ → Type 0
IsLineAtFault s saved fault =
    (head_fault s saved ≡ Some fault)
    ⊎ ((head_fault s saved ≡ None)
    × IsStepAtFault s saved.past saved.future (line_of_future saved) fault)

-- the steps back and forward of a journal can be taken, back the newest first, forward the next
-- first: they make the session
pub record IsAccepted (s : State) (saved : Saved) (v : SessionView) : Type 0 where
  pub head : head_fault s saved ≡ None
  pub back : CanTakeAll s (steps_of (reverse saved.past))
  pub on : CanTakeAll s (steps_of saved.future)
  pub session : v ≡ session_view (record {
    state = s;
    cursor = saved.cursor;
    past = steps_of (reverse saved.past);
    future = steps_of saved.future;
    floor = None;
  }) v.looks 0
