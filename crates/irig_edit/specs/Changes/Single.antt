-- When a single change of a state can be made, what it leaves, and how many pulses it holds. Pulses
-- count from 1, and a letter a to z is a number from 0. This project's own.
use Rattle.std.specs.Prelude.{◌≡◌, ℕ, suc, ◌<◌, ◌≤◌, ◌+◌, ◌*◌, IsTrue, List, [], ◌∷◌, None, length}
use Rattle.std.specs.Prelude.{get_or, slice_set, neg_ℤ}
use Rattle.irig_codes.specs.Format.{is_permitted}
use Rattle.irig_saved.specs.declared.single.Single.{Single}
use Rattle.irig_saved.specs.declared.single.Single.TheVariants.{Splice, Toggle, Shift, SetFormat}
use Rattle.irig_saved.specs.declared.single.Single.TheVariants.{SetMark}
use Rattle.irig_recording.specs.declared.pulse.Pulse.{Pulse}
use Rattle.irig_track.specs.Splices.{CanSplice, piece, spliced}
use Rattle.irig_track.specs.Toggles.{CanToggle, toggled}
use Rattle.irig_track.specs.{Edges.pulse, Edges.edges_of, Shifts.CanShift, Shifts.shifted}
use Rattle.irig_edit.specs.State.State.{State, IsMark, state, with_pulses}
use Rattle.irig_edit.specs.State.Marks.{AllMayMove, marks_moved}

-- the pulses of edges, taken two by two
abbrev pub pulses_of : List ℕ → List Pulse
pulses_of [] = []
pulses_of (rise ∷ []) = []
pulses_of (rise ∷ fall ∷ edges) = pulse rise fall ∷ pulses_of edges

-- the change can be made: no pulse has the number 0
abbrev pub FitsSingle : State → Single → Type 0
FitsSingle s (Splice (suc at) count put) = CanSplice s.micros at count put s.pulses
FitsSingle s (Toggle a b) = CanToggle s.micros a b s.pulses
FitsSingle s (Shift (suc i) (suc j) d named) =
    CanShift s.micros i j d s.pulses × AllMayMove s.micros d named s.marks × (length named ≡ 26)
FitsSingle s (SetFormat kind expression) = IsTrue (is_permitted kind expression)
FitsSingle s (SetMark letter time) = (letter < 26) × IsMark s.micros time
FitsSingle s _ = ⊥

-- the state that a change leaves, and the change that leads back
abbrev pub turned_single : State → Single → State × Single
turned_single s (Splice (suc at) count put) = (
  with_pulses (spliced at count put s.pulses) s,
  Splice (suc at) (length put) (piece at count s.pulses),
)
turned_single s (Toggle a b) =
    (with_pulses (pulses_of (toggled a b (edges_of s.pulses))) s, Toggle a b)
turned_single s (Shift (suc i) (suc j) d named) = (
  state s.micros (shifted i j d s.pulses) s.format (marks_moved d named s.marks),
  Shift (suc i) (suc j) (neg_ℤ d) named,
)
turned_single s (SetFormat kind expression) = (
  state s.micros s.pulses (record { kind = kind; expression = expression }) s.marks,
  SetFormat s.format.kind s.format.expression,
)
turned_single s (SetMark letter time) = (
  state s.micros s.pulses s.format (slice_set s.marks letter time),
  SetMark letter (get_or s.marks letter None),
)
turned_single s single = (s, single)

-- it is a shift
abbrev pub IsShift : Single → Type 0
IsShift (Shift i j d named) = Unit {0}
IsShift single = ⊥

-- how many pulses go
abbrev pub goes : Single → ℕ
goes (Splice at count put) = count
goes (Toggle a b) = 0
goes (Shift i j d named) = 0
goes (SetFormat kind expression) = 0
goes (SetMark letter time) = 0

-- a buffer has places for this many pulses, and for at most half as many more, and one
abbrev pub IsRoomFor : ℕ → ℕ → Type 0
IsRoomFor count capacity = (count ≤ capacity) × (2 * capacity ≤ 3 * count + 2)

-- how many pulses it holds
abbrev pub held_in : Single → ℕ
held_in (Splice at count put) = length put
held_in (Toggle a b) = 0
held_in (Shift i j d named) = 0
held_in (SetFormat kind expression) = 0
held_in (SetMark letter time) = 0
