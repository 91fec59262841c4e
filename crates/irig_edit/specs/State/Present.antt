-- What contracts see of the present state. This project's own.
use Rattle.std.specs.Prelude.{ℕ}
use Rattle.irig_index.specs.Index.{IndexView}
use Rattle.irig_edit.specs.State.State.{State}

-- a state, how many more pulses its track has places for, and the index of its frames
pub record PresentView : Type 0 where
  pub state : State
  pub spare : ℕ
  pub index : IndexView

-- a state, with the spare places of its track and its index
abbrev pub present_view : State → ℕ → IndexView → PresentView
present_view s n i = record { state = s; spare = n; index = i }

-- the present state, without its spare room
abbrev pub state_in : PresentView → State
state_in p = p.state

-- the looks at pulses that its index has counted
abbrev pub looks_in : PresentView → ℕ
looks_in p = p.index.looks
