-- What a turn leaves is what the change says.
use Rattle.std.proofs.Common.{suc, ◌≡◌, ℕ, ℤ, Bool, List, Option, ap, sym, subst, ◌∙◌}
use Rattle.irig_recording.specs.declared.pulse.Pulse.{Pulse}
use Rattle.irig_track.specs.{Edges.edges_of, Shifts.shifted, Toggles.toggled}
use Rattle.irig_edit.specs.{Changes.Single.FitsSingle, Changes.Single.turned_single, Changes.Single.pulses_of, State.State.State, State.State.IsState}
use Rattle.irig_edit.specs.{State.State.state, State.Marks.marks_moved, Changes.Laws.State.IsState-turned_single, Changes.Laws.Edges.pulses_of-edges_of}
use Rattle.irig_saved.specs.declared.single.Single.TheVariants.{Toggle, Shift}

-- a toggle of the track
pub toggle_turned : (s t : State) (a b micros : ℕ) (ps : List Pulse) → s ≡ t → IsState s → FitsSingle t (Toggle a b)
    → micros ≡ s.micros → edges_of ps ≡ toggled a b (edges_of s.pulses)
    → IsState (state micros ps s.format s.marks) × (state micros ps s.format s.marks ≡ (turned_single t (Toggle a b)).0)
toggle_turned s t a b micros ps view is fits long edges =
    let there : FitsSingle s (Toggle a b) = subst (λ (x : State). FitsSingle x (Toggle a b)) (sym view) fits in
    let pulses : ps ≡ pulses_of (toggled a b (edges_of s.pulses)) = sym (pulses_of-edges_of ps) ∙ ap pulses_of edges in
    let made : state micros ps s.format s.marks ≡ (turned_single s (Toggle a b)).0 = (λ k. state (long k) (pulses k) s.format s.marks) in (
      subst (λ (x : State). IsState x) (sym made) (IsState-turned_single s (Toggle a b) is there),
      made
          ∙ ap (λ (x : State). (turned_single x (Toggle a b)).0) view,
    )

-- a shift of track and marks
pub shift_turned : (s t : State) (i j : ℕ) (by : ℤ) (letters : List Bool) (micros : ℕ) (ps : List Pulse) (marks : List (Option ℕ))
    → s ≡ t → IsState s → FitsSingle t (Shift (suc i) (suc j) by letters)
    → micros ≡ s.micros → ps ≡ shifted i j by s.pulses → marks ≡ marks_moved by letters s.marks → IsState (state micros ps s.format marks)
shift_turned s t i j by letters micros ps marks view is fits long pulses moves =
    let there : FitsSingle s (Shift (suc i) (suc j) by letters) = subst (λ (x : State). FitsSingle x (Shift (suc i) (suc j) by letters)) (sym view) fits in
    let made : state micros ps s.format marks ≡ (turned_single s (Shift (suc i) (suc j) by letters)).0 = (λ k. state (long k) (pulses k) s.format (moves k)) in
    subst (λ (x : State). IsState x) (sym made) (IsState-turned_single s (Shift (suc i) (suc j) by letters) is there)
