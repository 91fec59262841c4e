-- The same steps are ready.
use Rattle.std.proofs.Common.{◌≡◌, List, sym, subst}
use Rattle.irig_journal.specs.{Held.Held, Held.flat, History.FitInTurn, Journal.ReadyInTurn, Journal.Steps}
use Rattle.irig_edit.specs.{Changes.Delta.Fits, Changes.Delta.turned, Changes.Held.delta_of, Changes.Held.deltas_of, State.Places.places_in}
use Rattle.irig_edit.specs.{State.Present.PresentView, Changes.Ready.StepsAreReady, Changes.Room.HasRoomFor, declared.changes.turn.Turn.Turn}

pub ready_same : (p : PresentView) (i j : Steps Turn) → j.past ≡ i.past → j.future ≡ i.future → StepsAreReady p i → StepsAreReady p j
ready_same p i j past future ready = (
  (
    subst (λ (l : List (Held Turn)). FitInTurn Fits turned p.state (deltas_of l)) (sym past) ready.0.0,
    subst (λ (l : List (Held Turn)). FitInTurn Fits turned p.state (deltas_of l)) (sym future) ready.0.1,
  ),
  subst (λ (l : List (Held Turn)). ReadyInTurn Fits turned delta_of (HasRoomFor (places_in p)) p.state (flat l)) (sym past) ready.1,
  subst (λ (l : List (Held Turn)). ReadyInTurn Fits turned delta_of (HasRoomFor (places_in p)) p.state (flat l)) (sym future) ready.2,
)
