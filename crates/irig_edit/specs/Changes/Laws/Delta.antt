-- A change is reversed by the change that it leaves. This project's own.
use Rattle.std.proofs.Common.{◌≡◌, List, ap, ap₂}
use Rattle.irig_journal.specs.Laws.Backs.{LeadsBack, lead_all_back, ways_back-ways_back}
use Rattle.irig_journal.specs.Laws.Turns.{keeps_all}
use Rattle.irig_saved.specs.declared.change.Change.TheVariants.{One, Group}
use Rattle.irig_saved.specs.{declared.change.Change.Change, declared.single.Single.Single}
use Rattle.irig_edit.specs.Changes.Laws.Single.{FitsSingle-turned, turned_single-turned}
use Rattle.irig_edit.specs.{Changes.Delta.Fits, Changes.Delta.turned, Changes.Single.FitsSingle}
use Rattle.irig_edit.specs.{Changes.Single.turned_single, Changes.Laws.State.IsState-turned_single}
use Rattle.irig_edit.specs.{State.State.State, State.State.IsState}

-- each single change leads back
singles_lead_back : LeadsBack IsState FitsSingle turned_single
singles_lead_back = record {
  keeps = IsState-turned_single;
  back_fits = FitsSingle-turned;
  back = turned_single-turned;
}

-- a change leaves a state within the limits
pub IsState-turned : (s : State) (d : Change) → IsState s → Fits s d → IsState (turned s d).0
IsState-turned s (One d) is can = IsState-turned_single s d is can
IsState-turned s (Group ds) is can =
    keeps_all IsState FitsSingle turned_single IsState-turned_single s ds is can

-- the change that leads back can be made
pub Fits-turned : (s : State) (d : Change) → IsState s → Fits s d
    → Fits (turned s d).0 (turned s d).1
Fits-turned s (One d) is can = FitsSingle-turned s d is can
Fits-turned s (Group ds) is can =
    (lead_all_back IsState FitsSingle turned_single singles_lead_back s ds is can).fit

-- a state, with a single change
abbrev with_alone : State × Single → State × Change
with_alone p = (p.0, One p.1)

-- a state, with a group
abbrev pub with_together : State → List Single → State × Change
with_together s ds = (s, Group ds)

-- and gives back the state and the change
pub turned-turned : (s : State) (d : Change) → IsState s → Fits s d
    → turned (turned s d).0 (turned s d).1 ≡ (s, d)
turned-turned s (One d) is can = ap with_alone (turned_single-turned s d is can)
turned-turned s (Group ds) is can =
    let laws = lead_all_back IsState FitsSingle turned_single singles_lead_back s ds is can in
    ap₂ with_together laws.state (ways_back-ways_back FitsSingle turned_single s ds laws)
