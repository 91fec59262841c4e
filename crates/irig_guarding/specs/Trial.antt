-- A repair that is tried is kept, or it is dropped and undone. This project's own.
use Rattle.std.specs.Prelude.{◌≡◌, ◌⊎◌, ℕ, List, [], ◌∷◌, Option, Some, None}
use Rattle.std.specs.List.{AllByRecursion, flat_map}
use Rattle.irig_script.specs.{Obey.Machine.Machine}
use Rattle.irig_guarding.specs.{Repair.ObeyedAll, Undone.IsUndone}
use Rattle.irig_guarding.specs.Reading.{fine_frames}
use Rattle.irig_guarding.specs.declared.reason.Reason.{Reason}
use Rattle.irig_safety.specs.{Original.OriginalView}
use Rattle.irig_guarding.specs.Drops.{Drops}
use Rattle.irig_guarding.specs.{RepairLines.IsIdle, Stays.MayStay}

-- a repair that is kept: its lines are obeyed; it is a comment, or what they lead to may stay
pub record Keeps (opened : OriginalView) (old : Machine) (lines : List (List ℕ))
    (new : Machine) : Type
    0
  where
    pub obeyed : ObeyedAll old lines new
    pub stays : IsIdle lines ⊎ MayStay opened (fine_frames old.state) new.state

-- a repair is tried: it is kept, or it is dropped and undone
abbrev pub Tries : OriginalView → Machine → List (List ℕ) → Option Reason → Machine → Type 0
Tries opened old lines None new = Keeps opened old lines new
Tries opened old lines (Some reason) new =
    IsUndone old new × Drops opened (fine_frames old.state) old lines reason

-- a repair, and why it is dropped, if it is
pub record Trial : Type 0 where
  pub lines : List (List ℕ)
  pub dropped : Option Reason

-- repairs are tried in their order
abbrev pub TriesAll : OriginalView → Machine → List Trial → Machine → Type 0
TriesAll opened old [] new = new ≡ old
TriesAll opened old (t ∷ trials) new =
    (mid : Machine) × Tries opened old t.lines t.dropped mid × TriesAll opened mid trials new

-- none of them was kept, but for comments
abbrev pub KeepsNone : List Trial → Type 0
KeepsNone trials = AllByRecursion (λ t. t.dropped ≡ None → IsIdle t.lines) trials

-- the lines of repairs
abbrev pub proposed : List Trial → List (List ℕ)
proposed trials = flat_map (λ t. t.lines) trials
