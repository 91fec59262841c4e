-- Why a repair of a proposed script is dropped. This project's own.
use Rattle.std.specs.Prelude.{◌≡◌, ◌++◌, ℕ, List, ◌∷◌}
use Rattle.std.specs.List.{AllByRecursion}
use Rattle.irig_edit.specs.declared.session.refusal.Refusal.{Refusal}
use Rattle.irig_edit.specs.{Session.Calls.Call, State.State.State}
use Rattle.irig_lines.specs.{declared.command.Command.Command}
use Rattle.irig_lines.specs.declared.command.Command.TheVariants as command
use Rattle.irig_script.specs.{Obey.Machine.Machine, Obey.Obeying.Obeys, Obey.Replies.Calls}
use Rattle.irig_script.specs.declared.print.reply.Reply.TheVariants as told
use Rattle.irig_guarding.specs.{Agreeing.HasLedTo, Repair.Asks, Repair.ObeyedAll}
use Rattle.irig_guarding.specs.declared.reason.Reason.TheVariants.{Disagrees, NoRepair, NotSafe}
use Rattle.irig_guarding.specs.declared.reason.Reason.TheVariants.{OutOfMemory, Refused}
use Rattle.irig_guarding.specs.declared.reason.Reason.{Reason}
use Rattle.irig_safety.specs.{Original.OriginalView, declared.fault.Fault.Fault}
use Rattle.irig_safety.specs.declared.shown.Shown.{Shown}
use Rattle.irig_guarding.specs.RepairLines.{AsksFor, IsInner, MayBeKept}
use Rattle.irig_guarding.specs.Stays.{MayStay, HasFault}

-- the editor refuses the line
abbrev pub Refuses : Machine → List ℕ → Refusal → Type 0
Refuses old line why = (asked : Command) × Asks asked line
    × ((after : Machine) × Obeys asked old (told.Refused why) after)

-- the lines are obeyed up to one that the editor refuses
pub record IsRefusedAt (old : Machine) (lines : List (List ℕ)) (why : Refusal) : Type 0 where
  pub front : List (List ℕ)
  pub line : List ℕ
  pub rest : List (List ℕ)
  pub whole : lines ≡ front ++ line ∷ rest
  pub mid : Machine
  pub obeyed : ObeyedAll old front mid
  pub refused : Refuses mid line why

-- the lines are obeyed, but for the end of a group
pub record AreMade (old : Machine) (lines : List (List ℕ)) : Type 0 where
  pub front : List (List ℕ)
  pub rest : List (List ℕ)
  pub whole : lines ≡ front ++ rest
  pub ends : AllByRecursion (Asks command.End) rest
  pub mid : Machine
  pub obeyed : ObeyedAll old front mid

-- they are, and what they lead to may not stay
abbrev pub IsUnsafe : OriginalView → List Shown → Machine → List (List ℕ) → Fault → Type 0
IsUnsafe opened last old lines why = (made : AreMade old lines)
    × (MayStay opened last made.mid.state → ⊥) × HasFault opened last made.mid.state why

-- why a line in a group stops it
abbrev pub StopsAt : Machine → List ℕ → Reason → Type 0
StopsAt old line NoRepair = AsksFor IsInner line → ⊥
StopsAt old line (Refused why) = Refuses old line why
StopsAt old line _ = ⊥

-- why the lines in a group stop it
abbrev pub StopsIn : Machine → List (List ℕ) → Reason → Type 0
StopsIn old lines NoRepair = AllByRecursion (AsksFor IsInner) lines → ⊥
StopsIn old lines (Refused why) = IsRefusedAt old lines why
StopsIn old lines _ = ⊥

-- why what a repair leads to does not stay
abbrev pub Sways : OriginalView → List Shown → State → Reason → Type 0
Sways opened last s OutOfMemory = Unit {0}
Sways opened last s (NotSafe why) = (MayStay opened last s → ⊥)
    × HasFault opened last s why
Sways opened last s _ = ⊥

-- why a group does not end
abbrev pub Holds : OriginalView → List Shown → Machine → Reason → Type 0
Holds opened last old (Refused why) =
    (after : Machine) × Calls Call.End old (told.Refused why) after
Holds opened last old reason = Sways opened last old.state reason

-- why a repair is dropped: it is none; or the editor refuses a line of it; or memory runs out for
-- what its lines lead to; or that may not stay; or it is barred, as a result with it had this fault
abbrev pub Drops : OriginalView → List Shown → Machine → List (List ℕ) → Reason → Type 0
Drops opened last old lines NoRepair = MayBeKept lines → ⊥
Drops opened last old lines (Refused why) = IsRefusedAt old lines why
Drops opened last old lines OutOfMemory = AreMade old lines
Drops opened last old lines (NotSafe why) = IsUnsafe opened last old lines why
Drops opened last old lines (Disagrees why) = HasLedTo opened.pulses old.state.format lines why
