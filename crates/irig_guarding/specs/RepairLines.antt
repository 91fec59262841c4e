-- Which lines of a proposed script may be kept: an edit, a group of edits, or a comment. This
-- project's own.
use Rattle.std.specs.Prelude.{◌≡◌, ◌⊎◌, ◌++◌, ℕ, List, [], ◌∷◌}
use Rattle.std.specs.List.{AllByRecursion}
use Rattle.irig_lines.specs.{declared.command.Command.Command}
use Rattle.irig_lines.specs.declared.command.Command.TheVariants as command
use Rattle.irig_guarding.specs.Repair.{Asks, IsRepair}

-- the line asks for a command of this kind
abbrev pub AsksFor : (Command → Type 0) → List ℕ → Type 0
AsksFor kind line = (asked : Command) × Asks asked line × kind asked

-- a command that a group may hold: an edit, or nothing
abbrev pub IsInner : Command → Type 0
IsInner command.Nothing = Unit {0}
IsInner c = IsRepair c

-- one line, a comment or blank
abbrev pub IsIdle : List (List ℕ) → Type 0
IsIdle lines = (line : List ℕ) × (lines ≡ line ∷ []) × Asks command.Nothing line

-- one line that edits
abbrev pub IsEditLine : List (List ℕ) → Type 0
IsEditLine lines = (line : List ℕ) × (lines ≡ line ∷ []) × AsksFor IsRepair line

-- a begin, edits and comments, and an end
pub record IsEditGroup (lines : List (List ℕ)) : Type 0 where
  pub first : List ℕ
  pub inner : List (List ℕ)
  pub last : List ℕ
  pub whole : lines ≡ first ∷ (inner ++ last ∷ [])
  pub begins : Asks command.Begin first
  pub edits : AllByRecursion (AsksFor IsInner) inner
  pub ends : Asks command.End last

-- lines that are a repair or a comment
abbrev pub MayBeKept : List (List ℕ) → Type 0
MayBeKept lines = IsIdle lines ⊎ (IsEditLine lines ⊎ IsEditGroup lines)
