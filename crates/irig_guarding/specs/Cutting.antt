-- How a proposed script is cut into repairs: lines and groups. This project's own.
use Rattle.std.specs.Prelude.{◌≡◌, ◌⊎◌, ◌++◌, ℕ, List, [], ◌∷◌}
use Rattle.std.specs.List.{AllByRecursion}
use Rattle.irig_lines.specs.declared.command.Command.TheVariants as command
use Rattle.irig_guarding.specs.Repair.{Asks}
use Rattle.irig_guarding.specs.Trial.{Trial, proposed}

-- the line closes a group
abbrev pub IsClosing : List ℕ → Type 0
IsClosing line = Asks command.End line ⊎ Asks command.Abort line

-- lines from a begin to the first line that closes the group, or to the end of the script
pub record IsGroupBefore (lines rest : List (List ℕ)) : Type 0 where
  pub first : List ℕ
  pub inner : List (List ℕ)
  pub back : List (List ℕ)
  pub whole : lines ≡ first ∷ (inner ++ back)
  pub begins : Asks command.Begin first
  pub unclosed : AllByRecursion (λ line. IsClosing line → ⊥) inner
  pub closes : ((last : List ℕ) × (back ≡ last ∷ []) × IsClosing last)
      ⊎ ((back ≡ []) × (rest ≡ []))

-- lines that are tried together, before the rest of a script: one that begins no group, or a group
abbrev pub IsCutBefore : List (List ℕ) → List (List ℕ) → Type 0
IsCutBefore lines rest =
    ((line : List ℕ) × (lines ≡ line ∷ []) × (Asks command.Begin line → ⊥))
    ⊎ IsGroupBefore lines rest

-- a script up to a rest is cut into repairs
abbrev pub IsCut : List Trial → List (List ℕ) → Type 0
IsCut [] rest = Unit {0}
IsCut (t ∷ trials) rest = IsCutBefore t.lines (proposed trials ++ rest) × IsCut trials rest
