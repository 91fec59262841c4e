-- What is printed of each repair that was tried. This project's own.
use Rattle.std.specs.Prelude.{◌≡◌, ◌⊎◌, ◌++◌, ℕ, List, [], ◌∷◌, Option, Some, None, take}
use Rattle.std.specs.List.{AllByRecursion}
use Rattle.irig_lines.specs.declared.command.Command.TheVariants as command
use Rattle.irig_script.specs.Obey.Run.{IsPlain, unlines}
use Rattle.irig_guarding.specs.Repair.{Asks}
use Rattle.irig_guarding.specs.Reasons.{reason_line}
use Rattle.irig_guarding.specs.declared.reason.Reason.{Reason}
use Rattle.irig_guarding.specs.Trial.{Trial}

-- a comment as it is, and the front of any other line after a number sign
abbrev pub IsRemarkOf : List ℕ → List ℕ → Type 0
IsRemarkOf line remark = (Asks command.Nothing line × (remark ≡ line))
    ⊎ ((Asks command.Nothing line → ⊥) × (remark ≡ 35 ∷ 32 ∷ take 900 line))

-- lines as comments
abbrev pub AreRemarksOf : List (List ℕ) → List (List ℕ) → Type 0
AreRemarksOf [] [] = Unit {0}
AreRemarksOf (line ∷ lines) (remark ∷ remarks) =
    IsRemarkOf line remark × AreRemarksOf lines remarks
AreRemarksOf [] (remark ∷ remarks) = ⊥
AreRemarksOf (line ∷ lines) [] = ⊥

-- the lines that are printed of a repair: its own, or if it is dropped those as comments, after the
-- reason
abbrev pub Prints : List (List ℕ) → Option Reason → List (List ℕ) → Type 0
Prints lines None printed = printed ≡ lines
Prints lines (Some reason) printed = (remarks : List (List ℕ)) × AreRemarksOf lines remarks
    × (printed ≡ reason_line reason ∷ remarks)

-- they were printed, and none has a newline in it
abbrev pub Shows : List (List ℕ) → Option Reason → List ℕ → List ℕ → Type 0
Shows lines dropped old new = (printed : List (List ℕ)) × Prints lines dropped printed
    × AllByRecursion IsPlain printed × (new ≡ old ++ unlines printed)

-- the lines that are printed of repairs, in their order
abbrev pub PrintsAll : List Trial → List (List ℕ) → Type 0
PrintsAll [] printed = printed ≡ []
PrintsAll (t ∷ trials) printed = (front : List (List ℕ)) × (rest : List (List ℕ))
    × (printed ≡ front ++ rest) × Prints t.lines t.dropped front × PrintsAll trials rest
