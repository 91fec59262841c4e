-- Times and marks that are moved. This project's own.
use Rattle.std.specs.Prelude.{ℕ, ℤ, ◌≤◌, ◌+◌, ◌-◌, Bool, true, false, List, [], ◌∷◌, Option, Some}
use Rattle.std.specs.Prelude.{None, nat_le, ◌&&◌, option_map, if◌then◌else◌}
use Rattle.irig_track.specs.Shifts.{ahead, back}

-- the time d microseconds later, if that is not before 0
abbrev pub moved_time : ℤ → ℕ → ℕ
moved_time d t = t + ahead d - back d

-- a mark moved by d, if it is named
abbrev pub moved_if : ℤ → Bool → Option ℕ → Option ℕ
moved_if d named mark = if named then option_map (moved_time d) mark else mark

-- a mark is from a time to another
abbrev pub stands : ℕ → ℕ → Option ℕ → Bool
stands low high None = false
stands low high (Some t) = nat_le low t && nat_le t high

-- a mark that is from the rise of pulse i to the fall of pulse j, moved
abbrev pub moved_mark : ℕ → ℕ → ℤ → Option ℕ → Option ℕ
moved_mark low high d mark = moved_if d (stands low high mark) mark

-- the marks with those named moved by d
abbrev pub marks_moved : ℤ → List Bool → List (Option ℕ) → List (Option ℕ)
marks_moved d [] marks = marks
marks_moved d (named ∷ more) [] = []
marks_moved d (named ∷ more) (mark ∷ marks) = moved_if d named mark ∷ marks_moved d more marks

-- a mark is set, and moved by d it stays within the length
abbrev pub MayMove : ℕ → ℤ → Option ℕ → Type 0
MayMove micros d None = ⊥
MayMove micros d (Some t) = (back d ≤ t + ahead d) × (t + ahead d ≤ micros + back d)

-- each mark that is named may be moved by d
abbrev pub AllMayMove : ℕ → ℤ → List Bool → List (Option ℕ) → Type 0
AllMayMove micros d [] marks = Unit {0}
AllMayMove micros d (named ∷ more) [] = Unit {0}
AllMayMove micros d (true ∷ more) (mark ∷ marks) =
    MayMove micros d mark × AllMayMove micros d more marks
AllMayMove micros d (false ∷ more) (mark ∷ marks) = AllMayMove micros d more marks
