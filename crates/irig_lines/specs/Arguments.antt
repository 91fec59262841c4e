-- The arguments of a line: times, frames, expressions and control functions. This project's own.
use Rattle.std.specs.Prelude.{◌≡◌, ◌+◌, ◌≤◌, ℕ, List, [], ◌∷◌, Some}
use Rattle.irig_moment.specs.{Written.moment_of, Moment.MomentView}
use Rattle.irig_lines.specs.Numbers.{IsNumber, IsControl}
use Rattle.irig_lines.specs.{Addresses.IsTime, declared.time.Time.Time}

-- the word is one digit from 0 to 7
abbrev pub IsExpression : List ℕ → ℕ → Type 0
IsExpression word n = (word ≡ (48 + n) ∷ []) × (n ≤ 7)

-- the control functions at the end of a line; none are 0
abbrev pub AreControls : List (List ℕ) → ℕ → Type 0
AreControls [] control = control ≡ 0
AreControls (word ∷ []) control = IsControl word control
AreControls _ control = ⊥

-- two times
abbrev pub AreTimes : List (List ℕ) → Time → Time → Type 0
AreTimes args s t = (x : List ℕ) × (y : List ℕ) × (args ≡ x ∷ y ∷ []) × IsTime x s × IsTime y t

-- a time, a number of frames, a moment, and control functions
abbrev pub AreFrames : List (List ℕ) → Time → ℕ → MomentView → ℕ → Type 0
AreFrames args s f m c = (x : List ℕ) × (y : List ℕ) × (z : List ℕ) × (rest : List (List ℕ))
    × (args ≡ x ∷ y ∷ z ∷ rest) × IsTime x s × IsNumber y f × (moment_of z ≡ Some m)
    × AreControls rest c
