-- The pulses with a time around a moment. This project's own.
use Rattle.std.specs.Prelude.{ℕ, ◌<◌, ◌≤◌, Option, Some, None}
use Rattle.irig_law.specs.declared.point.Point.{Point}
use Rattle.irig_timed.specs.declared.run.Place.{Place}

-- of the pulses before one, this is the last that has a time, or none has; `is_point` says which
-- element a pulse is
abbrev pub IsLast : (ℕ → Point → Type 0) → ℕ → Option Place → Type 0
IsLast is_point risen None = (k : ℕ) (x : Point) → k < risen → is_point k x → ⊥
IsLast is_point risen (Some p) =
    (p.number < risen) × is_point p.number p.point
    × ((k : ℕ) (x : Point) → p.number < k → k < risen → is_point k x → ⊥)

-- of the pulses from one on, this is the first that has a time, or none has
abbrev pub IsFirst : (ℕ → Point → Type 0) → ℕ → Option Place → Type 0
IsFirst is_point risen None = (k : ℕ) (x : Point) → risen ≤ k → is_point k x → ⊥
IsFirst is_point risen (Some q) =
    (risen ≤ q.number) × is_point q.number q.point
    × ((k : ℕ) (x : Point) → risen ≤ k → k < q.number → is_point k x → ⊥)

-- if that many pulses have risen, these are the last that has a time and the next that has one
pub record AreAround (is_point : ℕ → Point → Type 0) (risen : ℕ) (from to : Option Place)
    : Type 0 where
  pub last : IsLast is_point risen from
  pub next : IsFirst is_point risen to
