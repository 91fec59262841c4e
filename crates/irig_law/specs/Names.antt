-- The names of the pulses of a row by a clock: how many elements each is from the first one, which
-- is element 0, by the distances between their rises. This project's own.
use Rattle.std.specs.Prelude.{ℕ, zero, suc, ◌+◌, ◌-◌, Bool, Option, Some, None, if◌then◌else◌, ◌*◌}
use Rattle.std.specs.Prelude.{◌/◌, ◌≤◌, ◌&&◌, nat_le, nat_lt}
use Rattle.irig_law.specs.{declared.clock.Clock.Clock, declared.names.Seen.Seen}
use Rattle.irig_law.specs.{declared.names.Walk.Walk, declared.names.Seen.TheVariants.Named}
use Rattle.irig_law.specs.declared.names.Seen.TheVariants.{Astray, Unknown}

-- A clock is as a frame shows it: its 99 intervals last `span` microseconds. Each interval can be
-- off by `slack` ninety-ninths of a microsecond, and a rise by `tenth` of them.

-- two numbers differ by at most this many
abbrev pub Within : ℕ → ℕ → ℕ → Type 0
Within most a b = (a ≤ b + most) × (b ≤ a + most)

-- the distance is n intervals, to a tenth and to what the clock can be off
abbrev pub is_near : Clock → ℕ → ℕ → Bool
is_near c d n =
    nat_le (99 * d) (n * c.span + (c.tenth + n * c.slack))
    && nat_le (n * c.span) (99 * d + (c.tenth + n * c.slack))

-- no other number of intervals can be as long, by a clock as fast as that of a format: no frame's
-- 99 intervals last less than 8,192 microseconds
abbrev pub is_sure : Clock → ℕ → Bool
is_sure c n = nat_le 8192 c.span && nat_lt (c.tenth + 2 * (n * c.slack) + c.slack) c.span

-- to the nearest number of intervals
abbrev pub nearest : Clock → ℕ → ℕ
nearest c d = (2 * (99 * d) + c.span) / (2 * c.span)

-- how many elements after a pulse another one is that rises so long after it, if that is sure
abbrev pub hop : Clock → ℕ → Option ℕ
hop c d =
    if nat_lt 0 (nearest c d) && (is_near c d (nearest c d) && is_sure c (nearest c d))
    then Some (nearest c d) else None

-- Of a row `rise` is how long after the first pulse each rises, `runs` whether it is no noise: the
-- pulses next to it are in step with it. A walk has the last pulse with a name, and its element.

-- a hop from the last name leads to a pulse, or it is on no grid, or no one can be sure
abbrev pub judged : Clock → ℕ → ℕ → Option ℕ → Seen
judged c element distance None =
    if is_sure c (nearest c distance) then Astray else Unknown
judged c element distance (Some n) = Named (element + n)

-- what is seen of a pulse, if the walk has come so far
abbrev pub seen_at : Clock → (ℕ → ℕ) → (ℕ → Bool) → ℕ → Walk → Seen
seen_at c rise runs k w =
    if runs k
    then judged c w.element (rise k - rise w.last) (hop c (rise k - rise w.last)) else Unknown

abbrev pub moved : Walk → ℕ → Seen → Walk
moved w k (Named e) = record { last = k; element = e }
moved w k other = w

-- the walk after some pulses, and what is seen of each
abbrev pub walk : Clock → (ℕ → ℕ) → (ℕ → Bool) → ℕ → Walk
walk c rise runs zero = record { last = 0; element = 0 }
walk c rise runs (suc m) =
    moved (walk c rise runs m) (suc m) (seen_at c rise runs (suc m) (walk c rise runs m))

abbrev pub seen : Clock → (ℕ → ℕ) → (ℕ → Bool) → ℕ → Seen
seen c rise runs zero = Named 0
seen c rise runs (suc m) = seen_at c rise runs (suc m) (walk c rise runs m)

-- what is seen of a pulse by a test that more pulses pass; but only those that are no noise lead on
abbrev pub seen_loosely : Clock → (ℕ → ℕ) → (ℕ → Bool) → (ℕ → Bool) → ℕ → Seen
seen_loosely c rise runs half zero = Named 0
seen_loosely c rise runs half (suc m) = seen_at c rise half (suc m) (walk c rise runs m)
