-- The base of an element: that of the bits next to it, if both are sure of the same one. This
-- project's own.
use Rattle.std.specs.Prelude.{ℕ, ◌+◌, ◌-◌, ◌/◌, ◌==◌, ◌&&◌, Bool, List, Option, Some, None, count_by}
use Rattle.std.specs.Prelude.{nat_le, slice_get, if◌then◌else◌}
use Rattle.irig_codes.specs.Format.{FormatView}
use Rattle.irig_candidates.specs.{Times.time_of, declared.bit.Bit.Bit}
use Rattle.irig_telling.specs.declared.{counted.Counted.Counted, dated.Dated.Dated, side.Side.Side}
use Rattle.irig_telling.specs.declared.dating.TheConstants.{ELEMENTS}
use Rattle.irig_telling.specs.Jumps.{far_within}

-- the time goes on from the frame of one bit to that of the next one, with another base: day 365
-- was the last one of the year, or a second 60 begins or ends
abbrev pub goes_on_to : FormatView → Bit → Bit → ℕ → ℕ → Bool
goes_on_to f b a x y = (a.frame == b.frame + 1) && (far_within f b a x y == 0)

-- an element of the frame of the first bit has its base
abbrev pub base_both : FormatView → ℕ → Bit → Bit → Option ℕ → Option ℕ → Option ℕ
base_both f frame b a None y = None
base_both f frame b a (Some x) None = None
base_both f frame b a (Some x) (Some y) =
    if x == y then Some x
    else (if goes_on_to f b a x y then (if frame == b.frame then Some x else Some y) else None)

-- if there is a bit on one side alone, its base counts
abbrev pub base_by : FormatView → ℕ → Option Side → Option Side → Option ℕ
base_by f frame None None = None
base_by f frame None (Some a) = a.base
base_by f frame (Some b) None = b.base
base_by f frame (Some b) (Some a) = base_both f frame b.bit a.bit b.base a.base

-- a bit with its base, if it is one of the stretch
abbrev pub side_by : ℕ → Option Bit → Option (Option ℕ) → Option Side
side_by stretch None base = None
side_by stretch (Some b) None = None
side_by stretch (Some b) (Some base) =
    if b.stretch == stretch then Some (record { bit = b; base = base }) else None

abbrev pub side : Dated → List (Option ℕ) → ℕ → ℕ → Option Side
side d told stretch t = side_by stretch (slice_get d.bits.now t) (slice_get told t)

-- the last bit up to a rise, and the first one after it
abbrev pub bits_up_to : Dated → ℕ → ℕ
bits_up_to d rise = count_by (λ b. nat_le b.rise rise) d.bits.now

abbrev pub side_before : Dated → List (Option ℕ) → ℕ → ℕ → Option Side
side_before d told stretch count =
    if count == 0 then None else side d told stretch (count - 1)

-- the base of an element of a rise, or after it
abbrev pub base_of : Dated → List (Option ℕ) → ℕ → Counted → Option ℕ
base_of d told rise at =
    let count = bits_up_to d rise in
    base_by d.code.now (at.element / ELEMENTS) (side_before d told at.stretch count)
    (side d told at.stretch count)

-- and the time of its frame
abbrev pub time_by : FormatView → ℕ → Option ℕ → Option ℕ
time_by f frame None = None
time_by f frame (Some base) = Some (time_of f.kind base frame)

abbrev pub time_told : Dated → List (Option ℕ) → ℕ → Counted → Option ℕ
time_told d told rise at =
    time_by d.code.now (at.element / ELEMENTS) (base_of d told rise at)
