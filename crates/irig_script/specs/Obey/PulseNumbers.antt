-- What addresses, ranges and times mean, in the state before their line and with its cursor. This
-- project's own.
use Rattle.std.specs.Prelude.{◌+◌, ◌-◌, ◌^◌, ℕ, ℤ, nat_le, length, Option, Some, None, option_map}
use Rattle.std.specs.Prelude.{unwrap_or, get_or, if◌then◌else◌}
use Rattle.irig_track.specs.{Shifts.ahead, Shifts.back, Splices.risen_by}
use Rattle.irig_journal.specs.Machine.{Kept}
use Rattle.irig_edit.specs.State.State.{State}
use Rattle.irig_lines.specs.declared.address.Base.TheVariants.{Number, Current, Last, Mark}
use Rattle.irig_lines.specs.declared.range.Range.TheVariants.{One, Two}
use Rattle.irig_lines.specs.{declared.address.Base.Base, declared.address.Address.Address}
use Rattle.irig_lines.specs.{declared.range.Range.Range, declared.time.Time.Time}
use Rattle.irig_lines.specs.declared.time.Time.TheVariants as time

-- the time of a mark, if it is set
abbrev pub mark_of : ℕ → Kept State → Option ℕ
mark_of letter m = get_or m.state.marks letter None

-- the number that an address counts from; none if its mark is not set
abbrev pub base_of : Base → Kept State → Option ℕ
base_of (Number n) m = Some n
base_of Current m = Some m.cursor
base_of Last m = Some (length m.state.pulses)
base_of (Mark letter) m = option_map (λ t. risen_by t m.state.pulses) (mark_of letter m)

-- the number that is this far after another, or before it, if it is that of a pulse; else 0,
-- which every call refuses
abbrev pub counted : Option ℕ → ℕ → ℤ → ℕ → ℕ
counted None by offset count = 0
counted (Some n) by offset count =
    if nat_le (n + by + ahead offset - back offset) count
    then n + by + ahead offset - back offset else 0

-- the pulse that is `by` pulses after an address
abbrev pub pulse_at : ℕ → Address → Kept State → ℕ
pulse_at by a m = counted (base_of a.base m) by a.offset (length m.state.pulses)

-- the number of the pulse of an address
abbrev pub number_at : Address → Kept State → ℕ
number_at a m = pulse_at 0 a m

-- the first pulse of a range
abbrev pub first_of : Range → Kept State → ℕ
first_of (One a) m = number_at a m
first_of (Two a b) m = number_at a m

-- the last pulse of a range
abbrev pub last_of : Range → Kept State → ℕ
last_of (One a) m = number_at a m
last_of (Two a b) m = number_at b m

-- the last pulse of a range that is joined: one address means a pulse and the next
abbrev pub join_last_of : Range → Kept State → ℕ
join_last_of (One a) m = pulse_at 1 a m
join_last_of (Two a b) m = number_at b m

-- a time; that of a mark which is not set is beyond every length
abbrev pub time_of : Time → Kept State → ℕ
time_of (time.At t) m = t
time_of (time.Mark letter) m = unwrap_or (mark_of letter m) (2 ^ 64 - 1)
