-- Known values, worked by hand and proved of the definitions by computing. Format B: an interval is 10,000 microseconds, so the 99
-- intervals of a frame last 990,000.
use Rattle.std.proofs.Common.{◌≡◌, ℕ, Bool, true, false, [], ◌∷◌, Option, Some, None, map, refl}
use Rattle.std.specs.Prelude.{get_or}
use Rattle.irig_times.specs.declared.time.Time.{Time}
use Rattle.irig_codes.specs.Format.{FormatView}
use Rattle.irig_codes.specs.declared.format.Kind.TheVariants.{B}
use Rattle.irig_law.specs.{Elements.element_after, Elements.element_before, Names.hop, Names.seen}
use Rattle.irig_law.specs.Calendar.{micros_after}
use Rattle.irig_law.specs.Holes.{earliest, latest, rate_of, units_of}
use Rattle.irig_law.specs.Hours.{earlier_in_hour, later_in_hour}
use Rattle.irig_law.specs.declared.{clock.Clock.Clock, frame.Frame.Frame}
use Rattle.irig_law.specs.declared.names.Seen.TheVariants.{Named, Astray}

-- a clock of B that strays by two parts in a hundred thousand
abbrev clock : Clock
clock = record { span = 990000; slack = 20; tenth = 99000 }

-- three intervals, and three less a tenth; three less a fifth are none, half an interval is none, and after 40,000 no one can be sure
pub hops : map (hop clock) (30000 ∷ 29000 ∷ 28000 ∷ 5000 ∷ 400000000 ∷ []) ≡ Some 3 ∷ Some 3 ∷ None ∷ None ∷ None ∷ []
hops = refl

-- of a row that lost two pulses after the second one: a pulse that is no noise is named over the hole, one off the grid is astray
abbrev rise : ℕ → ℕ
rise k = get_or (0 ∷ 10000 ∷ 40000 ∷ 44000 ∷ 50000 ∷ []) k 0

abbrev runs : ℕ → Bool
runs k = get_or (true ∷ true ∷ true ∷ true ∷ true ∷ []) k false

pub names : map (seen clock rise runs) (0 ∷ 1 ∷ 2 ∷ 3 ∷ 4 ∷ []) ≡ Named 0 ∷ Named 1 ∷ Named 4 ∷ Astray ∷ Named 5 ∷ []
names = refl

-- times in an hour: 12:34:56 and five seconds more are 12:35:01; 12:59:59 is the last second; 12:00:00 has none before it
abbrev at : ℕ → ℕ → Time
at minutes micros = record { year = None; days = 61; hours = 12; minutes = minutes; micros = micros }

pub later : later_in_hour 1000000 5 (at 34 56000000) ≡ Some (at 35 1000000)
later = refl

pub last : later_in_hour 1000000 1 (at 59 59000000) ≡ None
last = refl

pub earlier : earlier_in_hour 1000000 57 (at 34 56000000) ≡ Some (at 33 59000000)
earlier = refl

pub first : earlier_in_hour 1000000 1 (at 0 0) ≡ None
first = refl

-- in a second 60 of A, 12:59:60.1, three periods later is 12:59:60.4, ten later is out of it; two earlier is 12:59:59.9
pub later_in_60 : map (λ q. later_in_hour 100000 q (at 59 60100000)) (3 ∷ 10 ∷ []) ≡ Some (at 59 60400000) ∷ None ∷ []
later_in_60 = refl

pub earlier_in_60 : map (λ q. earlier_in_hour 100000 q (at 59 60100000)) (1 ∷ 2 ∷ []) ≡ Some (at 59 60000000) ∷ Some (at 59 59900000) ∷ []
earlier_in_60 = refl

-- a hole of ten intervals in which ten passed, by the clock above, which strays by two parts in a hundred thousand: in its middle, five
-- intervals from each end, it is a ten-thousandth of an interval earlier or later at most
pub hole : earliest (rate_of clock) 100000 (units_of 10) 50000 ∷ latest (rate_of clock) 100000 (units_of 10) 50000 ∷ []
    ≡ 4999898950000 ∷ 5000101050000 ∷ []
hole = refl

-- elements of B after a marker at 12:34:56 and before it: 205 after is element 5 of the second after next, 1 before is element 99 of 12:34:55
abbrev frame : Frame
frame = record { marker = 300; time = at 34 56000000 }

abbrev format : FormatView
format = record { kind = B; expression = 0 }

pub element : element_after format frame 205 ≡ Some (record { frame = at 34 58000000; element = 5 })
element = refl

pub element_back : element_before format frame 1 ≡ Some (record { frame = at 34 55000000; element = 99 })
element_back = refl

-- and none is known in the next hour
pub no_element : element_after format (record { marker = 300; time = at 59 59000000 }) 100 ≡ None
no_element = refl

-- over midnight, over the end of a year of 366 days that is known and of one that is not, and out of a second 60; back it is none
abbrev moment : Option ℕ → ℕ → ℕ → ℕ → ℕ → Time
moment year days hours minutes micros = record { year = year; days = days; hours = hours; minutes = minutes; micros = micros }

pub midnight : micros_after 20 (moment None 61 23 59 59000000) (moment None 62 0 0 1000000) ≡ 2000000
midnight = refl

pub leap_year : micros_after 20 (moment (Some 24) 366 23 59 59000000) (moment (Some 25) 1 0 0 0) ≡ 1000000
leap_year = refl

pub any_year : micros_after 20 (moment None 365 23 59 59000000) (moment None 1 0 0 0) ≡ 1000000
any_year = refl

pub second_60 : micros_after 20 (moment None 181 23 59 60000000) (moment None 182 0 0 0) ≡ 1000000
second_60 = refl

pub not_later : micros_after 20 (moment (Some 24) 61 12 0 0) (moment (Some 24) 61 11 59 0) ≡ 0
not_later = refl
