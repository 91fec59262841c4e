-- How little the wire after a rise looks like an element. This project's own.
use Rattle.std.specs.Prelude.{ℕ, ◌+◌, ◌-◌, ◌*◌, ◌/◌, ◌^◌, ◌<◌, ◌≤◌, List, [], ◌∷◌, min, nat_lt}
use Rattle.std.specs.Prelude.{if◌then◌else◌}
use Rattle.std.specs.List.{sum_by, take_while}
use Rattle.std.specs.Int.{abs_diff}
use Rattle.irig_explaining.specs.declared.{pulse.Pulse.Pulse, role.Role.Role}
use Rattle.irig_explaining.specs.declared.role.Role.TheVariants.{Unused, Bit, Position}
use Rattle.irig_explaining.specs.declared.stretch.Stretch.{Stretch}
use Rattle.irig_explaining.specs.declared.table.TheConstants.{PART, EXTRA, MORE, TURNED, NOTHING}
use Rattle.irig_explaining.specs.declared.table.TheConstants.{NO_FALL}
use Rattle.irig_explaining.specs.declared.table.TheConstants.{WIDTH, WIDTH_MORE, WIDTH_MOST, ONE}

-- the pulses of an element: the first one, and those that rise before its end
abbrev pub inside : ℕ → List Pulse → List Pulse
inside end ps = take_while (λ p. nat_lt p.rise end) ps

-- how long the wire is high up to the end
abbrev pub high : ℕ → List Pulse → ℕ
high end ps = sum_by (λ p. min p.fall end - p.rise) ps

-- what pulses too many in an element cost
abbrev pub extra : ℕ → ℕ
extra count = if nat_lt 1 count then EXTRA + MORE * (count - 2) else 0

-- what a width costs that is off by that much from the one of the class
abbrev pub width : Stretch → ℕ → ℕ
width s off =
    if nat_lt s.interval off then WIDTH_MOST
    else min (min (8 * off * off / (s.width_spread * s.width_spread))
    (WIDTH + WIDTH_MORE * off / s.interval)) WIDTH_MOST

-- what it costs that one pulse of some tenths was sent that ends at a fall: what the wire is at
-- the other level before the fall (low) and after it, and the width
abbrev pub one_pulse : Stretch → ℕ → ℕ → ℕ → ℕ → ℕ
one_pulse s tenths low seen fall =
    s.extra + TURNED * PART * (low + s.high - seen) / s.interval
    + width s (abs_diff (PART * (fall - s.begin)) (tenths * s.interval / 10))

-- the cheapest of the falls up to the end; the wire was low for some time before these pulses, and
-- high, and last fell at a moment
abbrev pub cheapest_fall : Stretch → ℕ → ℕ → ℕ → ℕ → List Pulse → ℕ
cheapest_fall s tenths low seen last [] = NOTHING
cheapest_fall s tenths low seen last (p ∷ ps) =
    if nat_lt s.end p.fall then NOTHING
    else min (one_pulse s tenths (low + (p.rise - last)) (seen + (p.fall - p.rise)) p.fall)
    (cheapest_fall s tenths (low + (p.rise - last)) (seen + (p.fall - p.rise)) p.fall ps)

-- what an element costs as a pulse of some tenths; from twelve pulses on it looks like nothing
abbrev pub look : Stretch → ℕ → List Pulse → ℕ
look s tenths [] = NO_FALL
look s tenths (p ∷ ps) =
    if nat_lt s.end p.fall then NO_FALL
    else cheapest_fall s tenths 0 0 p.rise (p ∷ ps)

-- and as an element of a role
abbrev pub role_look : Stretch → Role → List Pulse → ℕ
role_look s Unused ps = look s 2 ps
role_look s Bit ps = min (look s 2 ps) (look s 5 ps + ONE)
role_look s Position ps = look s 8 ps

-- a pulse of a recording of at most 12 days
pub record IsTimely (p : Pulse) : Type 0 where
  pub rise : p.rise ≤ 2 ^ 40
  pub fall : p.fall ≤ 2 ^ 40

-- what the looks of an element share is in bounds
pub record Fits (s : Stretch) : Type 0 where
  pub begin : s.begin ≤ 2 ^ 40
  pub end : s.end ≤ 2 ^ 41
  pub some : 0 < s.interval
  pub short : s.interval < 2 ^ 28
  pub spread : 0 < s.width_spread
  pub narrow : s.width_spread < 2 ^ 32
  pub extra : s.extra ≤ 2 ^ 10
  pub high : s.high ≤ 2 ^ 46
