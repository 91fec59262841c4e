-- The distances of neighbouring rises that are of whole intervals. This project's own.
use Rattle.std.specs.Prelude.{ℕ, ◌+◌, ◌-◌, ◌*◌, ◌/◌, ◌^◌, ◌<◌, ◌≤◌, ◌++◌, ◌&&◌, Bool, List, [], ◌∷◌}
use Rattle.std.specs.Prelude.{Option, Some, None, length, nat_le, nat_lt, if◌then◌else◌}
use Rattle.std.specs.{Option.option_to_list, Int.abs_diff}
use Rattle.irig_explaining.specs.declared.{distance.Distance.Distance, pulse.Pulse.Pulse}
use Rattle.irig_explaining.specs.declared.table.TheConstants.{PART}

-- how many intervals a distance is, by the interval of the format
abbrev pub intervals_in : ℕ → ℕ → ℕ
intervals_in nominal far = (2 * far + nominal) / (2 * nominal)

-- a distance is of one to three intervals, give or take an eighth
abbrev pub is_near : ℕ → ℕ → ℕ → Bool
is_near nominal far n =
    nat_lt 0 n && (nat_lt n 4 && nat_le (8 * abs_diff far (n * nominal)) (n * nominal))

abbrev pub whole : ℕ → ℕ → Option Distance
whole nominal far =
    if is_near nominal far (intervals_in nominal far)
    then Some (record { far = far; count = intervals_in nominal far }) else None

-- those of neighbouring rises, after one at a moment
abbrev pub whole_after : ℕ → ℕ → Pulse → List Distance
whole_after nominal before p = option_to_list (whole nominal (PART * (p.rise - before)))

abbrev pub folded_after : ℕ → ℕ → List Pulse → List Distance
folded_after nominal before [] = []
folded_after nominal before (p ∷ ps) =
    whole_after nominal before p ++ folded_after nominal p.rise ps

abbrev pub first_rise : List Pulse → ℕ
first_rise [] = 0
first_rise (p ∷ ps) = p.rise

abbrev pub folded : ℕ → List Pulse → List Distance
folded nominal ps = folded_after nominal (first_rise ps) ps

-- for each rise how many of these distances come before it
abbrev pub places_after : ℕ → ℕ → ℕ → List Pulse → List ℕ
places_after nominal place before [] = []
places_after nominal place before (p ∷ ps) =
    (place + length (whole_after nominal before p))
    ∷ places_after nominal (place + length (whole_after nominal before p)) p.rise ps

abbrev pub places : ℕ → List Pulse → List ℕ
places nominal ps = places_after nominal 0 (first_rise ps) ps

-- the interval that a distance gives
abbrev pub single : Distance → ℕ
single d = d.far / d.count

-- a distance in a recording of at most 12 days, of some intervals
pub record IsFar (d : Distance) : Type 0 where
  pub far : d.far ≤ 2 ^ 48
  pub some : 0 < d.count
  pub few : d.count < 4
