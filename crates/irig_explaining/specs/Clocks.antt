-- The clock of a recording, by its rises and widths alone. This project's own.
use Rattle.std.specs.Prelude.{ℕ, ◌≡◌, ◌-◌, ◌*◌, ◌/◌, ◌==◌, Bool, List, [], ◌∷◌}
use Rattle.std.specs.Prelude.{length, map, max, min, nat_le, slice_index_or, if◌then◌else◌}
use Rattle.std.specs.{List.sum_by, Int.abs_diff}
use Rattle.irig_explaining.specs.declared.{clock.Clock.Clock, distance.Distance.Distance}
use Rattle.irig_explaining.specs.declared.{pulse.Pulse.Pulse, table.TheConstants.HALF}
use Rattle.irig_explaining.specs.declared.table.TheConstants.{PART}
use Rattle.irig_explaining.specs.{Folds.folded, Folds.places, Folds.single, Middles.AreMiddles}
use Rattle.irig_explaining.specs.{Middles.IsMiddle, Middles.around}

-- how far numbers are off others
abbrev pub offs : List ℕ → List ℕ → List ℕ
offs [] ms = []
offs (x ∷ xs) [] = []
offs (x ∷ xs) (m ∷ ms) = abs_diff x m ∷ offs xs ms

-- the mean of the distances that are hardly off a middle one: that alone is a whole number of
-- microseconds
abbrev pub is_hardly_off : ℕ → ℕ → Distance → Bool
is_hardly_off at spread d = nat_le (abs_diff (single d) at) (3 * spread)

abbrev pub fars : ℕ → ℕ → List Distance → ℕ
fars at spread ds = sum_by (λ d. if is_hardly_off at spread d then d.far else 0) ds

abbrev pub counts : ℕ → ℕ → List Distance → ℕ
counts at spread ds = sum_by (λ d. if is_hardly_off at spread d then d.count else 0) ds

abbrev pub mean : ℕ → ℕ → List Distance → ℕ
mean at spread ds =
    if counts at spread ds == 0 then at else fars at spread ds / counts at spread ds

-- the interval at a place among the distances
abbrev pub middle_at : ℕ → List ℕ → ℕ → ℕ
middle_at nominal ms place = slice_index_or ms (min place (length ms - 1)) nominal

abbrev pub interval_of : ℕ → ℕ → List Distance → List ℕ → ℕ → ℕ
interval_of nominal spread ds ms place =
    min (max (mean (middle_at nominal ms place) spread (around HALF ds place)) 1) (2 * nominal)

-- how far the width of a pulse is off that of a class
abbrev pub off_width : ℕ → Pulse → ℕ
off_width nominal p =
    min (min (abs_diff (PART * (p.fall - p.rise)) (2 * nominal / 10))
    (abs_diff (PART * (p.fall - p.rise)) (5 * nominal / 10)))
    (abs_diff (PART * (p.fall - p.rise)) (8 * nominal / 10))

-- one and a half times what distances usually are off their middle, and no less than can be
-- measured
pub record IsSpread (nominal : ℕ) (xs ms : List ℕ) (spread : ℕ) : Type 0 where
  pub usual : ℕ
  pub off : IsMiddle (offs xs ms) usual
  pub exact : spread ≡ max (max (3 * min usual nominal / 2) (nominal / 250)) PART

-- the same of widths
pub record IsWidthSpread (nominal : ℕ) (pulses : List Pulse) (spread : ℕ) : Type 0 where
  pub usual : ℕ
  pub off : IsMiddle (map (off_width nominal) pulses) usual
  pub exact : spread ≡ max (3 * min usual nominal / 2) (nominal / 64)

-- the clock of a recording
pub record IsClock (nominal : ℕ) (pulses : List Pulse) (clock : Clock) : Type 0 where
  pub middles : List ℕ
  pub running : AreMiddles HALF (map single (folded nominal pulses)) middles
  pub spread : IsSpread nominal (map single (folded nominal pulses)) middles clock.spread
  pub intervals : clock.intervals.items
      ≡ map (interval_of nominal clock.spread (folded nominal pulses) middles)
      (places nominal pulses)
  pub widths : IsWidthSpread nominal pulses clock.width_spread
