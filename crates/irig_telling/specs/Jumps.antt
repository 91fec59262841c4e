-- What it costs that the time goes on from one bit to the next, or jumps. This project's own.
use Rattle.std.specs.Prelude.{ℕ, ◌+◌, ◌-◌, ◌/◌, ◌==◌, ◌&&◌, Bool, min, not, if◌then◌else◌}
use Rattle.irig_codes.specs.Format.{FormatView}
use Rattle.irig_candidates.specs.{Far.far, Times.is_inserted, Times.time_of}
use Rattle.irig_candidates.specs.declared.bit.Bit.{Bit}
use Rattle.irig_explaining.specs.{Distances.gone, Missing.logarithm}
use Rattle.irig_explaining.specs.declared.prices.Prices.{Prices}
use Rattle.irig_telling.specs.declared.dating.TheConstants.{ELEMENTS, SET, SIXTY}

-- the time of a bit's frame, by the base of its stretch
abbrev pub time_at : FormatView → Bit → ℕ → ℕ
time_at f b base = time_of f.kind base b.frame

-- how many elements the recorder's clock says lie from the begin of the frame before that of a bit
-- to the begin of that of a bit of another stretch
abbrev pub lapse : Prices → Bit → Bit → ℕ
lapse p b a = ELEMENTS + b.element + gone p b.rise a.rise - a.element

-- how far a bit's time is from those that can follow the time of another: in a stretch its frames
-- are counted on, and between two the clock says how many there are, rounded down or up
unfoldable pub far_within : FormatView → Bit → Bit → ℕ → ℕ → ℕ
far_within f b a x y = far f.kind (time_at f b x) (a.frame - b.frame + 1) (time_at f a y)

abbrev pub far_over : FormatView → ℕ → ℕ → ℕ → ℕ
far_over f elements t u =
    min (far f.kind t (elements / ELEMENTS) u)
    (far f.kind t ((elements + (ELEMENTS - 1)) / ELEMENTS) u)

unfoldable pub far_between : FormatView → Prices → Bit → Bit → ℕ → ℕ → ℕ
far_between f p b a x y = far_over f (lapse p b a) (time_at f b x) (time_at f a y)

-- the time goes on, into a second 60 or not; or it jumps the farther the dearer
abbrev pub begins : FormatView → ℕ → ℕ → Bool
begins f x y = not (is_inserted f.kind x) && is_inserted f.kind y

abbrev pub leap : Bool → ℕ → ℕ
leap sixty by = if by == 0 then (if sixty then SIXTY else 0) else logarithm (1 + by)

-- in a stretch a jump is an event of its own
abbrev pub leap_within : Bool → ℕ → ℕ
leap_within sixty by = leap sixty by + (if by == 0 then 0 else SET)
