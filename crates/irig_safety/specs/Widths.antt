-- When the pulse of an element is not as wide as the others of its class in its frame. This
-- project's own.
use Rattle.std.specs.Prelude.{◌+◌, ◌*◌, ◌-◌, ◌/◌, ◌==◌, ◌&&◌, ◌||◌, ℕ, zero, suc, Bool, true}
use Rattle.std.specs.Prelude.{false, not, nat_lt, nat_le, List, Option, Some, None}
use Rattle.std.specs.Prelude.{if◌then◌else◌, slice_get}
use Rattle.irig_codes.specs.Format.{FormatView, interval_of}
use Rattle.irig_codes.specs.Width.{class_of}
use Rattle.irig_codes.specs.declared.width.Element.{Element}
use Rattle.irig_codes.specs.declared.width.Element.TheVariants.{Zero, One, Position}
use Rattle.irig_recording.specs.declared.pulse.Pulse.{Pulse}
use Rattle.irig_safety.specs.declared.widths.Spread.{Spread}

-- how wide a pulse is; 0 if there is none
abbrev pub width_or : Option Pulse → ℕ
width_or None = 0
width_or (Some p) = p.fall - p.rise

-- how wide the pulse of an element is, from 0, of the frame whose marker is at this place of the
-- pulses
abbrev pub width_in : List Pulse → ℕ → ℕ → ℕ
width_in pulses marker e = width_or (slice_get pulses (marker + e))

-- two pulses have a class, and the same
abbrev pub is_same_class : Option Element → Option Element → Bool
is_same_class (Some Zero) (Some Zero) = true
is_same_class (Some One) (Some One) = true
is_same_class (Some Position) (Some Position) = true
is_same_class a b = false

-- the pulse of element j is another one than that of element e, and has its class
abbrev pub is_other_of_class : FormatView → List Pulse → ℕ → ℕ → ℕ → Bool
is_other_of_class f pulses marker e j =
    not (j == e)
    && is_same_class (class_of f (width_in pulses marker j)) (class_of f (width_in pulses marker e))

-- the range of some widths with one more
abbrev pub with_width : ℕ → Spread → Spread
with_width w s = record {
  many = s.many + 1;
  least = if (s.many == 0) || nat_lt w s.least then w else s.least;
  most = if nat_lt s.most w then w else s.most;
}

-- of the first n elements those that have the class of element e, without it: how many they are,
-- and the least and the greatest of their widths
abbrev pub spread_of : FormatView → List Pulse → ℕ → ℕ → ℕ → Spread
spread_of f pulses marker e zero = record { many = 0; least = 0; most = 0 }
spread_of f pulses marker e (suc n) =
    if is_other_of_class f pulses marker e n
    then with_width (width_in pulses marker n) (spread_of f pulses marker e n)
    else spread_of f pulses marker e n

-- how far a width may be outside the range of others: a hundredth of the interval, and twice what
-- these differ by
abbrev pub margin_of : ℕ → Spread → ℕ
margin_of interval s = interval / 100 + 2 * (s.most - s.least)

-- there are at least five others, and the width is farther outside their range
abbrev pub is_outside : ℕ → Spread → ℕ → Bool
is_outside interval s w =
    nat_le 5 s.many
    && (nat_lt (w + margin_of interval s) s.least || nat_lt (s.most + margin_of interval s) w)

-- the pulse of an element is odd: so far outside the range of the others of its frame
abbrev pub is_odd : FormatView → List Pulse → ℕ → ℕ → Bool
is_odd f pulses marker e =
    is_outside (interval_of f.kind) (spread_of f pulses marker e 100) (width_in pulses marker e)
