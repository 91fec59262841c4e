-- When the frames next to a frame bear out its time. This project's own.
use Rattle.std.specs.Prelude.{◌+◌, ◌-◌, ◌*◌, ◌&&◌, ◌||◌, ℕ, Bool, not}
use Rattle.std.specs.Prelude.{nat_lt, nat_le}
use Rattle.irig_codes.specs.Format.{FormatView, frame_period_of, interval_of}
use Rattle.irig_safety.specs.declared.shown.Shown.{Shown}
use Rattle.irig_safety.specs.Calendar.{periods, is_later}

-- how many microseconds after the first frame the second begins
abbrev pub distance : Shown → Shown → ℕ
distance a b = b.rise - a.rise

-- how far two numbers are apart
abbrev pub apart : ℕ → ℕ → ℕ
apart m n = (m - n) + (n - m)

-- by how many microseconds the distance differs from that of the times
abbrev pub stray : FormatView → Shown → Shown → ℕ
stray f a b = apart (distance a b) (periods f a b * frame_period_of f.kind)

-- by how many two-thousandths of a microsecond it may differ: half an interval, and a thousandth of
-- the distance
abbrev pub slack : FormatView → Shown → Shown → ℕ
slack f a b = 1000 * interval_of f.kind + 2 * distance a b

-- the distance does not say how many frame periods it is: it may be off by half of one
abbrev pub is_far : FormatView → Shown → Shown → Bool
is_far f a b = nat_le (1000 * frame_period_of f.kind) (slack f a b)

-- the distance shows as many frame periods as the times
abbrev pub is_shown : FormatView → Shown → Shown → Bool
is_shown f a b = is_later f a b && nat_lt (2 * stray f a b) (frame_period_of f.kind)

-- the time of the first frame leads to that of the second, which begins when that time is
abbrev pub leads : FormatView → Shown → Shown → Bool
leads f a b = is_later f a b && not (is_far f a b) && nat_le (2000 * stray f a b) (slack f a b)

-- the frames do not contradict each other: they are too far from each other, or the times are as
-- many periods apart as the distance shows
abbrev pub allows : FormatView → Shown → Shown → Bool
allows f a b = is_far f a b || is_shown f a b

-- the frames are near enough for their distance to say how many frame periods it is, and their
-- times are as many apart
abbrev pub agrees : FormatView → Shown → Shown → Bool
agrees f a b = not (is_far f a b) && is_shown f a b

-- two frames stray by no more than half an interval more than two others do from each other, or
-- those do not agree
abbrev pub is_within : FormatView → Shown → Shown → Shown → Shown → Bool
is_within f p q x y =
    not (is_shown f p q) || nat_le (2 * stray f x y) (interval_of f.kind + 2 * stray f p q)
