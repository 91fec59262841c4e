-- When a frame begins by the clock that other frames show. This project's own.
use Rattle.std.specs.Prelude.{◌*◌, ◌==◌, ◌&&◌, ◌||◌, Bool, nat_le}
use Rattle.irig_codes.specs.Format.{FormatView, frame_period_of, interval_of}
use Rattle.irig_safety.specs.Bearing.{apart, distance, is_shown, stray}
use Rattle.irig_safety.specs.Calendar.{is_later, periods}
use Rattle.irig_safety.specs.declared.shown.Shown.{Shown}

-- the frames agree, and so show by how much the clock is off: by a fortieth at most, or by 8 in 100
-- if the second is the next after the first
abbrev pub shows_clock : FormatView → Shown → Shown → Bool
shows_clock f p q =
    is_shown f p q
    && (nat_le (40 * stray f p q) (periods f p q * frame_period_of f.kind)
    || ((periods f p q == 1) && nat_le (25 * stray f p q) (2 * frame_period_of f.kind)))

-- by the clock of p and q, the frame y begins within half an interval of the time when it should
-- after x
abbrev pub is_in_time : FormatView → Shown → Shown → Shown → Shown → Bool
is_in_time f p q x y =
    is_later f x y
    && nat_le (2 * apart (distance x y * periods f p q) (periods f x y * distance p q))
    (periods f p q * interval_of f.kind)

-- so on the clock that p and q show
abbrev pub is_by_clock : FormatView → Shown → Shown → Shown → Shown → Bool
is_by_clock f p q x y = shows_clock f p q && is_in_time f p q x y

-- so on that of two frames, if the second is the next after the first, and y no more than two after
-- x
abbrev pub is_by_near_clock : FormatView → Shown → Shown → Shown → Shown → Bool
is_by_near_clock f p q x y =
    (periods f p q == 1) && nat_le (periods f x y) 2 && is_by_clock f p q x y

-- the frames agree, and show a clock that is off by 8 in 100 at most
abbrev pub shows_any_clock : FormatView → Shown → Shown → Bool
shows_any_clock f p q =
    is_shown f p q && nat_le (25 * stray f p q) (2 * (periods f p q * frame_period_of f.kind))
