-- When a time is on the line between two anchors. This project's own.
use Rattle.std.specs.Prelude.{◌+◌, ◌-◌, ◌*◌, ◌/◌, ℕ, Bool, nat_le}
use Rattle.irig_codes.specs.Format.{FormatView, interval_of}
use Rattle.irig_safety.specs.{Bearing.apart, declared.lines.Anchor.Anchor}

-- that many microseconds after the first anchor, to a tenth of an interval
abbrev pub is_straight : FormatView → Anchor → ℕ → Anchor → Bool
is_straight f a micros b =
    nat_le (apart (micros * (a.steps + b.steps)) (a.steps * (b.rise - a.rise)))
    ((a.steps + b.steps) * (interval_of f.kind / 10))
