-- How much of a dump is kept. This project's own.
use Rattle.std.specs.Prelude.{ℕ, true, false, Option, if◌then◌else◌}
use Rattle.irig_vcd.specs.{declared.extent.Extent.Extent, declared.window.Window.Window}

-- a window of a dump, or all of it, with at most 2^22 pulses
abbrev pub short : Option Window → Extent
short window = record { window = window; is_long = false }

-- the same with at most 2^26 pulses
abbrev pub long : Option Window → Extent
long window = record { window = window; is_long = true }

-- the most pulses that are kept
abbrev pub most_pulses : Extent → ℕ
most_pulses extent = if extent.is_long then 67108864 else 4194304
