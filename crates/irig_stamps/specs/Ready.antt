-- What a run over lines begins with. This project's own.
use Rattle.std.specs.Prelude.{◌<◌, ◌≤◌, ◌^◌, IfSome, List}
use Rattle.irig_codes.specs.Format.{FormatView}
use Rattle.irig_recording.specs.declared.pulse.Pulse.{Pulse}
use Rattle.irig_timed.specs.declared.known.Known.{Known}
use Rattle.irig_stamps.specs.{Reasons.IsKnownOf, declared.settings.Settings.Settings}

-- the settings are within their limits
abbrev pub IsWithin : Settings → Type 0
IsWithin s = (s.century ≤ 99) × ((s.offset ≤ 2 ^ 119)
    × (IfSome s.year (λ y. y ≤ 9998) × (s.header < 2 ^ 64)))

-- and it is known what a track's times are
abbrev pub IsReady : FormatView → Settings → List Pulse → Known → Type 0
IsReady f s ps known = IsKnownOf f s ps known × IsWithin s
