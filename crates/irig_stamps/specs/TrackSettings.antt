-- The settings with what a track adds to them. This project's own.
use Rattle.std.specs.Prelude.{ℕ, Bool, List, Option, unwrap_or}
use Rattle.irig_codes.specs.Format.{FormatView}
use Rattle.irig_index.specs.Frames.{frames}
use Rattle.irig_recording.specs.declared.pulse.Pulse.{Pulse}
use Rattle.irig_stamps.specs.{Dates.first_day, declared.settings.Settings.Settings}
use Rattle.irig_timed.specs.Held.{held}

-- of each record of a track, whether its frame is believed
abbrev pub held_of : FormatView → List Pulse → Settings → List Bool
held_of f ps s = held f s.alone s.century ps

-- the day of the first frame that is
abbrev pub day_of : FormatView → List Pulse → Settings → Option ℕ
day_of f ps s = first_day f (held_of f ps s) 0 (frames f ps)

-- the settings with that day; 0 if none is
abbrev pub with_first_day : FormatView → List Pulse → Settings → Settings
with_first_day f ps s = record s { first_day = unwrap_or (day_of f ps s) 0 }

-- the same with the length of the track in microseconds
abbrev pub with_track : FormatView → ℕ → List Pulse → Settings → Settings
with_track f micros ps s = record (with_first_day f ps s) { micros = micros }
