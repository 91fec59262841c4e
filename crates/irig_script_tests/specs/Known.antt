-- What a run is given, and what is known of its ends and of what its witness saw. This project's
-- own.
use Rattle.std.specs.Prelude.{ℕ, List, Option, Some, codes}
use Rattle.irig_codes.specs.Format.{FormatView}
use Rattle.irig_script.specs.Print.Screen.{Shown, Sight}
use Rattle.irig_files.specs.{Puts.texts_at, Writes.writes_in}
use Rattle.irig_folders.specs.{LogDisk.own_place, LogDisk.steps_in, declared.call.Call.Call}

-- a dump, a format and a script
pub record Given : Type 0 where
  pub dump : List ℕ
  pub format : FormatView
  pub script : List ℕ

-- these
abbrev pub given : List ℕ → FormatView → List ℕ → Given
given dump format script = record { dump = dump; format = format; script = script }

-- what is known of an output, of the texts written, and of what a witness saw of both
pub record Known : Type 0 where
  pub out : Option (List ℕ)
  pub texts : Option (List (List ℕ))
  pub seen : Option (List Sight)

-- of a screen and these texts
abbrev pub known : Shown → Option (List (List ℕ)) → Known
known screen texts = record { out = screen.out; texts = texts; seen = screen.seen }

-- all of it
abbrev pub all_known : List ℕ → List (List ℕ) → List Sight → Known
all_known out texts sights = record { out = Some out; texts = Some texts; seen = Some sights }

-- the texts written to the name `t` of a folder in memory, of which each was kept, if it did these
-- calls
abbrev pub texts_in : List Call → Option (List (List ℕ))
texts_in calls = texts_at (own_place (codes "t")) (Some (writes_in (steps_in calls)))
