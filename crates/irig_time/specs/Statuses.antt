-- The statuses of the program as a process. This project's own.
use Rattle.std.specs.Prelude.{ℕ, Bool, true, false, List, Option}
use Rattle.clap.specs.Words.{Text}
use Rattle.irig_words.specs.Telling.{EndsWith, Explains, Helps, unprinted_status}
use Rattle.irig_time.specs.declared.ending.Ending.TheVariants.{Usage, Unread, Aligned}
use Rattle.irig_time.specs.declared.ending.Ending.TheVariants.{Listed, Holed, Timeless, Doubted, Broken}
use Rattle.irig_time.specs.declared.ending.Ending.TheVariants.{OverLines, OverTrack, Unknown}
use Rattle.irig_time.specs.declared.ending.Ending.TheVariants.{Unwritten}
use Rattle.irig_stamps.specs.declared.fault.RunFault.{RunFault}
use Rattle.irig_stamps.specs.declared.fault.RunFault.TheVariants.{PrintFailed}
use Rattle.irig_time.specs.{Done.holes_status, Done.lines_status, Ending.EndsBy, Given.Files}
use Rattle.irig_time.specs.{Given.IsUntouched}
use Rattle.irig_words.specs.Version.{asks_version}
use Rattle.irig_time.specs.Help.{help_text, version_text}
use Rattle.irig_time.specs.{declared.ending.Ending.Ending}

-- the status of a run that was broken off: 141 if nobody reads the output any more
abbrev pub broken_status : RunFault → ℕ
broken_status (PrintFailed why) = unprinted_status 4 why
broken_status _ = 4

-- the status for how the program ended, and what is printed on the output of help: that of
-- `lines_status` if all lines were printed and nothing is wrong with the track, 0 if the table was,
-- that of `holes_status` if the stretches without a time were, 1 if no frame has a time or some
-- frames are not believed, 2 for another command line, 3 if the track was not read, that of
-- `broken_status` if the run was broken off; help ends with 0, or with 4 if it was not printed
abbrev pub Reports : Ending → Option (List ℕ) → Option (List ℕ) → ℕ → Type 0
Reports (Aligned it) old new status = EndsWith (lines_status it.tally) old new status
Reports Listed old new status = EndsWith 0 old new status
Reports (Holed it) old new status = EndsWith (holes_status it.holes.standing) old new status
Reports (Timeless path it) old new status = EndsWith 1 old new status
Reports (Doubted path count it) old new status = EndsWith 1 old new status
Reports (Usage fault) old new status = Explains help_text 4 fault old new status
Reports (Unread path fault) old new status = EndsWith 3 old new status
Reports (Broken fault) old new status = EndsWith (broken_status fault) old new status
Reports OverTrack old new status = EndsWith 2 old new status
Reports OverLines old new status = EndsWith 2 old new status
Reports Unknown old new status = EndsWith 4 old new status
Reports (Unwritten path) old new status = EndsWith 4 old new status

-- what the words ask for was done; of how that ended is the status of the process, and what came to
-- the output of help
pub record Runs (words : List Text) (given : Files)
    (lines left from to help helped : Option (List ℕ)) (status : ℕ) : Type 0 where
  pub ending : Ending
  pub obeyed : EndsBy words given lines left from to ending
  pub told : Reports ending help helped status

-- the version was printed, and nothing was read; or what else the words ask for was done
abbrev pub ServesBy : Bool → List Text → Files → Option (List ℕ) → Option (List ℕ)
    → Option (List ℕ) → Option (List ℕ) → Option (List ℕ) → Option (List ℕ) → ℕ → Type 0
ServesBy true words given lines left from to help helped status =
    IsUntouched given lines left from to × Helps version_text 4 help helped status
ServesBy false words given lines left from to help helped status =
    Runs words given lines left from to help helped status

abbrev pub Serves : List Text → Files → Option (List ℕ) → Option (List ℕ)
    → Option (List ℕ) → Option (List ℕ) → Option (List ℕ) → Option (List ℕ) → ℕ → Type 0
Serves words = ServesBy (asks_version words) words
