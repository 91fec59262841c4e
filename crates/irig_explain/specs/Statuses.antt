-- The statuses of the program as a process. This project's own.
use Rattle.std.specs.Prelude.{◌≡◌, ℕ, Bool, true, false, List, Option}
use Rattle.clap.specs.Words.{Text}
use Rattle.irig_files.specs.Tracks.{Unreadable}
use Rattle.irig_words.specs.Telling.{EndsWith, Explains, Helps, unprinted_status}
use Rattle.irig_words.specs.Version.{asks_version}
use Rattle.irig_explain.specs.{Ending.EndsBy, Ending.Held}
use Rattle.irig_explain.specs.Help.{help_text, version_text}
use Rattle.irig_explain.specs.declared.ending.Ending.{Ending}
use Rattle.irig_explain.specs.declared.ending.Ending.TheVariants.{Usage, Unread, Listed}
use Rattle.irig_explain.specs.declared.ending.Ending.TheVariants.{OutOfMemory, Unprinted}

-- the status for how the program ended, and what is printed on the output of help: 0 if nothing
-- happened, 1 if something did, 2 for another command line, 3 if the track was not read, 141 if
-- nobody reads the output, 4 if it failed else or memory ran out; help ends with 0, or with 4 if it
-- was not printed
abbrev pub Reports : Ending → Option (List ℕ) → Option (List ℕ) → ℕ → Type 0
Reports (Listed true) old new status = EndsWith 0 old new status
Reports (Listed false) old new status = EndsWith 1 old new status
Reports (Usage fault) old new status = Explains help_text 4 fault old new status
Reports (Unread path fault) old new status = EndsWith 3 old new status
Reports OutOfMemory old new status = EndsWith 4 old new status
Reports (Unprinted why) old new status = EndsWith (unprinted_status 4 why) old new status

-- the words were obeyed; of how that ended is the status of the process, and what came to the
-- output of help
pub record Runs (words : List Text) (held : Held) (unread : Unreadable)
    (old new help helped : Option (List ℕ)) (status : ℕ) : Type 0 where
  pub ending : Ending
  pub obeyed : EndsBy words held unread old new ending
  pub told : Reports ending help helped status

-- the version was printed, and nothing was read; or the words were obeyed
abbrev pub ServesBy : Bool → List Text → Held → Unreadable → Option (List ℕ) → Option (List ℕ)
    → Option (List ℕ) → Option (List ℕ) → ℕ → Type 0
ServesBy true words held unread old new help helped status =
    (new ≡ old) × Helps version_text 4 help helped status
ServesBy false words held unread old new help helped status =
    Runs words held unread old new help helped status

abbrev pub Serves : List Text → Held → Unreadable → Option (List ℕ) → Option (List ℕ)
    → Option (List ℕ) → Option (List ℕ) → ℕ → Type 0
Serves words = ServesBy (asks_version words) words
