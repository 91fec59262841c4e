-- The statuses of the program as a process, after diff(1) of POSIX. This project's own.
use Rattle.std.specs.Prelude.{ℕ, List, true, false, Option}
use Rattle.clap.specs.Words.{Text}
use Rattle.irig_diff.specs.declared.ending.Ending.TheVariants.{Usage, Unread, Compared}
use Rattle.irig_diff.specs.declared.ending.Ending.TheVariants.{Unprinted}
use Rattle.irig_diff.specs.{Ending.EndsBy, Help.help_text, Unread.Held}
use Rattle.irig_diff.specs.{declared.ending.Ending.Ending}
use Rattle.irig_files.specs.Tracks.{Unreadable}
use Rattle.irig_words.specs.Telling.{EndsWith, Explains, unprinted_status}

-- the status for how the program ended, and what is printed on the output of help: 0 if the tracks
-- are the same, 1 if they differ, 141 if nobody reads the output, else 2; help ends with 0, or with
-- 2 if it was not printed
abbrev pub Reports : Ending → Option (List ℕ) → Option (List ℕ) → ℕ → Type 0
Reports (Compared true) old new status = EndsWith 0 old new status
Reports (Compared false) old new status = EndsWith 1 old new status
Reports (Usage fault) old new status = Explains help_text 2 fault old new status
Reports (Unread path fault) old new status = EndsWith 2 old new status
Reports (Unprinted why) old new status = EndsWith (unprinted_status 2 why) old new status

-- the words were obeyed; of how that ended is the status of the process, and what came to the
-- output of help
pub record Serves (words : List Text) (held : Held) (unread : Unreadable)
    (old new help helped : Option (List ℕ)) (status : ℕ) : Type 0 where
  pub ending : Ending
  pub obeyed : EndsBy words held unread old new ending
  pub told : Reports ending help helped status
