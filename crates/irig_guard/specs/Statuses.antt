-- The statuses of the program as a process. This project's own.
use Rattle.std.specs.Prelude.{ℕ, Bool, true, false, List, Option, Result, Ok, Err, codes}
use Rattle.irig_words.specs.Telling.{EndsWith, Explains}
use Rattle.irig_files.specs.declared.dump_file.DumpFileFault.{DumpFileFault}
use Rattle.irig_files.specs.declared.dump_file.DumpFileFault.TheVariants.{CannotBeRead, TooLong}
use Rattle.irig_files.specs.declared.dump_file.DumpFileFault.TheVariants.{OutOfMemory}
use Rattle.irig_guard.specs.{Help.help_text, declared.ending.Ending.Ending}
use Rattle.irig_guard.specs.declared.ending.Ending.TheVariants.{Usage, Unread, Over, Unknown}
use Rattle.irig_guard.specs.declared.ending.Ending.TheVariants.{OverOther, Ran, UnusableOther}
use Rattle.irig_script.specs.declared.obey.status.Status.{Status}
use Rattle.irig_script.specs.declared.obey.status.Status.TheVariants.{AllAccepted, SomeRefused}
use Rattle.irig_guarding.specs.{declared.product.GuardFault.GuardFault, declared.product.Kept.Kept}
use Rattle.irig_guarding.specs.declared.product.GuardFault.TheVariants.{Dump}

-- the status of a run that came to its end: 0 if all repairs were kept, and there was a frame to go
-- by
abbrev pub kept_number : Bool → Status → ℕ
kept_number true AllAccepted = 0
kept_number true SomeRefused = 1
kept_number false status = 1

-- the status of the program for how a run ended: 0 if each line was kept, 1 if not, 3 if
-- the track was not read, 4 if the run was broken off
abbrev pub status_number : Result Kept GuardFault → ℕ
status_number (Ok kept) = kept_number kept.judged kept.status
status_number (Err (Dump fault)) = 3
status_number (Err _) = 4

-- what the program says of a track that it did not read
abbrev pub unread_text : DumpFileFault → List ℕ
unread_text CannotBeRead = codes "cannot be read"
unread_text TooLong = codes "too long"
unread_text OutOfMemory = codes "V14 OutOfMemory"

-- the status of the process for how the program ended, and what is printed on the output of help:
-- help ends with 0, or with 4 if it was not printed
abbrev pub Reports : Ending → Option (List ℕ) → Option (List ℕ) → ℕ → Type 0
Reports (Usage fault) old new status = Explains help_text 4 fault old new status
Reports (Unread path fault) old new status = EndsWith 3 old new status
Reports Over old new status = EndsWith 2 old new status
Reports Unknown old new status = EndsWith 4 old new status
Reports (OverOther path) old new status = EndsWith 2 old new status
Reports (UnusableOther path why) old new status = EndsWith 3 old new status
Reports (Ran path result) old new status = EndsWith (status_number result) old new status
