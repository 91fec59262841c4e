-- The statuses of the program as a process. This project's own.
use Rattle.std.specs.Prelude.{ℕ, List, Option, Result, Ok, Err, codes}
use Rattle.irig_words.specs.Telling.{EndsWith, Explains}
use Rattle.irig_files.specs.declared.dump_file.DumpFileFault.{DumpFileFault}
use Rattle.irig_files.specs.declared.dump_file.DumpFileFault.TheVariants.{CannotBeRead, TooLong}
use Rattle.irig_files.specs.declared.dump_file.DumpFileFault.TheVariants.{OutOfMemory}
use Rattle.irig_editor.specs.{Help.help_text, declared.ending.Ending.Ending}
use Rattle.irig_editor.specs.declared.ending.Ending.TheVariants.{Usage, Unread, Over, Unknown, Saved}
use Rattle.irig_editor.specs.declared.ending.Ending.TheVariants.{Ran}
use Rattle.irig_script.specs.declared.obey.status.Status.{Status}
use Rattle.irig_script.specs.declared.obey.status.Status.TheVariants.{AllAccepted, SomeRefused}
use Rattle.irig_script.specs.declared.obey.dump_run.DumpRunFault.{DumpRunFault}
use Rattle.irig_script.specs.declared.obey.dump_run.DumpRunFault.TheVariants.{Dump, Run}

-- the status of the program for how a run ended
abbrev pub status_number : Result Status DumpRunFault → ℕ
status_number (Ok AllAccepted) = 0
status_number (Ok SomeRefused) = 1
status_number (Err (Dump fault)) = 3
status_number (Err (Run fault)) = 4

-- what the program says of a track that it did not read
abbrev pub unread_text : DumpFileFault → List ℕ
unread_text CannotBeRead = codes "cannot be read"
unread_text TooLong = codes "too long"
unread_text OutOfMemory = codes "V14 OutOfMemory"

-- the status of the process for how the program ended, and what is printed on the output of help:
-- help ends with 0, or with 4 if it was not printed
abbrev pub Reports : Ending → Option (List ℕ) → Option (List ℕ) → ℕ → Type 0
Reports (Usage fault) old new status = Explains help_text 4 fault old new status
Reports (Unread path fault) old new status = EndsWith 3 old new status
Reports Over old new status = EndsWith 2 old new status
Reports Unknown old new status = EndsWith 4 old new status
Reports (Saved path) old new status = EndsWith 3 old new status
Reports (Ran path result) old new status = EndsWith (status_number result) old new status
