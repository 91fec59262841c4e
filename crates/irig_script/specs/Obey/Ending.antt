-- How a run ends, and what it leaves. This project's own.
use Rattle.std.specs.Prelude.{◌^◌, ℕ, List, Option, Result, Ok, Err, IfSome}
use Rattle.irig_script.specs.declared.obey.status.Status.TheVariants.{AllAccepted}
use Rattle.irig_script.specs.declared.obey.status.RunFault.TheVariants.{ReadFailed, TooManyReads}
use Rattle.irig_script.specs.declared.obey.status.RunFault.TheVariants.{PrintFailed}
use Rattle.irig_script.specs.{Obey.Machine.Machine, Obey.Desk.Desk, Obey.Run.Ran, Obey.Run.Broke}
use Rattle.irig_script.specs.{Obey.Run.Stopped, declared.obey.status.Status.Status}
use Rattle.irig_script.specs.{declared.obey.status.RunFault.RunFault}

-- the whole script was obeyed; or just the lines that were read, of at least 2^32 bytes if there
-- were too many reads; or the lines to one whose answer was not printed whole
abbrev pub EndsAs : Option (List ℕ) → Option (List ℕ) → Desk → Desk → Machine → Machine
    → Result Status RunFault → Type 0
EndsAs script left from to old new (Ok status) =
    IfSome script (Ran from to AllAccepted status old new)
EndsAs script left from to old new (Err ReadFailed) = Stopped from to script left old new 0
EndsAs script left from to old new (Err TooManyReads) =
    Stopped from to script left old new (2 ^ 32)
EndsAs script left from to old new (Err PrintFailed) = IfSome script (Broke from to old new)
