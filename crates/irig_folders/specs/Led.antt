-- What the newest call makes of a name. This project's own.
use Rattle.std.specs.Prelude.{ℕ, List, Bool, false}
use Rattle.std.specs.Str.{bytes_eq}
use Rattle.irig_folders.specs.declared.call.Call.{Call}
use Rattle.irig_folders.specs.declared.call.Call.TheVariants.{Make, Append, TakeMode, SyncFile, Rename}
use Rattle.irig_folders.specs.declared.call.Call.TheVariants.{Remove, SyncNames}

-- whether it makes a file of the name
abbrev pub makes : Call → List ℕ → Bool
makes (Make made mode) name = bytes_eq made.items name
makes (Append file bytes) name = false
makes (TakeMode file mode) name = false
makes (SyncFile file) name = false
makes (Rename «from» to) name = false
makes (Remove gone) name = false
makes (SyncNames front) name = false
