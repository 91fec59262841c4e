-- The other recordings that the settings name. This project's own.
use Rattle.std.specs.Prelude.{◌≡◌, ◌⊎◌, ℕ, List, [], ◌∷◌, Option, Some, None, IfSome, IsOk, slice_get}
use Rattle.irig_codes.specs.Format.{FormatView}
use Rattle.irig_edit.specs.Opened.Openings.{IsUnopened, MayBeShort}
use Rattle.irig_files.specs.declared.dump_file.DumpFileFault.{DumpFileFault}
use Rattle.irig_files.specs.declared.dump_file.DumpFileFault.TheVariants as file
use Rattle.irig_files.specs.Tracks.{IsUnread}
use Rattle.irig_guard.specs.declared.chosen.Settings.{Settings}
use Rattle.irig_guard.specs.declared.other_fault.OtherFault.{OtherFault}
use Rattle.irig_guard.specs.declared.other_fault.OtherFault.TheVariants.{Dump, File}
use Rattle.irig_guard.specs.Settings.{paths}
use Rattle.irig_guarding.specs.Others.{Adds}
use Rattle.irig_safety.specs.Terms.{TermsView}
use Rattle.irig_vcd.specs.{Parts.dump_parts, declared.fault.VcdFault.VcdFault}
use Rattle.irig_vcd.specs.declared.fault.VcdFault.TheVariants.{OutOfMemory}

-- a path of another recording
abbrev pub IsOther : Settings → List ℕ → Type 0
IsOther chosen path = (place : ℕ) × (slice_get (paths chosen.others.items) place ≡ Some path)

-- after some frames those of a file come that say something of another recording
abbrev pub Shows : Option (List ℕ) → FormatView → TermsView → TermsView → Type 0
Shows held f old new = (source : List ℕ) × IfSome held (λ all. source ≡ all)
    × Adds None source f old new

-- so of the files at some paths, one after the other
abbrev pub ShowsAll : (List ℕ → Option (List ℕ)) → FormatView → List (List ℕ) → TermsView
    → TermsView → Type 0
ShowsAll held f [] old new = new ≡ old
ShowsAll held f (path ∷ rest) old new =
    (mid : TermsView) × Shows (held path) f old mid × ShowsAll held f rest mid new

-- a dump is not opened for this fault, and is out of memory only if its session may be
abbrev pub FailsToOpen : List ℕ → VcdFault → Type 0
FailsToOpen source fault = IsUnopened None source fault
    × (fault ≡ OutOfMemory → MayBeShort (dump_parts None source))

-- the bytes of a dump cannot be used: it is not opened, or it was read and memory ran out then
abbrev pub IsUnusableDump : List ℕ → OtherFault → Type 0
IsUnusableDump source (Dump fault) = FailsToOpen source fault
IsUnusableDump source (File fault) = (fault ≡ file.OutOfMemory) × IsOk (dump_parts None source)

-- a file cannot be used: it is not read, for the fault of the call that reads it, or its bytes are
-- not
abbrev pub IsUnusable : Option (List ℕ) → (DumpFileFault → Type 0) → OtherFault → Type 0
IsUnusable held unread (Dump fault) =
    (source : List ℕ) × IfSome held (λ all. source ≡ all) × IsUnusableDump source (Dump fault)
IsUnusable held unread (File fault) = IsUnread None held unread fault
    ⊎ ((source : List ℕ) × IfSome held (λ all. source ≡ all) × IsUnusableDump source (File fault))
