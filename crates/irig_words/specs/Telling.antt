-- What a program prints as help, and the statuses with which it ends then. This project's own.
use Rattle.std.specs.Prelude.{◌≡◌, ◌⊎◌, ℕ, List, Option}
use Rattle.std.specs.Io.KnownBytes.{Appends}
use Rattle.irig_print.specs.Front.{AppendsFront}
use Rattle.irig_print.specs.declared.output.PrintFault.{PrintFault}
use Rattle.irig_print.specs.declared.output.PrintFault.TheVariants.{Closed, Other}
use Rattle.irig_words.specs.Errors.{IsHelp, IsMistake}
use Rattle.irig_words.specs.declared.usage.UsageFault.{UsageFault}
use Rattle.irig_words.specs.declared.usage.UsageFault.TheVariants.{Words, Value}

-- the process ends with this status, and no help is printed
abbrev pub EndsWith : ℕ → Option (List ℕ) → Option (List ℕ) → ℕ → Type 0
EndsWith wanted old new status = (new ≡ old) × (status ≡ wanted)

-- the status after an output that failed: 141 if nobody reads it any more
abbrev pub unprinted_status : ℕ → PrintFault → ℕ
unprinted_status failed Closed = 141
unprinted_status failed Other = failed

-- it ends with 0, and the help is printed; or with the status of an output that fails, and a front
-- of the help is
abbrev pub Helps : List ℕ → ℕ → Option (List ℕ) → Option (List ℕ) → ℕ → Type 0
Helps text failed old new status = ((status ≡ 0) × Appends old new text)
    ⊎ ((status ≡ failed) × AppendsFront old new text)

-- so it ends if its command line asks for nothing: a mistake and a wrong value end with 2, and only
-- a call for help prints it
abbrev pub Explains : {F : Type 0} → List ℕ → ℕ → UsageFault F → Option (List ℕ)
    → Option (List ℕ) → ℕ → Type 0
Explains text failed (Words error) old new status =
    (IsMistake error → EndsWith 2 old new status)
    × (IsHelp error → Helps text failed old new status)
Explains text failed (Value fault) old new status = EndsWith 2 old new status
