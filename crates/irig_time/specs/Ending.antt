-- What the program does for the words of its command line: from files and lines to what is printed
-- and written. This project's own.
use Rattle.std.specs.Prelude.{◌≡◌, ◌⊎◌, ℕ, List, Option, Some, None, Ok, Err}
use denote.Ref.{Bor}
use Rattle.clap.specs.Words.{Text}
use Rattle.irig_words.specs.declared.usage.UsageFault.{UsageFault}
use Rattle.irig_time.specs.declared.chosen.OptionFault.{OptionFault}
use Rattle.irig_time.specs.declared.ending.Ending.TheVariants.{Usage}
use Rattle.irig_time.specs.{Given.Files, Given.IsUntouched, Runs.Obeys, Settings.Reads}
use Rattle.irig_time.specs.{ToFile.WritesTo}
use Rattle.irig_time.specs.{declared.chosen.Chosen.Chosen, declared.ending.Ending.Ending}

-- on the standard output, or in a file
abbrev pub Goes : Option (Bor (List ℕ)) → Files → Chosen → Option (List ℕ) → Option (List ℕ)
    → Option (List ℕ) → Option (List ℕ) → Ending → Type 0
Goes None given chosen lines left from to ending =
    Obeys given.held given.unread chosen lines left from to ending × given.unwritten
Goes (Some path) given chosen lines left from to ending =
    WritesTo given chosen path lines left ending × (to ≡ from)

-- what the words ask for was done; or they ask for nothing, and nothing was done
abbrev pub EndsBy : List Text → Files → Option (List ℕ) → Option (List ℕ)
    → Option (List ℕ) → Option (List ℕ) → Ending → Type 0
EndsBy words given lines left from to ending =
    ((chosen : Chosen) × Reads words (Ok chosen)
    × Goes chosen.out given chosen lines left from to ending)
    ⊎ ((fault : UsageFault OptionFault) × (ending ≡ Usage fault) × Reads words (Err fault)
    × IsUntouched given lines left from to)
