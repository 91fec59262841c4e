-- The frames of other recordings of the same code, from the bytes of their dumps on. This project's
-- own.
use Rattle.std.specs.Prelude.{◌≡◌, ℕ, List, Option}
use Rattle.irig_codes.specs.Format.{FormatView}
use Rattle.irig_edit.specs.Opened.Openings.{IsOpened, IsUnopened}
use Rattle.irig_script.specs.Obey.Machine.{Machine}
use Rattle.irig_safety.specs.{Others.backed, Terms.TermsView, Terms.with_more}
use Rattle.irig_guarding.specs.Reading.{even_frames, fine_frames}
use Rattle.irig_guarding.specs.declared.product.GuardFault.{GuardFault}
use Rattle.irig_guarding.specs.declared.product.GuardFault.TheVariants.{Dump, OutOfMemory}

-- after some frames those of a dump come that say something of another recording; and of its even
-- frames those that do
abbrev pub Adds : Option (List ℕ) → List ℕ → FormatView → TermsView → TermsView → Type 0
Adds wire source f old new = (first : Machine) × IsOpened wire source f first
    × (new ≡ with_more (backed f (fine_frames first.state))
    (backed f (even_frames first.state)) old)

-- the dump was not opened, or memory ran out
abbrev pub IsUnadded : Option (List ℕ) → List ℕ → GuardFault → Type 0
IsUnadded wire source (Dump fault) = IsUnopened wire source fault
IsUnadded wire source OutOfMemory = Unit {0}
IsUnadded wire source _ = ⊥
