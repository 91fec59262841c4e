-- A run on a window of a dump. This project's own.
use Rattle.std.specs.Prelude.{◌≡◌, ℕ, List, Option, Some, None, Result, Ok, Err, IsOk}
use Rattle.irig_codes.specs.Format.{FormatView}
use Rattle.irig_edit.specs.Opened.Openings.{MayBeShort}
use Rattle.irig_guarding.specs.GuardedRun.{GuardsOnDump}
use Rattle.irig_guarding.specs.declared.product.GuardFault.{GuardFault}
use Rattle.irig_guarding.specs.declared.product.GuardFault.TheVariants.{Dump}
use Rattle.irig_guarding.specs.{declared.product.Kept.Kept, declared.product.Product.Product}
use Rattle.irig_recording.specs.{FileText.file_text, Recording.RecordingView}
use Rattle.irig_safety.specs.Terms.{TermsView}
use Rattle.irig_script.specs.Obey.Desk.{Desk}
use Rattle.irig_vcd.specs.{Parts.dump_parts, Window.parts_in, declared.fault.VcdFault.VcdFault}
use Rattle.irig_vcd.specs.declared.window.Window.{Window}

-- the journal that a session is opened with: in a window none
abbrev pub used_journal : Option Window → Option (List ℕ) → Option (List ℕ)
used_journal None journal = journal
used_journal (Some w) journal = None

-- The script ran under guard on the dump that is written of the recording that was read, without
-- its journal. Or the dump has a fault, and nothing was done.
abbrev pub GuardsOnRead : Result (RecordingView × Option (List ℕ)) VcdFault → FormatView → TermsView
    → Product → Option (List ℕ) → Option (List ℕ) → Desk → Desk → Result Kept GuardFault → Type 0
GuardsOnRead (Err fault) chosen terms asked script left from to result =
    (result ≡ Err (Dump fault)) × (to ≡ from) × (left ≡ script)
GuardsOnRead (Ok (recording, journal)) chosen terms asked script left from to result =
    GuardsOnDump None chosen terms (file_text recording) asked script left from to result

-- it ran on the whole dump, or so on what the dump says in a window
abbrev pub GuardsIn : Option Window → Option (List ℕ) → FormatView → TermsView → List ℕ → Product
    → Option (List ℕ) → Option (List ℕ) → Desk → Desk → Result Kept GuardFault → Type 0
GuardsIn None wire chosen terms source asked script left from to result =
    GuardsOnDump wire chosen terms source asked script left from to result
GuardsIn (Some w) wire chosen terms source asked script left from to result =
    GuardsOnRead (parts_in (Some w) wire source) chosen terms asked script left from to result

-- memory may run out for the session of a dump, or of a window of one that can be read
abbrev pub MayRunShort : Option Window → Option (List ℕ) → List ℕ → Type 0
MayRunShort None wire source = MayBeShort (dump_parts wire source)
MayRunShort (Some w) wire source = IsOk (parts_in (Some w) wire source)
