-- What a dump says of a wire, and the journal that it carries. This project's own.
use Rattle.std.specs.Prelude.{ℕ, List, [], ◌∷◌, Option, Some, None, Result, Ok, Err}
use Rattle.irig_vcd.specs.Answer.{◌>>=◌, name_of, pair_of}
use Rattle.irig_vcd.specs.declared.fault.VcdFault.TheVariants.{BadJournal}
use Rattle.irig_vcd.specs.{Dump.dump, Dump.journals_of, declared.fault.VcdFault.VcdFault}
use Rattle.irig_recording.specs.Recording.{RecordingView}
use denote.Ref.{Bor}

-- the one journal, if there is one; a second one is a fault
abbrev pub one_journal : List (List ℕ) → Result (Option (List ℕ)) VcdFault
one_journal [] = Ok None
one_journal (j ∷ []) = Ok (Some j)
one_journal (j ∷ k ∷ more) = Err (BadJournal 1)

-- the recording of a dump and the text of its journal, or the first fault; a second journal is the
-- last fault of all
unfoldable pub dump_parts : Option (List ℕ) → List ℕ
    → Result (RecordingView × Option (List ℕ)) VcdFault
dump_parts wire bytes = do
  recording ← dump wire bytes
  journal ← one_journal (journals_of wire bytes)
  pair_of recording journal

-- a recording, and the text of a journal without where it lies in memory
abbrev pub parts_view : RecordingView × Option (Bor (List ℕ)) → RecordingView × Option (List ℕ)
parts_view x = (x.0, name_of x.1)
