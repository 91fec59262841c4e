-- What is done if all goes to a file. This project's own.
use Rattle.std.specs.Prelude.{◌≡◌, ◌⊎◌, ℕ, Bool, true, false, List, [], Option, Some, Result, Ok, Err}
use Rattle.std.specs.Prelude.{codes}
use denote.Ref.{Bor}
use Rattle.irig_files.specs.declared.written.Written.{Written}
use Rattle.irig_text.specs.declared.shelf.ShelfFault.{ShelfFault}
use Rattle.irig_stamps.specs.declared.fault.RunFault.{RunFault}
use Rattle.irig_stamps.specs.declared.fault.RunFault.TheVariants.{OutOfMemory, PrintFailed}
use Rattle.irig_time.specs.declared.ending.Ending.TheVariants.{Aligned, Broken, Doubted, Holed}
use Rattle.irig_time.specs.declared.ending.Ending.TheVariants.{Listed, OverLines, OverTrack, Timeless}
use Rattle.irig_time.specs.declared.ending.Ending.TheVariants.{Unknown, Unwritten}
use Rattle.irig_time.specs.{Given.Files, Runs.Obeys}
use Rattle.irig_time.specs.{declared.chosen.Chosen.Chosen, declared.ending.Ending.Ending}

-- the path that leads to the file from which the lines come
abbrev pub lines_path : List ℕ
lines_path = codes "/dev/stdin"

-- all came out
abbrev pub has_all : Ending → Bool
has_all (Aligned it) = true
has_all Listed = true
has_all (Holed it) = true
has_all (Timeless path it) = true
has_all (Doubted path count it) = true
has_all _ = false

-- in memory, what fails is memory
abbrev pub fault_in_memory : RunFault → RunFault
fault_in_memory (PrintFailed why) = OutOfMemory
fault_in_memory fault = fault

abbrev pub in_memory : Ending → Ending
in_memory (Broken fault) = Broken (fault_in_memory fault)
in_memory ending = ending

-- how the program ends if a text was written, or was not
abbrev pub after_put : Bor (List ℕ) → Ending → Result Written ShelfFault → Ending
after_put path ran (Ok written) = ran
after_put path ran (Err fault) = Unwritten path

-- what came out in a run was written, if all did, and else nothing
abbrev pub Finishes : Bool → Files → Bor (List ℕ) → List ℕ → Ending → Ending → Type 0
Finishes true given path text ran ending =
    (put : Result Written ShelfFault) × given.puts path.now text put
    × (ending ≡ after_put path ran put)
Finishes false given path text ran ending = given.unwritten × (ending ≡ in_memory ran)

-- a run to memory, and a write
pub record RanInMemory (given : Files) (chosen : Chosen) (path : Bor (List ℕ))
    (lines left : Option (List ℕ)) (ending : Ending) : Type 0 where
  pub track : given.apart chosen.track.now path.now
  pub input : given.apart lines_path path.now
  pub ran : Ending
  pub text : List ℕ
  pub obeyed : Obeys given.held given.unread chosen lines left (Some []) (Some text) ran
  pub finished : Finishes (has_all ran) given path text ran ending

-- that; or there is no memory, and nothing was done
abbrev pub EndsInMemory : Files → Chosen → Bor (List ℕ) → Option (List ℕ) → Option (List ℕ)
    → Ending → Type 0
EndsInMemory given chosen path lines left ending =
    RanInMemory given chosen path lines left ending
    ⊎ ((ending ≡ Broken OutOfMemory) × ((left ≡ lines) × given.unwritten))

-- the path leads to a file that is read, the track or that of the lines; or that is not known
abbrev pub IsRefused : Files → Chosen → Bor (List ℕ) → Ending → Type 0
IsRefused given chosen path ending =
    ((ending ≡ OverTrack) × given.same chosen.track.now path.now)
    ⊎ (((ending ≡ OverLines) × given.same lines_path path.now) ⊎ (ending ≡ Unknown))

-- what came out was written; or the path is refused, and nothing was done
abbrev pub WritesTo : Files → Chosen → Bor (List ℕ) → Option (List ℕ) → Option (List ℕ) → Ending
    → Type 0
WritesTo given chosen path lines left ending =
    EndsInMemory given chosen path lines left ending
    ⊎ ((left ≡ lines) × (given.unwritten × IsRefused given chosen path ending))
