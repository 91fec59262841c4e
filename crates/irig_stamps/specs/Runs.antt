-- A run over a text of lines: what it reads and what it prints. This project's own.
use Rattle.std.specs.Prelude.{◌≡◌, ◌≢◌, ◌⊎◌, ◌≤◌, ◌==◌, ◌^◌, ℕ}
use Rattle.std.specs.Prelude.{if◌then◌else◌, List, [], ◌∷◌, ◌++◌, length, Option, Result, Ok}
use Rattle.std.specs.Prelude.{Err}
use Rattle.std.specs.Io.KnownBytes.{Appends, Consumes, IsAtEnd}
use Rattle.irig_codes.specs.Format.{FormatView}
use Rattle.irig_recording.specs.declared.pulse.Pulse.{Pulse}
use Rattle.irig_track.specs.Looks.{counted}
use Rattle.irig_stamps.specs.declared.fault.RunFault.TheVariants.{ReadFailed, TooManyReads}
use Rattle.irig_stamps.specs.declared.fault.RunFault.TheVariants.{PrintFailed, TooLong, OutOfMemory}
use Rattle.irig_stamps.specs.{declared.fault.RunFault.RunFault, declared.settings.Settings.Settings}
use Rattle.irig_stamps.specs.{Stamped.Stamped, declared.tally.Tally.Tally}

-- the newline that the last line of some bytes lacks
abbrev pub ending_of : List ℕ → List ℕ
ending_of [] = []
ending_of (b ∷ []) = if b == 10 then [] else 10 ∷ []
ending_of (b ∷ c ∷ bs) = ending_of (c ∷ bs)

-- all bytes were read, and what comes out for their lines was printed
pub record Ran (f : FormatView) (ps : List Pulse) (s : Settings)
    (lines left from to : Option (List ℕ)) (tally : Tally) : Type 0 where
  pub bytes : List ℕ
  pub text : List ℕ
  pub count : ℕ
  pub read : Consumes lines left bytes
  pub end : IsAtEnd left
  pub stamped : Stamped f ps s (bytes ++ ending_of bytes) text [] count tally
  pub printed : Appends from to text

-- why a run was broken off: what was read and not stamped, what was stamped and not printed, the
-- front of the line that was begun, and how many lines are before it
abbrev pub IsCause : RunFault → List ℕ → List ℕ → List ℕ → ℕ → Type 0
IsCause ReadFailed more back rest count = (more ≡ []) × (back ≡ [])
IsCause TooManyReads more back rest count = (more ≡ []) × (back ≡ [])
IsCause (PrintFailed why) more back rest count = back ≢ []
IsCause OutOfMemory more back rest count = back ≡ []
IsCause (TooLong number) more back rest count =
    (byte : ℕ) × (others : List ℕ) × (more ≡ byte ∷ others) × (byte ≢ 10) × (2 ^ 20 ≤ length rest)
    × (number ≡ counted count 1) × (back ≡ [])
IsCause _ more back rest count = ⊥

-- a front of what comes out for the lines that were read was printed
pub record Broke (f : FormatView) (ps : List Pulse) (s : Settings)
    (lines left from to : Option (List ℕ)) (fault : RunFault) : Type 0 where
  pub bytes : List ℕ
  pub ending : List ℕ
  pub more : List ℕ
  pub rest : List ℕ
  pub text : List ℕ
  pub front : List ℕ
  pub back : List ℕ
  pub count : ℕ
  pub tally : Tally
  pub read : Consumes lines left (bytes ++ more)
  pub is_ending : (ending ≡ []) ⊎ ((ending ≡ ending_of bytes) × IsAtEnd left)
  pub stamped : Stamped f ps s (bytes ++ ending) text rest count tally
  pub part : text ≡ front ++ back
  pub printed : Appends from to front
  pub cause : IsCause fault more back rest count

-- how a run ends
abbrev pub Ends : FormatView → List Pulse → Settings → Option (List ℕ) → Option (List ℕ)
    → Option (List ℕ) → Option (List ℕ) → Result Tally RunFault → Type 0
Ends f ps s lines left from to (Ok tally) = Ran f ps s lines left from to tally
Ends f ps s lines left from to (Err fault) = Broke f ps s lines left from to fault
