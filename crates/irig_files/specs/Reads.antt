-- What is read of the dump in a file. This project's own.
use Rattle.std.specs.Global.{Vec}
use Rattle.std.specs.Prelude.{◌≡◌, ◌≤◌, ◌+◌, ◌++◌, ◌^◌, ℕ, Bool, false, List, Option, None, Result}
use Rattle.std.specs.Prelude.{Ok, Err, IfOk, IfSome, length}
use Rattle.irig_vcd.specs.Code.DumpReader.{HasRead, bytes_read}
use Rattle.irig_vcd.specs.{Answer.Gives, Answer.bytes_of, Extent.short, Parts.dump_parts}
use Rattle.irig_vcd.specs.{declared.fault.VcdFault.VcdFault, declared.progress.Progress.Progress}
use Rattle.irig_vcd.specs.{Window.extent_parts, declared.extent.Extent.Extent, declared.window.Window.Window}
use Rattle.irig_recording.specs.Recording.{RecordingView}
use Rattle.irig_files.specs.declared.intake.Intake.{Intake}

-- the most bytes of a dump: few if all of it is kept and not long, as other bytes take no memory
abbrev pub bytes_up_to : Bool → Option Window → ℕ
bytes_up_to false None = 2 ^ 28
bytes_up_to is_long window = 2 ^ 47

abbrev pub extent_bytes : Extent → ℕ
extent_bytes extent = bytes_up_to extent.is_long extent.window

-- those of a dump of which a window is kept, or all, with at most 2^22 pulses
abbrev pub most_bytes : Option Window → ℕ
most_bytes window = extent_bytes (short window)

-- these bytes of a dump are read; or the dump has this fault, whatever comes after them
abbrev pub AreRead : Extent → Option (List ℕ) → List ℕ → Result Progress VcdFault → Type 0
AreRead extent wire bytes (Ok reader) =
    (reader.reading.trace.extent ≡ extent) × HasRead wire bytes reader
AreRead extent wire bytes (Err fault) =
    (more : List ℕ) → extent_parts extent wire (bytes ++ more) ≡ Err fault

-- these bytes of a dump are taken in, of one more than the most
pub record HasTaken (wire : Option (List ℕ)) (bytes : List ℕ) (intake : Intake) : Type 0 where
  pub dump : AreRead intake.extent wire bytes intake.dump
  pub left : length bytes + intake.left ≡ extent_bytes intake.extent + 1

-- these bytes are taken in after those before
abbrev pub Takes : List ℕ → Intake → Intake → Type 0
Takes some old new = (wire : Option (List ℕ)) (bytes : List ℕ)
    → HasTaken wire bytes old → HasTaken wire (bytes ++ some) new

-- what is read is counted
abbrev pub IsCounted : Intake → Type 0
IsCounted intake = IfOk intake.dump
    (λ reader. bytes_read reader + intake.left ≡ extent_bytes intake.extent + 1)

-- what a dump says, without where it lies in memory
abbrev pub parts_of : RecordingView × Option (Vec ℕ) → RecordingView × Option (List ℕ)
parts_of x = (x.0, bytes_of x.1)

-- the text of a journal has no more bytes
abbrev pub HasBytes : ℕ → Result (RecordingView × Option (Vec ℕ)) VcdFault → Type 0
HasBytes most read = IfOk read (λ x. IfSome x.1 (λ journal. length journal.items ≤ most))

-- the text of a journal has at most 2^28 bytes
abbrev pub HasFewBytes : Result (RecordingView × Option (Vec ℕ)) VcdFault → Type 0
HasFewBytes read = HasBytes (2 ^ 28) read

-- what the bytes of a file say of a wire is read, as much as is kept: all bytes, if they are known
pub record IsReadBy (extent : Extent) (known wire : Option (List ℕ))
    (read : Result (RecordingView × Option (Vec ℕ)) VcdFault) : Type 0 where
  pub source : List ℕ
  pub whole : IfSome known (λ all. source ≡ all)
  pub most : length source ≤ extent_bytes extent
  pub parts : Gives parts_of read (extent_parts extent wire source)
  pub few : HasBytes (extent_bytes extent) read

-- the same of a window, or of all, with at most 2^22 pulses
abbrev pub IsReadIn : Option Window → Option (List ℕ) → Option (List ℕ)
    → Result (RecordingView × Option (Vec ℕ)) VcdFault → Type 0
IsReadIn window known wire read = IsReadBy (short window) known wire read

-- what the bytes of a file say of a wire is read: all of them, if they are known, and no more than
-- 2^28
pub record IsReadOf (known wire : Option (List ℕ))
    (read : Result (RecordingView × Option (Vec ℕ)) VcdFault) : Type 0 where
  pub source : List ℕ
  pub whole : IfSome known (λ all. source ≡ all)
  pub most : length source ≤ 2 ^ 28
  pub parts : Gives parts_of read (dump_parts wire source)
  pub few : HasFewBytes read
