-- What is read of a track at a path. This project's own.
use Rattle.std.specs.Prelude.{◌≡◌, ◌<◌, ◌⊎◌, ℕ, List, Option, Result, Ok, Err, IfSome, length}
use Rattle.std.specs.Prelude.{option_map}
use denote.Ref.{Bor}
use Rattle.irig_recording.specs.Recording.{RecordingView}
use Rattle.irig_vcd.specs.{Extent.short, Window.extent_parts, declared.extent.Extent.Extent}
use Rattle.irig_vcd.specs.declared.window.Window.{Window}
use Rattle.irig_files.specs.Reads.{extent_bytes}
use Rattle.irig_files.specs.declared.dump_file.DumpFileFault.{DumpFileFault}
use Rattle.irig_files.specs.declared.dump_file.DumpFileFault.TheVariants.{OutOfMemory, TooLong}
use Rattle.irig_files.specs.declared.track.TrackFault.{TrackFault}
use Rattle.irig_files.specs.declared.track.TrackFault.TheVariants.{File, Dump}

-- a wire's name, without where it lies in memory
abbrev pub name_in : Option (Bor (List ℕ)) → Option (List ℕ)
name_in wire = option_map (λ w. w.now) wire

-- the bytes of the file say this of the wire, as much as is kept: all bytes, if they are known
pub record SaysBy (extent : Extent) (known wire : Option (List ℕ)) (recording : RecordingView)
    : Type 0 where
  pub source : List ℕ
  pub journal : Option (List ℕ)
  pub whole : IfSome known (λ all. source ≡ all)
  pub dump : extent_parts extent wire source ≡ Ok (recording, journal)

-- for which faults files are not read, by their paths
abbrev pub Unreadable : Type 1
Unreadable = List ℕ → DumpFileFault → Type 0

-- the file is not read for this fault: a call that reads it has it, and it is too long only if it
-- has too many bytes
abbrev pub IsUnreadBy : Extent → Option (List ℕ) → (DumpFileFault → Type 0) → DumpFileFault → Type 0
IsUnreadBy extent known unread fault = unread fault
    × (fault ≡ TooLong → IfSome known (λ all. extent_bytes extent < length all))

-- the file is not read for this fault, or this is the first fault of its dump
abbrev pub HasFaultBy : Extent → Option (List ℕ) → (DumpFileFault → Type 0)
    → Option (List ℕ) → TrackFault → Type 0
HasFaultBy extent known unread wire (File fault) = IsUnreadBy extent known unread fault
HasFaultBy extent known unread wire (Dump fault) =
    (source : List ℕ) × IfSome known (λ all. source ≡ all)
    × (extent_parts extent wire source ≡ Err fault)

-- the recording that the file says, or its fault
abbrev pub IsTrackBy : Extent → Option (List ℕ) → (DumpFileFault → Type 0)
    → Option (List ℕ) → Result RecordingView TrackFault → Type 0
IsTrackBy extent known unread wire (Ok recording) = SaysBy extent known wire recording
IsTrackBy extent known unread wire (Err fault) = HasFaultBy extent known unread wire fault

-- The same of a window, or of all, with at most 2^22 pulses.

abbrev pub Says : Option Window → Option (List ℕ) → Option (List ℕ) → RecordingView → Type 0
Says window known wire recording = SaysBy (short window) known wire recording

abbrev pub IsUnread : Option Window → Option (List ℕ) → (DumpFileFault → Type 0) → DumpFileFault
    → Type 0
IsUnread window known unread fault = IsUnreadBy (short window) known unread fault

-- or memory runs out for what is made of the file
abbrev pub IsUnreadOrShort : Option Window → Option (List ℕ) → (DumpFileFault → Type 0)
    → DumpFileFault → Type 0
IsUnreadOrShort window known unread fault =
    (fault ≡ OutOfMemory) ⊎ IsUnread window known unread fault

abbrev pub HasFault : Option Window → Option (List ℕ) → (DumpFileFault → Type 0)
    → Option (List ℕ) → TrackFault → Type 0
HasFault window known unread wire fault = HasFaultBy (short window) known unread wire fault

abbrev pub IsTrackOf : Option Window → Option (List ℕ) → (DumpFileFault → Type 0)
    → Option (List ℕ) → Result RecordingView TrackFault → Type 0
IsTrackOf window known unread wire track = IsTrackBy (short window) known unread wire track
