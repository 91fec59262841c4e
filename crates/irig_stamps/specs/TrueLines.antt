-- THE TIME BEFORE A LINE IS THAT OF THE CODE at its moment, as near as it can be off, if what
-- happened to the recording is one of the stories. This project's own.
use Rattle.std.specs.Prelude.{◌≡◌, ℕ, ◌-◌, ◌++◌, false, List, Option, Some, None, decimal}
use Rattle.irig_codes.specs.Format.{FormatView}
use Rattle.irig_recording.specs.declared.pulse.Pulse.{Pulse}
use Rattle.irig_timed.specs.{TrueMoments.IsTrueMoment, declared.moment.Moment.Moment}
use Rattle.irig_stamps.specs.{Offs.cell, Offs.is_wide, Offs.off_at, Texts.word_of}
use Rattle.irig_stamps.specs.Stamps.{IsTimeOf, IsWord, added, taken}
use Rattle.irig_stamps.specs.{declared.picos.Picos.Picos, declared.settings.Settings.Settings}

-- if the recorder's time v of a line has a time, and that is not off too far, it is printed, and is
-- that of the code that many picoseconds after the start of the track
abbrev pub PrintsTrueTime : FormatView → List Pulse → Settings → Option Picos → List ℕ → Type 0
PrintsTrueTime f ps s None word = Unit {0}
PrintsTrueTime f ps s (Some v) word =
    (x : Moment) → IsTimeOf f ps s v x → is_wide s.within (off_at f ps s x) ≡ false
    → (word ≡ word_of s (Some x.time) ++ cell s (decimal (off_at f ps s x)))
    × IsTrueMoment f s.alone s.century ps 1000000 (added s v - taken s v) x

abbrev pub PrintedTimesAreTrue : Type 0
PrintedTimesAreTrue = (f : FormatView) (ps : List Pulse) (s : Settings) (number : Option Picos)
    (word : List ℕ) → IsWord f ps s number word → PrintsTrueTime f ps s number word
