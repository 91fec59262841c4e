-- The words before a line, by the recorder's time in it. This project's own.
use Rattle.std.specs.Prelude.{◌≡◌, ℕ, ◌-◌, ◌≤◌, ◌++◌, List, [], ◌∷◌, Option, Some, None}
use Rattle.std.specs.Prelude.{Bool, true, false, ◌⊎◌, ◌+◌, ◌/◌, ◌<◌, if◌then◌else◌}
use Rattle.irig_codes.specs.Format.{FormatView}
use Rattle.irig_recording.specs.declared.pulse.Pulse.{Pulse}
use Rattle.irig_track.specs.Splices.{risen_by}
use Rattle.irig_times.specs.declared.why.Why.{Why}
use Rattle.irig_times.specs.declared.why.Why.TheVariants.{Before}
use Rattle.irig_timed.specs.{Moments.IsMomentOf, Reasons.IsWhy, declared.moment.Moment.Moment}
use Rattle.irig_stamps.specs.{Offs.cell, Offs.timed_word, Reasons.why_text}
use Rattle.irig_stamps.specs.{declared.picos.Picos.Picos, declared.settings.Settings.Settings}
use Rattle.irig_stamps.specs.{Columns.column_of, Numbers.number_in}

-- the recorder's time in a line, in picoseconds, if it is a number; the offset is not yet taken off
abbrev pub picos_in : Settings → List ℕ → Option Picos
picos_in s line = number_in s.places (column_of s.comma s.column line)

-- the picoseconds of a recorder's time and of the start of the track: a time that is negative, and
-- the start if it is not, are taken off. The rest is what is after the start
abbrev pub added : Settings → Picos → ℕ
added s v = (if v.negative then 0 else v.size) + (if s.early then s.offset else 0)

abbrev pub taken : Settings → Picos → ℕ
taken s v = (if v.negative then v.size else 0) + (if s.early then 0 else s.offset)

-- the moment of the recorder's time v, by the law of time: its time of year, and how far that can
-- be off
abbrev pub IsTimeOf : FormatView → List Pulse → Settings → Picos → Moment → Type 0
IsTimeOf f ps s v x =
    (taken s v ≤ added s v)
    × IsMomentOf f s.alone s.century ps 1000000 (added s v - taken s v) x

-- why there is no time of year at the recorder's time v: it is before the start of the track, or by
-- the pulses around it
abbrev pub IsWhyOf : FormatView → List Pulse → Settings → Picos → Why → Type 0
IsWhyOf f ps s v why =
    ((added s v < taken s v) × (why ≡ Before))
    ⊎ ((taken s v ≤ added s v) × IsWhy f s.alone s.century ps
    (risen_by ((added s v - taken s v) / 1000000) ps) why)

-- the word of no time: a hyphen, or why there is none, if that is asked for
abbrev pub IsNone : Bool → FormatView → List Pulse → Settings → Picos → List ℕ → Type 0
IsNone false f ps s v word = word ≡ 45 ∷ []
IsNone true f ps s v word = (why : Why) × IsWhyOf f ps s v why × (word ≡ why_text why)

-- the words before a line: those of its moment, or that of no time; a hyphen if its column has no
-- number. There can be a second one, how far the time can be off: a hyphen if there is none
abbrev pub IsWord : FormatView → List Pulse → Settings → Option Picos → List ℕ → Type 0
IsWord f ps s None word = word ≡ 45 ∷ [] ++ cell s (45 ∷ [])
IsWord f ps s (Some v) word =
    ((x : Moment) → IsTimeOf f ps s v x → word ≡ timed_word f ps s x)
    × (((x : Moment) → IsTimeOf f ps s v x → ⊥)
    → (none : List ℕ) × IsNone s.why f ps s v none × (word ≡ none ++ cell s (45 ∷ [])))
