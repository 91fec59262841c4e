-- Known times and known ends of minutes, days and years, proved of the definitions by computing.
use Rattle.std.proofs.Common.{◌≡◌, ℕ, Bool, true, false, List, [], ◌∷◌, map, Option, Some, None, refl}
use Rattle.std.specs.{List.list_any, Prelude.not}
use Rattle.irig_codes.specs.declared.format.Kind.TheVariants.{A, B, E, G}
use Rattle.irig_codes.specs.declared.note.Name.TheVariants.{Hundredths, Seconds, Minutes, Hours, Days, Year}
use Rattle.irig_codes.specs.declared.note.Note.TheVariants.{Fine}
use Rattle.irig_codes.specs.{Format.FormatView, Layout.Field, Layout.control, Layout.decimal, Layout.rows_of, Layout.sbs}
use Rattle.irig_codes.specs.{declared.fields.Fields.Fields, declared.format.Kind.Kind}
use Rattle.irig_index.specs.declared.record.Verdict.TheVariants.{Read}
use Rattle.irig_times.specs.TimedElements.{is_timed}
use Rattle.irig_times.specs.{declared.time.Time.Time, Starts.share, Follows.is_later, Times.minute_micros, Times.second_of_day, Times.timed}

-- a time of a second
abbrev at : Option ℕ → ℕ → ℕ → ℕ → ℕ → Time
at year days hours minutes micros = record { year = year; days = days; hours = hours; minutes = minutes; micros = micros }

-- fields of a second and hundredths
abbrev fields : Option ℕ → ℕ → Fields
fields hundredths seconds = record {
  hundredths = hundredths;
  seconds = seconds;
  minutes = 59;
  hours = 23;
  days = 61;
  year = None;
  sbs = None;
  control = None;
}

-- tenths of A, whole seconds of B, tens of seconds of E, hundredths of G
pub in-minute : map minute_micros (fields (Some 90) 12 ∷ fields None 60 ∷ fields None 50 ∷ fields (Some 7) 3 ∷ [])
    ≡ 12900000 ∷ 60000000 ∷ 50000000 ∷ 3070000 ∷ []
in-minute = refl

-- a frame of a second 60 has a time, except in E, whose frames are longer than that second
abbrev has : Kind → Option ℕ → ℕ → Bool
has k hundredths seconds = told (timed (record { kind = k; expression = 1 }) (Read (fields hundredths seconds) Fine))
  where
    told : Option Fields → Bool
    told None = false
    told (Some g) = true

pub second-60 : has A (Some 90) 60 ∷ has B None 60 ∷ has G (Some 99) 60 ∷ has E None 50 ∷ has E None 60 ∷ [] ≡ true ∷ true ∷ true ∷ true ∷ false ∷ []
second-60 = refl

-- the frame after one in the middle of a minute, for each format
pub within-minute : is_later 20 100000 (at None 61 12 34 56900000) (at None 61 12 35 0)
    ∷ is_later 20 1000000 (at None 61 12 34 56000000) (at None 61 12 34 57000000)
    ∷ is_later 20 10000000 (at None 61 12 34 50000000) (at None 61 12 35 0)
    ∷ is_later 20 10000 (at None 61 12 34 56990000) (at None 61 12 34 57000000)
    ∷ is_later 20 1000000 (at None 61 12 34 56000000) (at None 61 12 34 58000000)
    ∷ is_later 20 1000000 (at None 61 12 34 56000000) (at None 61 12 34 56000000) ∷ [] ≡ false ∷ true ∷ true ∷ true ∷ false ∷ false ∷ []
within-minute = refl

-- a minute of 61 seconds: second 60 follows second 59, and the next minute follows second 60 alone or second 59
pub leap-second : is_later 20 1000000 (at None 61 23 59 59000000) (at None 61 23 59 60000000)
    ∷ is_later 20 1000000 (at None 61 23 59 60000000) (at None 62 0 0 0)
    ∷ is_later 20 1000000 (at None 61 23 59 59000000) (at None 62 0 0 0)
    ∷ is_later 20 1000000 (at None 61 23 59 60000000) (at None 61 23 59 60000000)
    ∷ is_later 20 100000 (at None 61 23 59 60900000) (at None 62 0 0 0)
    ∷ is_later 20 100000 (at None 61 23 59 60000000) (at None 62 0 0 0) ∷ [] ≡ true ∷ true ∷ true ∷ false ∷ true ∷ false ∷ []
leap-second = refl

-- the end of a year that is not known: after day 365 or 366
pub unknown-year : is_later 20 1000000 (at None 365 23 59 59000000) (at None 1 0 0 0)
    ∷ is_later 20 1000000 (at None 365 23 59 59000000) (at None 366 0 0 0)
    ∷ is_later 20 1000000 (at None 366 23 59 59000000) (at None 1 0 0 0)
    ∷ is_later 20 1000000 (at None 364 23 59 59000000) (at None 1 0 0 0) ∷ [] ≡ true ∷ true ∷ true ∷ false ∷ []
unknown-year = refl

-- the end of a year of two digits: 23 has 365 days, 24 has 366; 00 has 366 in 2000 and 365 in 1900; 00 comes after 99
pub known-year : is_later 20 1000000 (at (Some 23) 365 23 59 59000000) (at (Some 24) 1 0 0 0)
    ∷ is_later 20 1000000 (at (Some 24) 365 23 59 59000000) (at (Some 25) 1 0 0 0)
    ∷ is_later 20 1000000 (at (Some 24) 366 23 59 60000000) (at (Some 25) 1 0 0 0)
    ∷ is_later 20 1000000 (at (Some 23) 365 23 59 59000000) (at (Some 23) 366 0 0 0)
    ∷ is_later 20 1000000 (at (Some 0) 366 23 59 59000000) (at (Some 1) 1 0 0 0)
    ∷ is_later 19 1000000 (at (Some 0) 366 23 59 59000000) (at (Some 1) 1 0 0 0)
    ∷ is_later 19 1000000 (at (Some 99) 365 23 59 59000000) (at (Some 0) 1 0 0 0)
    ∷ is_later 20 1000000 (at (Some 23) 365 23 59 59000000) (at None 1 0 0 0) ∷ [] ≡ true ∷ false ∷ true ∷ false ∷ true ∷ false ∷ true ∷ false ∷ []
known-year = refl

-- a share is rounded down: of a nominal interval, of a fast clock's and of a slow clock's
pub shares : share 10000 4999 10000 ∷ share 10000 9998 9999 ∷ share 10000 10000 10001 ∷ share 100 0 99 ∷ [] ≡ 4999 ∷ 9998 ∷ 9999 ∷ 0 ∷ []
shares = refl

-- in the standard's table each element of the time of day, the year and the straight binary seconds carries a part of the time, and no
-- control function does
abbrev of-time : List Field
of-time = decimal Hundredths ∷ decimal Seconds ∷ decimal Minutes ∷ decimal Hours ∷ decimal Days ∷ decimal Year ∷ sbs ∷ []

abbrev is-other-in : FormatView → Bool
is-other-in f = list_any (λ x. list_any (λ r. not (is_timed f r.element)) (rows_of f x)) of-time

abbrev is-control-in : FormatView → Bool
is-control-in f = list_any (λ r. is_timed f r.element) (rows_of f control)

abbrev formats : List FormatView
formats =
    record { kind = A; expression = 0 } ∷ record { kind = A; expression = 4 } ∷ record { kind = B; expression = 0 }
    ∷ record { kind = B; expression = 4 } ∷ record { kind = E; expression = 1 } ∷ record { kind = E; expression = 5 }
    ∷ record { kind = G; expression = 1 } ∷ record { kind = G; expression = 5 } ∷ []

pub timed-elements : list_any is-other-in formats ≡ false
timed-elements = refl

pub control-elements : list_any is-control-in formats ≡ false
control-elements = refl

-- 12:34:56 is second 45,296 of its day, and a second 60 after which a day ends is second 86,400
pub seconds-of-day : second_of_day (at None 61 12 34 56000000) ∷ second_of_day (at None 181 23 59 60000000) ∷ [] ≡ 45296 ∷ 86400 ∷ []
seconds-of-day = refl
