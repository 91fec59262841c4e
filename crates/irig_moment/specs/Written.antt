-- How a moment is written: this project's own choice, after ISO 8601.
use Rattle.std.specs.Prelude.{ℕ, ◌+◌, ◌-◌, ◌*◌, ◌==◌, ◌&&◌, nat_le, Bool, true, false}
use Rattle.std.specs.Prelude.{if◌then◌else◌, List, [], ◌∷◌, take, drop, Option, Some, None, codes}
use Rattle.irig_moment.specs.{Calendar.ordinal_day_of, Calendar.civil_day_of, Moment.MomentView}

-- whether a byte fits a character of a form: a digit for 0, and else the same character
abbrev pub fits_form_of : ℕ → ℕ → Bool
fits_form_of f c = if f == 48 then nat_le 48 c && nat_le c 57 else c == f

-- whether a text has a form
abbrev pub has_form_of : List ℕ → List ℕ → Bool
has_form_of [] [] = true
has_form_of [] (c ∷ cs) = false
has_form_of (f ∷ fs) [] = false
has_form_of (f ∷ fs) (c ∷ cs) = fits_form_of f c && has_form_of fs cs

-- the number that digits make, after a number v
abbrev pub digits_after : ℕ → List ℕ → ℕ
digits_after v [] = v
digits_after v (c ∷ cs) = digits_after (10 * v + (c - 48)) cs

-- the number of n digits of a text from the place i on, from 0
abbrev pub number_at : List ℕ → ℕ → ℕ → ℕ
number_at text i n = digits_after 0 (take n (drop i text))

-- the hundredths of a second from midnight to a time, if there is such a time
abbrev pub hundredths_of : ℕ → ℕ → ℕ → ℕ → Option ℕ
hundredths_of h m s c =
    if (nat_le h 23 && nat_le m 59) && (nat_le s 59 && nat_le c 99)
    then Some (360000 * h + 6000 * m + 100 * s + c) else None

-- the moment of a day and a time, if both are there
abbrev pub both : Option ℕ → Option ℕ → Option MomentView
both (Some day) (Some hundredths) = Some (record { day = day; hundredths = hundredths })
both (Some _) None = None
both None _ = None

-- the day that a text begins with as YYYY-DDD
abbrev pub ordinal_date : List ℕ → Option ℕ
ordinal_date text = ordinal_day_of (number_at text 0 4) (number_at text 5 3)

-- the day that a text begins with as YYYY-MM-DD
abbrev pub civil_date : List ℕ → Option ℕ
civil_date text = civil_day_of (number_at text 0 4) (number_at text 5 2) (number_at text 8 2)

-- the time at a place of a text, as hh:mm:ss
abbrev pub time_at : List ℕ → ℕ → Option ℕ
time_at text i =
    hundredths_of (number_at text i 2) (number_at text (i + 3) 2) (number_at text (i + 6) 2) 0

-- the time at a place of a text, as hh:mm:ss.ff
abbrev pub fine_time_at : List ℕ → ℕ → Option ℕ
fine_time_at text i =
    hundredths_of (number_at text i 2) (number_at text (i + 3) 2) (number_at text (i + 6) 2)
    (number_at text (i + 9) 2)

-- the moment of a text, if it has one of the four forms
abbrev pub moment_of : List ℕ → Option MomentView
moment_of text =
    if has_form_of (codes "0000-000T00:00:00") text
    then both (ordinal_date text) (time_at text 9)
    else if has_form_of (codes "0000-000T00:00:00.00") text
    then both (ordinal_date text) (fine_time_at text 9)
    else if has_form_of (codes "0000-00-00T00:00:00") text
    then both (civil_date text) (time_at text 11)
    else if has_form_of (codes "0000-00-00T00:00:00.00") text
    then both (civil_date text) (fine_time_at text 11)
    else None
