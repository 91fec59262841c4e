-- Known moments and known dates, proved of the definitions by computing.
use Rattle.std.proofs.Common.{◌≡◌, ℕ, ◌+◌, Bool, true, false, [], ◌∷◌, map, Some, None, refl, pos}
use Rattle.std.specs.Prelude.{codes}
use Rattle.jiff_core.specs.Calendar.{days_in_year}
use Rattle.irig_moment.specs.{Calendar.new_year_of, Calendar.day_number, Written.moment_of, Generated.starts_in}
use Rattle.irig_codes.specs.declared.format.Kind.{Kind}
use Rattle.irig_codes.specs.declared.format.Kind.TheVariants.{A, B, E, G}

-- leap years go by 4, 100 and 400
pub leap-years : map (λ y. days_in_year (pos y)) (1 ∷ 4 ∷ 1900 ∷ 2000 ∷ 2023 ∷ 2024 ∷ 2100 ∷ 9996 ∷ 9998 ∷ []) ≡ 365 ∷ 366 ∷ 365 ∷ 366 ∷ 365 ∷ 366 ∷ 365 ∷ 366
    ∷ 365 ∷ []
leap-years = refl

-- texts that are no moment
pub no-day-29 : moment_of (codes "2023-02-29T00:00:00") ≡ None
no-day-29 = refl

pub no-day-366 : moment_of (codes "2023-366T00:00:00") ≡ None
no-day-366 = refl

pub no-day-367 : moment_of (codes "2024-367T00:00:00") ≡ None
no-day-367 = refl

pub no-day-0 : moment_of (codes "2024-000T00:00:00") ≡ None
no-day-0 = refl

pub no-year-0 : moment_of (codes "0000-001T00:00:00") ≡ None
no-year-0 = refl

pub no-year-9999 : moment_of (codes "9999-001T00:00:00") ≡ None
no-year-9999 = refl

pub no-second-60 : moment_of (codes "2024-001T00:00:60") ≡ None
no-second-60 = refl

pub no-hour-24 : moment_of (codes "2024-001T24:00:00") ≡ None
no-hour-24 = refl

pub no-single-hundredth : moment_of (codes "2024-001T00:00:00.5") ≡ None
no-single-hundredth = refl

pub no-zone : moment_of (codes "2024-001T00:00:00Z") ≡ None
no-zone = refl

pub no-month-13 : moment_of (codes "2024-13-01T00:00:00") ≡ None
no-month-13 = refl

-- the last hundredth of a leap year
pub last-of-leap-year : moment_of (codes "2024-366T23:59:59.99") ≡ Some (record { day = new_year_of 2024 + 365; hundredths = 8639999 })
last-of-leap-year = refl

-- day 61 of a leap year is 1 March
pub first-of-march : moment_of (codes "2024-061T12:34:55") ≡ Some (record { day = new_year_of 2024 + 60; hundredths = 4529500 })
first-of-march = refl

pub first-of-march-by-month : moment_of (codes "2024-03-01T12:34:55") ≡ Some (record { day = day_number 2024 3 1; hundredths = 4529500 })
first-of-march-by-month = refl

-- the first and the last year
pub first-year : moment_of (codes "0001-01-01T00:00:00") ≡ Some (record { day = new_year_of 1; hundredths = 0 })
first-year = refl

pub last-year-end : moment_of (codes "9998-12-31T23:59:59.99") ≡ Some (record { day = day_number 9998 12 31; hundredths = 8639999 })
last-year-end = refl

-- which kinds begin a frame at 12:34:55, .50, and 12:34:50
abbrev starts : Kind → ℕ → Bool
starts k time = starts_in (record { kind = k; expression = 2 }) (record { day = 0; hundredths = time })

pub starts-at : map (starts A) (4529500 ∷ 4529550 ∷ 4529555 ∷ []) ≡ true ∷ true ∷ false ∷ []
starts-at = refl

pub starts-at-seconds : map (starts B) (4529500 ∷ 4529550 ∷ []) ≡ true ∷ false ∷ []
starts-at-seconds = refl

pub starts-at-tens : map (starts E) (4529500 ∷ 4529000 ∷ []) ≡ false ∷ true ∷ []
starts-at-tens = refl

pub starts-anywhere : map (starts G) (4529500 ∷ 4529555 ∷ []) ≡ true ∷ true ∷ []
starts-anywhere = refl
