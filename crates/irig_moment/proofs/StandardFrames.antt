-- Known frames: the ends of years, days, hours and minutes, proved of the definitions.
use Rattle.std.proofs.Common.{◌≡◌, ℕ, ◌+◌, ◌/◌, ◌%◌, ◌<◌, ◌≤◌, Some, None, pos, ap, ◌∙◌, arith}
use Rattle.jiff_core.specs.Calendar.{days_in_year}
use Rattle.irig_codes.specs.Format.{FormatView, has_hundredths, has_control, has_year, carries_sbs}
use Rattle.irig_codes.specs.declared.format.Kind.TheVariants.{A, B, E, G}
use Rattle.irig_codes.specs.{Fields.part, declared.format.Kind.Kind, declared.fields.Fields.Fields}
use Rattle.irig_moment.specs.{Calendar.new_year_of, Calendar.place_of, Moment.MomentView, Generated.fields_at, Generated.frame_fields}
use Rattle.irig_moment.proofs.Days.{in-year, next-year}

-- the format of a kind and an expression
abbrev format : Kind → ℕ → FormatView
format k n = record { kind = k; expression = n }

-- the moment of a day of a year, from 0, and a time
abbrev at_day : ℕ → ℕ → ℕ → MomentView
at_day y n time = record { day = new_year_of y + n; hundredths = time }

-- what frames carry of a year, a place in it, and a time
abbrev told : FormatView → ℕ → ℕ → ℕ → Fields
told f y place t = record {
  hundredths = part (has_hundredths f.kind) (t % 100);
  seconds = t / 100 % 60;
  minutes = t / 6000 % 60;
  hours = t / 360000;
  days = place;
  year = part (has_year f.expression) (y % 100);
  sbs = part (carries_sbs f.kind f.expression) (t / 100);
  control = part (has_control f.expression) 0;
}

told-at : (f : FormatView) (y n t day : ℕ) → day ≡ new_year_of y + n → 1 ≤ y → y ≤ 9999 → n < days_in_year (pos y) → fields_at f day t 0 ≡ told f y (n + 1) t
told-at f y n t day e one h b =
    let known = in-year y n one h b in
    ap (λ d. fields_at f d t 0) e
    ∙ ap (λ v. let g : Fields = record {
      hundredths = part (has_hundredths f.kind) (t % 100);
      seconds = t / 100 % 60;
      minutes = t / 6000 % 60;
      hours =
          t / 360000;
      days = place_of (new_year_of y + n);
      year = part (has_year f.expression) (v % 100);
      sbs = part (carries_sbs f.kind f.expression) (t / 100);
      control = part (has_control f.expression) 0;
    } in g) known.0
    ∙ ap (λ p. told f y p t) known.1

-- 2023-365T23:59:59, one second on: day 1 of 2024, in B
pub year-end-B : frame_fields (format B 4) (at_day 2023 364 8639900) 1 0
    ≡ record { hundredths = None; seconds = 0; minutes = 0; hours = 0; days = 1; year = Some 24; sbs = Some 0; control = Some 0 }
year-end-B = told-at (format B 4) 2024 0 0 _ (omega (arith, next-year 2023 (omega arith))) (omega arith) (omega arith) (omega arith)

-- 2024-366T23:59:59.90, a tenth of a second on: day 1 of 2025, in A
pub year-end-A : frame_fields (format A 6) (at_day 2024 365 8639990) 1 0
    ≡ record { hundredths = Some 0; seconds = 0; minutes = 0; hours = 0; days = 1; year = Some 25; sbs = None; control = None }
year-end-A = told-at (format A 6) 2025 0 0 _ (omega (arith, next-year 2024 (omega arith))) (omega arith) (omega arith) (omega arith)

-- 9998-12-31T23:59:50, ten seconds on: the year 9999, in E
pub year-end-E : frame_fields (format E 6) (at_day 9998 364 8639000) 1 0
    ≡ record { hundredths = None; seconds = 0; minutes = 0; hours = 0; days = 1; year = Some 99; sbs = None; control = None }
year-end-E = told-at (format E 6) 9999 0 0 _ (omega (arith, next-year 9998 (omega arith))) (omega arith) (omega arith) (omega arith)

-- 1999-365T23:59:59.99, a hundredth on: the year 2000, in G
pub year-end-G : frame_fields (format G 6) (at_day 1999 364 8639999) 1 0
    ≡ record { hundredths = Some 0; seconds = 0; minutes = 0; hours = 0; days = 1; year = Some 0; sbs = None; control = None }
year-end-G = told-at (format G 6) 2000 0 0 _ (omega (arith, next-year 1999 (omega arith))) (omega arith) (omega arith) (omega arith)

-- second 59 to the minute, minute 59 to the hour, and hour 23 to day 366
pub minute-end : frame_fields (format B 3) (at_day 2024 60 4529900) 1 0
    ≡ record { hundredths = None; seconds = 0; minutes = 35; hours = 12; days = 61; year = None; sbs = Some 45300; control = None }
minute-end = told-at (format B 3) 2024 60 4530000 _ (omega arith) (omega arith) (omega arith) (omega arith)

pub hour-end : frame_fields (format B 3) (at_day 2024 60 4679900) 1 0
    ≡ record { hundredths = None; seconds = 0; minutes = 0; hours = 13; days = 61; year = None; sbs = Some 46800; control = None }
hour-end = told-at (format B 3) 2024 60 4680000 _ (omega arith) (omega arith) (omega arith) (omega arith)

pub day-end : frame_fields (format B 3) (at_day 2024 364 8639900) 1 0
    ≡ record { hundredths = None; seconds = 0; minutes = 0; hours = 0; days = 366; year = None; sbs = Some 0; control = None }
day-end = told-at (format B 3) 2024 365 0 _ (omega arith) (omega arith) (omega arith) (omega arith)
