-- Years and days by their numbers.
use Rattle.std.proofs.Common.{◌≡◌, ℕ, zero, suc, ◌+◌, ◌-◌, ◌<◌, ◌≤◌, ◌⊎◌, inl, inr, nat_le, Bool, true, false, cond, pos, ◌+ℤ◌, ◌≤ℤ◌, neg_ℤ, unsigned_abs, Some}
use Rattle.std.proofs.Common.{refl, sym, ap, subst, ◌∙◌, arith}
use Rattle.std.proofs.lemmas.{Bool.le-leb, Bool.leb-false, Bool.leb-true, Bool.lt-leb, Int.by_lt_z}
use Rattle.std.proofs.Math.Nat.{eq-or-lt_of_le}
use Rattle.std.specs.Prelude.{ℤ, negsuc}
use Rattle.jiff_core.specs.Calendar.{day_count, days_in_year, days_in_month, day_of_year, IsCivilDate}
use Rattle.jiff_core.specs.{Date.ordinal, Date.epoch_day, declared.civil.date.Date.Date}
use Rattle.jiff_core.proofs.CalendarLemmas.{days_in_year_bounds, day_count-next_year, day_count-later_year, day_count-year_bounds, day_count-day_of_year}
use Rattle.jiff_core.proofs.CalendarLemmas.{day_of_year_bound, day_count_bounds, days_from_civil-day_count}
use Rattle.jiff_core.proofs.{DateLemmas.civil, SignedLemmas.signed_arith}
use Rattle.irig_moment.specs.Calendar.{day_number, new_year_of, last_year, year_of, place_of, civil_day_of, IsDay}

-- 1 January of the years that are spoken of
pub january : (y : ℕ) → y ≤ 9999 → (366 ≤ day_count (pos y) 1 1) × (day_count (pos y) 1 1 + days_in_year (pos y) ≤ 7304850)
january y h = day_count-year_bounds (pos y) (omega (arith, signed_arith))

pub next-year : (y : ℕ) → y ≤ 9998 → new_year_of (y + 1) ≡ new_year_of y + days_in_year (pos y)
next-year y h =
    let next = day_count-next_year (pos y) (pos (y + 1)) (omega (arith, signed_arith)) (omega (arith, signed_arith)) in
    omega (arith, next, january y (omega arith))

pub later-year : (y z : ℕ) → y < z → z ≤ 9999 → new_year_of y + days_in_year (pos y) ≤ new_year_of z
later-year y z h b =
    let later = day_count-later_year (pos y) (pos z) (omega (arith, signed_arith)) (omega (arith, signed_arith)) in
    omega (arith, later, january y (omega arith))

same-or-later : (y z : ℕ) → z ≤ 9999 → (y ≡ z) ⊎ (y < z) → new_year_of y ≤ new_year_of z
same-or-later y z b (inl e) = subst (λ v. new_year_of y ≤ new_year_of v) e (omega arith)
same-or-later y z b (inr l) = omega (arith, later-year y z l b)

pub no-earlier : (y z : ℕ) → y ≤ z → z ≤ 9999 → new_year_of y ≤ new_year_of z
no-earlier y z h b = same-or-later y z b (eq-or-lt_of_le h)

-- one step of the search
found : (n day y : ℕ) → new_year_of y ≤ day → day < new_year_of y + days_in_year (pos y) → suc n ≤ 9999 → (y < suc n → last_year n day ≡ y) →
    (y ≡ suc n) ⊎ (y < suc n) → cond (nat_le (new_year_of (suc n)) day) (suc n) (last_year n day) ≡ y
found n day y low high b rest (inl e) =
    ap (λ b. cond b (suc n) (last_year n day)) (le-leb (new_year_of (suc n)) day (subst (λ v. new_year_of v ≤ day) e low)) ∙ sym e
found n day y low high b rest (inr l) =
    ap (λ b. cond b (suc n) (last_year n day)) (lt-leb (new_year_of (suc n)) day (omega (arith, later-year y (suc n) l b, high))) ∙ rest l

-- the search finds the year
pub last-year : (n day y : ℕ) → 1 ≤ y → y ≤ n → n ≤ 9999 → new_year_of y ≤ day → day < new_year_of y + days_in_year (pos y) → last_year n day ≡ y
unfolding last_year
last-year zero day y one h b low high = absurd (omega arith)
last-year (suc n) day y one h b low high = found n day y low high b (λ l. last-year n day y one (omega arith) (omega arith) low high) (eq-or-lt_of_le h)

pub year-is : (day y : ℕ) → 1 ≤ y → y ≤ 9999 → new_year_of y ≤ day → day < new_year_of y + days_in_year (pos y) → year_of day ≡ y
unfolding year_of
year-is day y one h low high = last-year 9999 day y one h (omega arith) low high

-- the number of a date that jiff made
pub number-is : (d : Date) (n : ℕ) → epoch_day d +ℤ pos 4371587 ≡ pos n → n + 366 ≡ day_count d.year d.month d.day
number-is d n e = omega (arith, signed_arith, days_from_civil-day_count d.year d.month d.day, day_count_bounds _ _ _ (civil d))

pub made-day : (d e : Date) (n y m k : ℕ) → d ≡ e → e.year ≡ pos y → pos e.month ≡ pos m → pos e.day ≡ pos k → epoch_day d +ℤ pos 4371587 ≡ pos n
    → n ≡ day_number y m k
made-day d e n y m k same year month day h =
    let month_is : d.month ≡ m = ap (λ (x : Date). x.month) same ∙ ap unsigned_abs month in
    let day_is : d.day ≡ k = ap (λ (x : Date). x.day) same ∙ ap unsigned_abs day in
    let year_is : d.year ≡ pos y = ap (λ (x : Date). x.year) same ∙ year in
    let count : n + 366 ≡ day_count (pos y) m k = number-is d n h ∙ ap (λ v. day_count v d.month d.day) year_is ∙ ap (λ v. day_count (pos y) v d.day) month_is
    ∙ ap (λ v. day_count (pos y) m v) day_is in
    omega (arith, count)

year-low : (d : Date) → neg_ℤ (pos 10000) ≤ℤ d.year
year-low d = let h = d.year_in in omega (arith, signed_arith)

-- a day from the year 1 on is of a year that is no less
pub year-positive : (d : Date) (day : ℕ) → day + 366 ≡ day_count d.year d.month d.day → new_year_of 1 ≤ day → pos 1 ≤ℤ d.year
year-positive d day e low =
    by_lt_z d.year (pos 1)
    (λ lt. absurd (omega (
      arith,
      signed_arith,
      day_count-later_year d.year (pos 1) (year-low d) lt,
      day_count-day_of_year d.year d.month d.day d.day_in.0,
      day_of_year_bound _ _ _ (civil d),
      january 1 (omega arith),
    )))
    (λ le. le)

-- the year of a date that jiff made, as a natural number
pub year-number : (d : Date) (day : ℕ) → day + 366 ≡ day_count d.year d.month d.day → new_year_of 1 ≤ day
    → (d.year ≡ pos (unsigned_abs d.year)) × (1 ≤ unsigned_abs d.year) × (unsigned_abs d.year ≤ 9999)
year-number d day e low = parts d.year (year-positive d day e low) (d.year_in.1) where
  parts : (z : ℤ) → pos 1 ≤ℤ z → z ≤ℤ pos 9999 → (z ≡ pos (unsigned_abs z)) × (1 ≤ unsigned_abs z) × (unsigned_abs z ≤ 9999)
  parts (pos y) h k = (refl, omega (arith, signed_arith), omega (arith, signed_arith))
  parts (negsuc y) h k = absurd (omega (arith, signed_arith))

pub year-told : (d : Date) (day : ℕ) → day + 366 ≡ day_count d.year d.month d.day → new_year_of 1 ≤ day → unsigned_abs d.year ≡ year_of day
year-told d day e low =
    let number = year-number d day e low in
    let january_is : day_count d.year 1 1 ≡ day_count (pos (unsigned_abs d.year)) 1 1 = ap (λ (z : ℤ). day_count z 1 1) number.0 in
    let length_is : days_in_year d.year ≡ days_in_year (pos (unsigned_abs d.year)) = ap (λ (z : ℤ). days_in_year z) number.0 in
    let place = day_count-day_of_year d.year d.month d.day d.day_in.0 in
    let bound = day_of_year_bound _ _ _ (civil d) in
    let first : 1 ≤ day_of_year d.year d.month d.day = let h = d.day_in.0 in omega (arith, h) in
    let years = january (unsigned_abs d.year) number.2 in
    sym (year-is day (unsigned_abs d.year) number.1 number.2 (omega (arith, e, january_is, place, first, years))
    (omega (arith, e, january_is, length_is, place, bound, years)))

pub place-told : (d : Date) (day n : ℕ) → day + 366 ≡ day_count d.year d.month d.day → new_year_of 1 ≤ day → n ≡ ordinal d → n ≡ place_of day
place-told d day n e low h =
    let number = year-number d day e low in
    let january_is : day_count d.year 1 1 ≡ day_count (pos (unsigned_abs d.year)) 1 1 = ap (λ (z : ℤ). day_count z 1 1) number.0 in
    let place = day_count-day_of_year d.year d.month d.day d.day_in.0 in
    let first : 1 ≤ day_of_year d.year d.month d.day = let h = d.day_in.0 in omega (arith, h) in
    let years = january (unsigned_abs d.year) number.2 in
    let here : n ≡ day - new_year_of (unsigned_abs d.year) + 1 = omega (arith, e, h, january_is, place, first, years) in
    here ∙ ap (λ v. day - new_year_of v + 1) (year-told d day e low)

-- a day of a year is one of those of a moment
pub day-in-years : (y n : ℕ) → 1 ≤ y → y ≤ 9998 → new_year_of y ≤ n → n < new_year_of y + days_in_year (pos y) → IsDay n
day-in-years y n one h low high = record {
  from = omega (arith, no-earlier 1 y one (omega arith));
  before = omega (arith, next-year y h, no-earlier (y + 1) 9999 (omega arith) (omega arith));
}

pub last-day : (day : ℕ) → day < new_year_of 9999 + 365 → day ≤ 7304483
last-day day h = omega (arith, january 9999 (omega arith), days_in_year_bounds (pos 9999))

pub civil-in-years : (y m k n : ℕ) → 1 ≤ y → y ≤ 9998 → 1 ≤ m → m ≤ 12 → 1 ≤ k → k ≤ days_in_month (pos y) m → n ≡ day_number y m k → IsDay n
civil-in-years y m k n y1 y2 m1 m2 k1 k2 h =
    let there : IsCivilDate (pos y) m k = ((omega (arith, signed_arith), omega (arith, signed_arith)), (m1, m2), (k1, k2)) in
    let place = day_count-day_of_year (pos y) m k k1 in
    let bound = day_of_year_bound (pos y) m k there in
    let first : 1 ≤ day_of_year (pos y) m k = omega (arith, k1) in
    let years = january y (omega arith) in
    day-in-years y n y1 y2 (omega (arith, h, place, first, years)) (omega (arith, h, place, bound, years))

pub civil-there : (y m k n : ℕ) → 1 ≤ y → y ≤ 9998 → 1 ≤ m → m ≤ 12 → 1 ≤ k → k ≤ days_in_month (pos y) m → n ≡ day_number y m k → Some n ≡ civil_day_of y m k
civil-there y m k n y1 y2 m1 m2 k1 k2 h =
    rw (le-leb 1 y y1, le-leb y 9998 y2, le-leb 1 m m1, le-leb m 12 m2, le-leb 1 k k1, le-leb k (days_in_month (pos y) m) k2)
    (ap Some h)

-- the year of a day is the greatest whose 1 January is at or before the day
pub record IsLastYear (n day y : ℕ) : Type 0 where
  pub there : 1 ≤ y
  pub begun : new_year_of y ≤ day
  pub no_later : (z : ℕ) → y < z → z ≤ n → day < new_year_of z

last-year-step : (n day : ℕ) (b : Bool) → nat_le (new_year_of (suc n)) day ≡ b → new_year_of 1 ≤ day → (1 ≤ n → IsLastYear n day (last_year n day))
    → (n ≡ 0 → b ≡ true) →
    IsLastYear (suc n) day (cond b (suc n) (last_year n day))
last-year-step n day true t low rest first = record {
  there = omega arith;
  begun = leb-true (new_year_of (suc n)) day t;
  no_later = λ z h k. absurd (omega (arith, h, k));
}
last-year-step n day false t low rest first = record {
  there = (rest (some n first)).there;
  begun = (rest (some n first)).begun;
  no_later = λ z h k. later z h k (eq-or-lt_of_le k);
} where
  some : (n : ℕ) → (n ≡ 0 → false ≡ true) → 1 ≤ n
  some zero h = absurd (cc (h refl))
  some (suc n) h = omega arith

  above : day < new_year_of (suc n)
  above = leb-false (new_year_of (suc n)) day t

  later : (z : ℕ) → last_year n day < z → z ≤ suc n → (z ≡ suc n) ⊎ (z < suc n) → day < new_year_of z
  later z h k (inl e) = subst (λ v. day < new_year_of v) (sym e) above
  later z h k (inr l) = (rest (some n first)).no_later z h (omega arith)

last-year-law : (n day : ℕ) → 1 ≤ n → new_year_of 1 ≤ day → IsLastYear n day (last_year n day)
unfolding last_year
last-year-law zero day h low = absurd (omega arith)
last-year-law (suc n) day h low =
    last-year-step n day (nat_le (new_year_of (suc n)) day) refl low (λ k. last-year-law n day k low)
    (λ e. ap (λ v. nat_le (new_year_of (suc v)) day) e ∙ le-leb (new_year_of 1) day low)

pub year-law : (day : ℕ) → new_year_of 1 ≤ day → IsLastYear 9999 day (year_of day)
unfolding year_of
year-law day low = last-year-law 9999 day (omega arith) low

-- the days of a year, by their places
pub in-year : (y n : ℕ) → 1 ≤ y → y ≤ 9999 → n < days_in_year (pos y) → (year_of (new_year_of y + n) ≡ y) × (place_of (new_year_of y + n) ≡ n + 1)
in-year y n one h b =
    let year : year_of (new_year_of y + n) ≡ y = year-is (new_year_of y + n) y one h (omega arith) (omega (arith, b)) in
    (year, ap (λ v. new_year_of y + n - new_year_of v + 1) year ∙ omega arith)
