-- Times of a track that are printed alike.
use Rattle.std.proofs.Common.{◌≡◌, ◌≢◌, ℕ, zero, suc, ◌+◌, ◌-◌, ◌*◌, ◌%◌, ◌<◌, ◌≤◌, ◌^◌, ◌==◌, ◌++◌, nat_le, Bool, true, false, cond, []}
use Rattle.std.proofs.Common.{◌∷◌, Option, Some, None, refl, sym, ap, ◌∙◌, subst, arith, inl, inr, ◌⊎◌}
use Rattle.std.specs.Prelude.{IfSome, is_some, pos}
use Rattle.std.proofs.lemmas.{Bool.cases_Bool, Bool.leb-true, Option.none-some, Option.same_Some}
use Rattle.jiff_core.specs.Calendar.{days_in_month}
use Rattle.jiff_core.proofs.CalendarLemmas.{days_in_month_bounds}
use Rattle.irig_codes.specs.Format.{FormatView}
use Rattle.irig_times.specs.{declared.time.Time.Time, Times.IsOfCalendar}
use Rattle.irig_timed.proofs.Kept.{timed_calendar, timed_minute}
use Rattle.irig_stamps.specs.Printed.{AreTimes, CalendarTells, OrdinalTells, SecondsTell, day_micros}
use Rattle.irig_stamps.specs.Texts.{calendar_text, clock_text, date_text, day_seconds, ordinal_text, year_text}
use Rattle.irig_stamps.specs.{Dates.counted_on, Dates.date_after, Dates.date_from, Dates.date_in, Dates.year_in, declared.settings.Settings.Settings}
use Rattle.irig_stamps.proofs.DigitParts.{clock-parts, date-parts, day-parts, seconds-parts, year-parts}

-- the day and month of a day after n months
abbrev Date : Type 0
Date = ℕ × ℕ

month-from : (y n m days : ℕ) (p : Date) → date_after y n m days ≡ Some p → (m ≤ p.0) × (p.0 < m + n) × (p.1 ≤ 31)
month-from y zero m days p e = absurd (none-some p e)
month-from y (suc n) m days p e =
    let long = days_in_month (pos y) m in
    elim (cases_Bool (nat_le days long)) [
      | inl on ↦
          let it = same_Some (m, days) p (sym (ap (λ b. cond b (Some (m, days)) (date_after y n (m + 1) (days - long))) on) ∙ e) in
          let first : m ≡ p.0 = ap (λ (q : Date). q.0) it in
          let second : days ≡ p.1 = ap (λ (q : Date). q.1) it in
          (omega (arith, first), omega (arith, first), omega (arith, second, leb-true days long on, (days_in_month_bounds (pos y) m).0))
      | inr off ↦
          let it = month-from y n (m + 1) (days - long) p (sym (ap (λ b. cond b (Some (m, days)) (date_after y n (m + 1) (days - long))) off) ∙ e) in
          (omega (arith, it.0), omega (arith, it.1), it.2)
    ]

not-le : (a b : ℕ) → nat_le a b ≡ false → b < a
not-le a b h = grind (arith, h)

date-once : (y n m a b : ℕ) (p : Date) → date_after y n m a ≡ Some p → date_after y n m b ≡ Some p → a ≡ b
date-once y zero m a b p e h = absurd (none-some p e)
date-once y (suc n) m a b p e h =
    let long = days_in_month (pos y) m in
    let now = λ (days : ℕ) (on : nat_le days long ≡ true). ap (λ b. cond b (Some (m, days)) (date_after y n (m + 1) (days - long))) on in
    let later = λ (days : ℕ) (off : nat_le days long ≡ false). ap (λ b. cond b (Some (m, days)) (date_after y n (m + 1) (days - long))) off in
    elim (cases_Bool (nat_le a long)) [
      | inl on ↦
          let it = same_Some (m, a) p (sym (now a on) ∙ e) in
          elim (cases_Bool (nat_le b long)) [
            | inl also ↦
                let other = same_Some (m, b) p (sym (now b also) ∙ h) in
                ap (λ (q : Date). q.1) it ∙ sym (ap (λ (q : Date). q.1) other)
            | inr off ↦
                let other = month-from y n (m + 1) (b - long) p (sym (later b off) ∙ h) in
                absurd (omega (arith, ap (λ (q : Date). q.0) it, other.0))
          ]
      | inr off ↦ elim (cases_Bool (nat_le b long)) [
        | inl on ↦
            let it = same_Some (m, b) p (sym (now b on) ∙ h) in
            let other = month-from y n (m + 1) (a - long) p (sym (later a off) ∙ e) in
            absurd (omega (arith, ap (λ (q : Date). q.0) it, other.0))
        | inr also ↦
            let same = date-once y n (m + 1) (a - long) (b - long) p (sym (later a off) ∙ e) (sym (later b also) ∙ h) in
            omega (arith, same, not-le a long off, not-le b long also)
      ]
    ]

some-if : (b : Bool) (m n : ℕ) → is_some (cond b (Some m) (Some n)) ≡ true
some-if true m n = refl
some-if false m n = refl

most-if : (b : Bool) (m n : ℕ) → m < 10000 → n < 10000 → IfSome (cond b (Some m) (Some n)) (λ k. k < 10000)
most-if true m n h k = h
most-if false m n h k = k

-- without a field the year is counted from that of the settings
counted-some : (s : Settings) (o : Option ℕ) (a b : ℕ) → is_some (counted_on (record s { year = o }) a) ≡ is_some (counted_on (record s { year = o }) b)
counted-some s None a b = refl
counted-some s (Some y) a b = some-if (nat_le 300 (s.first_day - a)) (y + 1) y ∙ sym (some-if (nat_le 300 (s.first_day - b)) (y + 1) y)

counted-most : (s : Settings) (o : Option ℕ) (a : ℕ) → IfSome o (λ y. y ≤ 9998) → IfSome (counted_on (record s { year = o }) a) (λ k. k < 10000)
counted-most s None a h = tt
counted-most s (Some y) a h = most-if (nat_le 300 (s.first_day - a)) (y + 1) y (omega (arith, h)) (omega (arith, h))

-- the year of a time with another field
abbrev year_as : Settings → Time → Option ℕ → Option ℕ
year_as s x o = year_in s (record x { year = o })

year-known : (s : Settings) (x y : Time) (o p : Option ℕ) → is_some o ≡ is_some p → is_some (year_as s x o) ≡ is_some (year_as s y p)
year-known s x y None None e = counted-some s s.year x.days y.days
year-known s x y None (Some b) e = absurd (cc e)
year-known s x y (Some a) None e = absurd (cc e)
year-known s x y (Some a) (Some b) e = refl

year-most : (s : Settings) (x : Time) (o : Option ℕ) → s.century ≤ 99 → IfSome s.year (λ y. y ≤ 9998) → IfSome (year_as s x o) (λ k. k < 10000)
year-most s x None c h = counted-most s s.year x.days h
year-most s x (Some a) c h = omega (arith, c)

year-back : (s : Settings) (x y : Time) (o p : Option ℕ) → is_some o ≡ is_some p → IfSome o (λ k. k ≤ 99) → IfSome p (λ k. k ≤ 99)
    → year_as s x o ≡ year_as s y p → o ≡ p
year-back s x y None None e h k same = refl
year-back s x y None (Some b) e h k same = absurd (cc e)
year-back s x y (Some a) None e h k same = absurd (cc e)
year-back s x y (Some a) (Some b) e h k same =
    let it = same_Some (100 * s.century + a % 100) (100 * s.century + b % 100) same in
    ap Some (digits a b (100 * s.century) h k it)
  where
    digits : (a b c : ℕ) → a ≤ 99 → b ≤ 99 → c + a % 100 ≡ c + b % 100 → a ≡ b
    digits a b c h k e = omega (arith, h, k, e)

-- the numbers of both are within those of the digits
record AreShort (x y : Time) : Type 0 where
  first : IsOfCalendar x
  second : IsOfCalendar y
  micros : x.micros < 61000000
  also : y.micros < 61000000

clocks : (x y : Time) → AreShort x y → clock_text x ≡ clock_text y → (x.hours ≡ y.hours) × (x.minutes ≡ y.minutes) × (x.micros ≡ y.micros)
clocks x y h e =
    clock-parts x y (omega (arith, h.first.hours)) (omega (arith, h.second.hours)) (omega (arith, h.first.minutes)) (omega (arith, h.second.minutes))
    (omega (arith, h.micros)) (omega (arith, h.also)) e

-- the parts of two times that are printed with the number of the day
ordinal-parts : (x y : Time) → AreShort x y → (v w : Option ℕ) → is_some v ≡ is_some w → IfSome v (λ k. k < 10000) → IfSome w (λ k. k < 10000)
    → ordinal_text v x ≡ ordinal_text w y → (v ≡ w) × (x.days ≡ y.days) × (clock_text x ≡ clock_text y)
ordinal-parts x y h None None k a b e =
    (let it = day-parts x.days y.days _ _ (omega (arith, h.first.days)) (omega (arith, h.second.days)) e in (refl, it.0, it.1))
ordinal-parts x y h None (Some n) k a b e = absurd (cc k)
ordinal-parts x y h (Some m) None k a b e = absurd (cc k)
ordinal-parts x y h (Some m) (Some n) k a b e =
    let it = year-parts m n _ _ a b e in
    let days = day-parts x.days y.days _ _ (omega (arith, h.first.days)) (omega (arith, h.second.days)) it.1 in
    (ap Some it.0, days.0, days.1)

module _ (f : FormatView) (s : Settings) (x y : Time) (are : AreTimes f s x y) where
  short : AreShort x y
  short = record {
    first = (timed_calendar f s.alone s.century are.pulses are.d are.n x are.first).0;
    second = (timed_calendar f s.alone s.century are.pulses are.d are.m y are.second).0;
    micros = timed_minute f s.alone s.century are.pulses are.d are.n x are.first;
    also = timed_minute f s.alone s.century are.pulses are.d are.m y are.second;
  }

  same-field : is_some x.year ≡ is_some y.year
  same-field = (timed_calendar f s.alone s.century are.pulses are.d are.n x are.first).1
      ∙ sym (timed_calendar f s.alone s.century are.pulses are.d are.m y are.second).1

  same-known : is_some (year_in s x) ≡ is_some (year_in s y)
  same-known = year-known s x y x.year y.year same-field

  -- a time is its parts
  same-time : year_in s x ≡ year_in s y → x.days ≡ y.days → clock_text x ≡ clock_text y → x ≡ y
  same-time ey ed e =
      let clock = clocks x y short e in
      let year = year-back s x y x.year y.year same-field short.first.year short.second.year ey in
      λ i. record { year = year i; days = ed i; hours = clock.0 i; minutes = clock.1 i; micros = clock.2 i }

  ordinal-tells : ordinal_text (year_in s x) x ≡ ordinal_text (year_in s y) y → x ≡ y
  ordinal-tells e =
      let it = ordinal-parts x y short (year_in s x) (year_in s y) same-known (year-most s x x.year are.century are.year)
      (year-most s y y.year are.century are.year) e in
      same-time it.0 it.1 it.2

  seconds-tell : day_seconds x ≡ day_seconds y → x.micros % 1000000 ≡ y.micros % 1000000 → day_micros x ≡ day_micros y
  seconds-tell e k = omega (arith, e, k)

  few-seconds : (z : Time) → IsOfCalendar z → z.micros < 61000000 → day_seconds z < 2 ^ 64
  few-seconds z h k = omega (arith, h.hours, h.minutes, k)

pub ordinal_tells : OrdinalTells
ordinal_tells f s x y are e = ordinal-tells f s x y are e

pub seconds_tell : SecondsTell
seconds_tell f s x y are e =
    let h = short f s x y are in
    let it = seconds-parts x y (few-seconds f s x y are x h.first h.micros) (few-seconds f s x y are y h.second h.also) e in
    seconds-tell f s x y are it.0 it.1

-- a time with a date, and one without
calendar-some : (year : Option ℕ) (x : Time) (p : Date) → date_in year x.days ≡ Some p
    → calendar_text year x ≡ year_text year ++ (date_text p.0 p.1 ++ clock_text x)
calendar-some year x p e = rw e refl

calendar-none : (year : Option ℕ) (x : Time) → date_in year x.days ≡ None → calendar_text year x ≡ 45 ∷ []
calendar-none year x e = rw e refl

some-or-none : {X : Type 0} (o : Option X) → ((p : X) × (o ≡ Some p)) ⊎ (o ≡ None)
some-or-none (Some p) = inl (p, refl)
some-or-none None = inr refl

-- a date is of a known year
known-year : (v : Option ℕ) (days : ℕ) (p : Date) → date_in v days ≡ Some p → (year : ℕ) × (v ≡ Some year) × (date_from year days ≡ Some p)
known-year None days p e = absurd (none-some p e)
known-year (Some year) days p e = (year, refl, e)

date-days : (year days : ℕ) (p : Date) → date_from year days ≡ Some p → date_after year 12 1 days ≡ Some p
date-days year days p e = elim (cases_Bool (days == 0)) [
  | inl on ↦ absurd (none-some p (sym (ap (λ b. cond b None (date_after year 12 1 days)) on) ∙ e))
  | inr off ↦ sym (ap (λ b. cond b None (date_after year 12 1 days)) off) ∙ e
]

-- a time has more than a hyphen
date-parts-of : (x y : Time) (v w : ℕ) (p q : Date) → v < 10000 → w < 10000 → date_after v 12 1 x.days ≡ Some p → date_after w 12 1 y.days ≡ Some q
    → year_text (Some v) ++ (date_text p.0 p.1 ++ clock_text x) ≡ year_text (Some w) ++ (date_text q.0 q.1 ++ clock_text y)
    → (v ≡ w) × (x.days ≡ y.days) × (clock_text x ≡ clock_text y)
date-parts-of x y v w p q lv lw dp dq e =
    let years = year-parts v w _ _ lv lw e in
    let mp = month-from v 12 1 x.days p dp in
    let mq = month-from w 12 1 y.days q dq in
    let dates = date-parts p.0 q.0 p.1 q.1 _ _ (omega (arith, mp.1)) (omega (arith, mq.1)) (omega (arith, mp.2)) (omega (arith, mq.2)) years.1 in
    let both : p ≡ q = λ i. (dates.0 i, dates.1 i) in
    let other : date_after v 12 1 y.days ≡ Some p = ap (λ n. date_after n 12 1 y.days) years.0 ∙ (dq ∙ ap Some (sym both)) in
    (years.0, date-once v 12 1 x.days y.days p dp other, dates.2)

module _ (f : FormatView) (s : Settings) (x y : Time) (are : AreTimes f s x y) (some : calendar_text (year_in s x) x ≢ 45 ∷ [])
    (e : calendar_text (year_in s x) x ≡ calendar_text (year_in s y) y) where
  dated : (v w : Option ℕ) → year_in s x ≡ v → year_in s y ≡ w → IfSome v (λ k. k < 10000) → IfSome w (λ k. k < 10000)
      → (p : Date) → date_in v x.days ≡ Some p → (q : Date) → date_in w y.days ≡ Some q
      → calendar_text v x ≡ calendar_text w y → x ≡ y
  dated v w ev ew lv lw p hp q hq same =
      let kv = known-year v x.days p hp in
      let kw = known-year w y.days q hq in
      let tv : calendar_text v x ≡ year_text (Some kv.0) ++ (date_text p.0 p.1 ++ clock_text x) = calendar-some v x p hp
      ∙ ap (λ o. year_text o ++ (date_text p.0 p.1 ++ clock_text x)) kv.1 in
      let tw : calendar_text w y ≡ year_text (Some kw.0) ++ (date_text q.0 q.1 ++ clock_text y) = calendar-some w y q hq
      ∙ ap (λ o. year_text o ++ (date_text q.0 q.1 ++ clock_text y)) kw.1 in
      let low-v = subst (λ o. IfSome o (λ k. k < 10000)) kv.1 lv in
      let low-w = subst (λ o. IfSome o (λ k. k < 10000)) kw.1 lw in
      let it = date-parts-of x y kv.0 kw.0 p q low-v low-w (date-days kv.0 x.days p kv.2) (date-days kw.0 y.days q kw.2) (sym tv ∙ (same ∙ tw)) in
      same-time f s x y are (ev ∙ (kv.1 ∙ (ap Some it.0 ∙ (sym kw.1 ∙ sym ew)))) it.1 it.2

  calendar-tells : x ≡ y
  calendar-tells = elim (some-or-none (date_in (year_in s x) x.days)) [
    | inr none ↦ absurd (some (calendar-none (year_in s x) x none))
    | inl p ↦ elim (some-or-none (date_in (year_in s y) y.days)) [
      | inr none ↦ absurd (some (e ∙ calendar-none (year_in s y) y none))
      | inl q ↦
          let most-x = year-most s x x.year are.century are.year in
          let most-y = year-most s y y.year are.century are.year in
          dated (year_in s x) (year_in s y) refl refl most-x most-y p.0 p.1 q.0 q.1 e
    ]
  ]

pub calendar_tells : CalendarTells
calendar_tells f s x y are some e = calendar-tells f s x y are some e
