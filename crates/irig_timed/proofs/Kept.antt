-- Each time is of the calendar, and in its minute.
use Rattle.std.proofs.Common.{◌≡◌, ◌<◌, ◌≤◌, ◌+◌, ◌-◌, ◌*◌, ◌/◌, ◌&&◌, ◌||◌, nat_le, nat_lt, ℕ, Bool, true, false, cond, List, arith, refl, sym, subst}
use Rattle.std.specs.Prelude.{min}
use Rattle.std.proofs.lemmas.Bool.{and_parts, cond_both, ltb-true}
use Rattle.irig_codes.specs.Format.{FormatView}
use Rattle.irig_recording.specs.declared.pulse.Pulse.{Pulse}
use Rattle.irig_times.specs.declared.time.Time.{Time}
use Rattle.irig_law.specs.declared.point.Point.{Point}
use Rattle.irig_timed.specs.{Line.counts_to, Line.in_hour, Line.is_back, Line.is_in_hour, Line.since_hour, Line.time_at}
use Rattle.irig_timed.specs.Moments.{IsTimed, frames_by}
use Rattle.irig_timed.proofs.TimedCalendar.{InCalendar, believed-calendar, point-calendar}

abbrev IsGood : FormatView → Time → Type 0
IsGood f t = InCalendar f t × (t.micros < 61000000)

not-le : (a b : ℕ) → nat_le a b ≡ false → b < a
not-le a b h = grind (arith, h)

-- the microseconds since the minute began, and the minute
low-micros : (b c : Bool) (minutes w : ℕ) → minutes ≤ 59 → (c ≡ false → w < 60000000 * (minutes + 1))
    → w < (cond b (60000000 * minutes + 61000000) 3600000000) → w - 60000000 * cond (b && c) minutes (min 59 (w / 60000000)) < 61000000
low-micros true true minutes w h k lt = omega (arith, lt)
low-micros true false minutes w h k lt = omega (arith, h, k refl)
low-micros false c minutes w h k lt = omega (arith, lt)

low-minute : (b : Bool) (minutes w : ℕ) → minutes ≤ 59 → cond b minutes (min 59 (w / 60000000)) ≤ 59
low-minute true minutes w h = h
low-minute false minutes w h = omega arith

module _ (f : FormatView) where
  good-in-hour : (t : Time) (w : ℕ) → InCalendar f t → w < counts_to t → IsGood f (in_hour t w)
  good-in-hour t w h lt =
      let second = nat_le 60000000 t.micros in
      let there = nat_le (60000000 * (t.minutes + 1)) w in (
        (
          record { year = h.0.year; first = h.0.first; days = h.0.days; hours = h.0.hours; minutes = low-minute (second && there) t.minutes w h.0.minutes },
          h.1,
        ),
        low-micros second there t.minutes w h.0.minutes (not-le (60000000 * (t.minutes + 1)) w) lt,
      )

  in-front : (a b : Bool) → (a || b) ≡ false → b ≡ false
  in-front true b h = absurd (cc h)
  in-front false b h = h

  good-at : (x y : Point) → InCalendar f x.frame → InCalendar f y.frame → since_hour f y < counts_to y.frame → (over rest : ℕ)
      → IsGood f (time_at f x y over rest)
  good-at x y h k lt over rest = cond_both (is_back f x y over) (in_hour y.frame (since_hour f y - rest)) (in_hour x.frame (since_hour f x + over)) (IsGood f)
      (λ on. good-in-hour y.frame (since_hour f y - rest) k (less (since_hour f y) (counts_to y.frame) lt))
      (λ off. good-in-hour x.frame (since_hour f x + over) h (not-le (counts_to x.frame) (since_hour f x + over)
      (in-front (nat_le 60000000 y.frame.micros) (nat_le (counts_to x.frame) (since_hour f x + over)) off)))
    where
      less : (a b : ℕ) → a < b → a - rest < b
      less a b lt = omega (arith, lt)

  hour-end : (y : Point) → is_in_hour f y ≡ true → since_hour f y < counts_to y.frame
  hour-end y h =
      let rest = (and_parts (nat_lt y.element 100) (nat_lt y.frame.micros 61000000 && nat_lt (since_hour f y) (counts_to y.frame)) h).1 in
      ltb-true (since_hour f y) (counts_to y.frame)
      (and_parts (nat_lt y.frame.micros 61000000) (nat_lt (since_hour f y) (counts_to y.frame)) rest).1

  module _ (alone : Bool) (century : ℕ) (ps : List Pulse) (d n : ℕ) (x : Time) (h : IsTimed f alone century ps d n x) where
    timed-good : IsGood f x
    timed-good =
        let a = h.1 in
        let all = believed-calendar f alone century ps in
        let from = a.around.last.1 in
        let to = a.around.next.1 in
        let first = point-calendar f century ps (frames_by f alone century ps) all a.from.number a.from.point from.point in
        let second = point-calendar f century ps (frames_by f alone century ps) all a.to.number a.to.point to.point in
        subst (IsGood f) (sym a.is) (good-at a.from.point a.to.point first second (hour-end a.to.point to.hour) _ _)

    pub timed_calendar : InCalendar f x
    timed_calendar = timed-good.0

    pub timed_minute : x.micros < 61000000
    timed_minute = timed-good.1
