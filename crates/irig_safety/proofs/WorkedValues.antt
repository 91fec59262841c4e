-- Worked values of what bears out a frame, in format B with expression 4 (a period of 1 s, an interval of 10 ms).
use Rattle.std.proofs.Common.{◌≡◌, ◌-◌, ◌^◌, ℕ, true, false, List, [], ◌∷◌, None, Some, ap, arith, map, refl}
use Rattle.std.specs.Prelude.{unwrap_or}
use Rattle.std.specs.List.{range_with_len}
use Rattle.irig_codes.specs.{Format.FormatView, Format.control_count_of, declared.fields.Fields.Fields, declared.format.Kind.Kind}
use Rattle.irig_codes.specs.{Layout.control, Layout.rows_of, declared.format.Kind.TheVariants.A, declared.format.Kind.TheVariants.B}
use Rattle.irig_codes.specs.declared.format.Kind.TheVariants.{E, G}
use Rattle.irig_safety.specs.Calendar.{clock_of, is_later, periods}
use Rattle.irig_safety.specs.Bearing.{is_far, leads, slack, stray}
use Rattle.irig_safety.specs.{Clocks.shows_clock, OwnClock.is_by_own_clock}
use Rattle.irig_recording.specs.declared.pulse.Pulse.{Pulse}
use Rattle.irig_safety.specs.{Anchors.is_anchor, Curves.is_on_curve_by, Lines.fits_nominal, Rises.rise_in, Straight.is_straight}
use Rattle.irig_safety.specs.{declared.turning.Sides.Sides, declared.lines.Anchor.Anchor}
use Rattle.irig_safety.specs.{Heard.is_overruled, Witnesses.is_led}
use Rattle.irig_safety.specs.MendedFunctions.{HasControlOfBoth, with_control}
use Rattle.irig_safety.specs.{Functions.function_element, Witnesses.is_borne, declared.shown.Shown.Shown}

abbrev b4 : FormatView
b4 = record { kind = B; expression = 4 }

abbrev time : ℕ → ℕ → ℕ → ℕ → ℕ → Fields
time year day hour minute second = record {
  hundredths = None;
  seconds = second;
  minutes = minute;
  hours = hour;
  days = day;
  year = Some year;
  sbs = None;
  control = None;
}

abbrev at : ℕ → Fields → Shown
at rise fields = record { rise = rise; fields = fields }

-- 12:34:55 at 5 s, and 12:34:58 at 7.9994 s: a hole, and the rest 0.6 ms early
abbrev before : Shown
before = at 5000000 (time 24 138 12 34 55)

abbrev after : Shown
after = at 7999400 (time 24 138 12 34 58)

first_of_year : clock_of (time 24 1 0 0 0) ≡ 8640000
first_of_year = refl

three : periods b4 before after ≡ 3
three = refl

-- half an interval and a thousandth of the distance, in two-thousandths: 5 ms + 2.9994 ms
slack_there : slack b4 before after ≡ 15998800
slack_there = refl

stray_there : stray b4 before after ≡ 600
stray_there = refl

-- 12:34:56 at 6 s is borne out by both
right_time : is_borne b4 None (Some before) (Some after) None (at 6000000 (time 24 138 12 34 56)) ≡ true
right_time = refl

-- 12:34:57 at 6 s by none, nor 12:34:58 at 7 s
wrong_time : is_borne b4 None (Some before) (Some after) None (at 6000000 (time 24 138 12 34 57)) ≡ false
wrong_time = refl

early_rest : is_borne b4 None (Some before) (Some after) None (at 7000000 (time 24 138 12 34 58)) ≡ false
early_rest = refl

-- a frame may begin as late as the slack of one of them lets it: here 6 ms after 6 s, but 6.001 ms
late : is_borne b4 None (Some before) None None (at 6006005 (time 24 138 12 34 56)) ≡ true
late = refl

too_late : is_borne b4 None (Some before) None None (at 6006007 (time 24 138 12 34 56)) ≡ false
too_late = refl

-- with no frame on either side nothing bears a frame out
alone : is_borne b4 None None None None (at 6000000 (time 24 138 12 34 56)) ≡ false
alone = refl

-- 494 periods away a frame can lead, 495 away it is too far; it allows then
reach : is_far b4 before (at 499000000 (time 24 138 12 43 9)) ≡ false
reach = refl

beyond_reach : is_far b4 before (at 500000000 (time 24 138 12 43 10)) ≡ true
beyond_reach = refl

-- an inserted second is a frame period as any other, after which the next day begins
inserted : leads b4 (at 5000000 (time 16 366 23 59 59)) (at 6000000 (time 16 366 23 59 60)) ≡ true
inserted = refl

after_inserted : leads b4 (at 6000000 (time 16 366 23 59 60)) (at 7000000 (time 17 1 0 0 0)) ≡ true
after_inserted = refl

-- it is borne out from both sides alone
inserted_alone : is_borne b4 None (Some (at 5000000 (time 16 366 23 59 59))) None None (at 6000000 (time 16 366 23 59 60)) ≡ false
inserted_alone = refl

inserted_between : is_borne b4 None (Some (at 5000000 (time 16 366 23 59 59))) (Some (at 7000000 (time 17 1 0 0 0))) None
    (at 6000000 (time 16 366 23 59 60)) ≡ true
inserted_between = refl

-- a clock that is 2 % off: 20 frames take 20.4 s, and the 10th of them begins at 10.2 s
abbrev first : Shown
first = at 5000000 (time 24 138 12 34 0)

abbrev last : Shown
last = at 25400000 (time 24 138 12 34 20)

slow_clock : shows_clock b4 first last ≡ true
slow_clock = refl

by_slow_clock : is_borne b4 None (Some first) (Some last) None (at 15200000 (time 24 138 12 34 10)) ≡ true
by_slow_clock = refl

by_no_clock : is_borne b4 None (Some first) (Some last) None (at 15100000 (time 24 138 12 34 10)) ≡ false
by_no_clock = refl

-- a clock that is more than a fortieth off is none
wild_clock : shows_clock b4 first (at 15300000 (time 24 138 12 34 10)) ≡ false
wild_clock = refl

midnight : leads b4 (at 5000000 (time 24 138 23 59 59)) (at 6000000 (time 24 139 0 0 0)) ≡ true
midnight = refl

-- 2024 has 366 days, 2023 has 365, and 1999 goes into 2000
leap_year : leads b4 (at 5000000 (time 24 366 23 59 59)) (at 6000000 (time 25 1 0 0 0)) ≡ true
leap_year = refl

plain_year : leads b4 (at 5000000 (time 23 365 23 59 59)) (at 6000000 (time 24 1 0 0 0)) ≡ true
plain_year = refl

century : leads b4 (at 5000000 (time 99 365 23 59 59)) (at 6000000 (time 0 1 0 0 0)) ≡ true
century = refl

no_last_day : is_later b4 (at 5000000 (time 23 365 23 59 59)) (at 6000000 (time 25 1 0 0 0)) ≡ false
no_last_day = refl

-- a frame with a control function between two without one may lose it
abbrev ordered : Shown
ordered = with_control (Some 4) (at 6000000 (time 24 138 12 34 56))

abbrev plain : Shown → Shown
plain x = with_control (Some 0) x

as_both : HasControlOfBoth (Some (plain before)) ordered (Some (plain after)) (plain ordered)
as_both = (refl, refl, refl)

-- not if only one of them has none, or at another rise, or with another time
as_one : HasControlOfBoth (Some (plain before)) ordered (Some (with_control (Some 4) after)) (plain ordered) → ⊥
as_one h = let four : 4 ≡ 0 = ap (λ c. unwrap_or c 0) h.2 in omega (arith, four)

at_one_end : HasControlOfBoth (Some (plain before)) ordered None (plain ordered) → ⊥
at_one_end h = h

at_another_rise : HasControlOfBoth (Some (plain before)) ordered (Some (plain after)) (plain (at 6000600 (time 24 138 12 34 56))) → ⊥
at_another_rise h = let bad : 6000000 ≡ 6000600 = ap (λ (x : Shown). x.rise) h.0 in omega (arith, bad)

with_another_time : HasControlOfBoth (Some (plain before)) ordered (Some (plain after)) (plain (at 6000000 (time 24 138 12 34 57))) → ⊥
with_another_time h = let bad : 56 ≡ 57 = ap (λ (x : Shown). x.fields.seconds) h.0 in omega (arith, bad)

-- the elements of the control functions, and that their weights double, by the layout of a frame
abbrev elements_of : FormatView → List ℕ
elements_of f = map (λ r. r.element) (rows_of f control)

abbrev functions_of : FormatView → List ℕ
functions_of f = map (function_element f) (range_with_len 0 (control_count_of f))

abbrev format : Kind → ℕ → FormatView
format kind expression = record { kind = kind; expression = expression }

a_functions : functions_of (format A 0) ≡ elements_of (format A 0)
a_functions = refl

a_functions_with_year : functions_of (format A 4) ≡ elements_of (format A 4)
a_functions_with_year = refl

b_functions : functions_of (format B 0) ≡ elements_of (format B 0)
b_functions = refl

b_functions_with_year : functions_of (format B 4) ≡ elements_of (format B 4)
b_functions_with_year = refl

e_functions : functions_of (format E 1) ≡ elements_of (format E 1)
e_functions = refl

e_functions_with_year : functions_of (format E 5) ≡ elements_of (format E 5)
e_functions_with_year = refl

g_functions : functions_of (format G 1) ≡ elements_of (format G 1)
g_functions = refl

g_functions_with_year : functions_of (format G 5) ≡ elements_of (format G 5)
g_functions_with_year = refl

weights_double : map (λ r. r.weight) (rows_of (format E 1) control) ≡ map (λ k. 2 ^ k) (range_with_len 0 45)
weights_double = refl

-- a tenth of an interval from the middle of 20 elements, and a microsecond more
abbrev anchor : ℕ → ℕ → Anchor
anchor steps rise = record { steps = steps; rise = rise }

on_line : is_straight b4 (anchor 10 5000000) 101000 (anchor 10 5200000) ≡ true
on_line = refl

beside_line : is_straight b4 (anchor 10 5000000) 101001 (anchor 10 5200000) ≡ false
beside_line = refl

-- at the nominal interval to a tenth of it and a thousandth: 100 elements of 10 ms
nominal : fits_nominal b4 100 1002002 ≡ true
nominal = refl

not_nominal : fits_nominal b4 100 1002003 ≡ false
not_nominal = refl

-- a pulse that rises when one does, a gap that was turned over, and neither
abbrev pulse : ℕ → ℕ → Pulse
pulse rise fall = record { rise = rise; fall = fall }

abbrev recorded : List Pulse
recorded = pulse 100 300 ∷ pulse 1100 1600 ∷ []

rises_there : is_anchor recorded (Some (pulse 1100 1300)) ≡ true
rises_there = refl

is_gap : is_anchor recorded (Some (pulse 300 1100)) ≡ true
is_gap = refl

falls_there : is_anchor recorded (Some (pulse 300 500)) ≡ false
falls_there = refl

-- the second element of a frame rises 1000 microseconds after its marker
rise_of_second : rise_in recorded 0 1 - rise_in recorded 0 0 ≡ 1000
rise_of_second = refl

-- between 12:34:55 at 5 s and 12:34:58 at 7.9994 s a frame may stray by 5.6 ms; and it is led
led : is_led b4 (Some before) (Some after) (at 6005600 (time 24 138 12 34 56)) ≡ true
led = refl

not_led : is_led b4 (Some before) (Some after) (at 6005601 (time 24 138 12 34 56)) ≡ false
not_led = refl

-- a frame of day 139 between them is not heard
other_day : is_overruled b4 (Some before) (Some (at 7000000 (time 24 139 12 34 57))) (Some after) ≡ true
other_day = refl

not_heard : is_borne b4 None (Some before) (Some (at 7000000 (time 24 139 12 34 57))) (Some after) (at 6000000 (time 24 138 12 34 56)) ≡ true
not_heard = refl

-- each second takes 1.05 s: so the two frames before show it, and between the next two a frame is in time
abbrev slow_at : ℕ → ℕ → Shown
slow_at rise second = at rise (time 24 138 12 34 second)

own_clock : is_by_own_clock b4 (Some (slow_at 1000000 50)) (slow_at 2050000 51) (slow_at 4150000 53) None (slow_at 3100000 52) ≡ true
own_clock = refl

-- or the two after
own_clock_after : is_by_own_clock b4 None (slow_at 2050000 51) (slow_at 4150000 53) (Some (slow_at 5200000 54)) (slow_at 3100000 52) ≡ true
own_clock_after = refl

-- not if those show an exact clock: then it is a slip of 10 intervals
no_own_clock : is_by_own_clock b4 (Some (slow_at 1050000 50)) (slow_at 2050000 51) (slow_at 4150000 53) (Some (slow_at 5150000 54)) (slow_at 3100000 52) ≡ false
no_own_clock = refl

-- two frames show a clock that is 5 % slow if one is the next after the other
next_clock : shows_clock b4 (slow_at 1000000 50) (slow_at 2050000 51) ≡ true
next_clock = refl

far_clock : shows_clock b4 (slow_at 1000000 50) (slow_at 3100000 52) ≡ false
far_clock = refl

-- a clock that is 5 % slow, and each second takes 1.9 milliseconds more than the one before it: the curve between the frames of
-- seconds 52 and 56
abbrev turning : Sides
turning = record { before2 = slow_at 1050950 51; before = slow_at 2103800 52; after = slow_at 6334200 56; after2 = slow_at 7396550 57 }

-- it is a tenth of an interval from there, and a microsecond more; and on the other side of the line
on_curve : is_on_curve_by b4 turning (anchor 200 2103800) 4216200 (anchor 200 6334200) ≡ true
on_curve = refl

beside_curve : is_on_curve_by b4 turning (anchor 200 2103800) 4216201 (anchor 200 6334200) ≡ false
beside_curve = refl

other_side : is_on_curve_by b4 turning (anchor 200 2103800) 4222800 (anchor 200 6334200) ≡ false
other_side = refl
