-- Worked values of the parity of a frame, by the elements that carry it.
use Rattle.std.proofs.Common.{◌≡◌, ◌+◌, ℕ, true, false, List, [], ◌∷◌, None, Some, refl, take}
use Rattle.std.specs.Prelude.{◌%◌, if◌then◌else◌}
use Rattle.irig_codes.specs.declared.format.Kind.TheVariants.{A, B, E, G}
use Rattle.irig_codes.specs.{Encoding.encoded, Format.FormatView, Reading.counts}
use Rattle.irig_codes.specs.{declared.width.Element.Element}
use Rattle.irig_safety.specs.MendedFunctions.{with_control}
use Rattle.irig_safety.specs.Parity.{have_parity, is_parity_mended, parity_of}
use Rattle.irig_safety.specs.declared.shown.Shown.{Shown}

abbrev ones : List Element → ℕ
ones [] = 0
ones (e ∷ es) = (if counts e then 1 else 0) + ones es

-- the parity of the elements 0 to 75 of the frame that is sent
abbrev sent : FormatView → Shown → ℕ
sent f x = ones (take 76 (encoded f x.fields)) % 2

abbrev a5 : FormatView
a5 = record { kind = A; expression = 5 }

abbrev b0 : FormatView
b0 = record { kind = B; expression = 0 }

abbrev b4 : FormatView
b4 = record { kind = B; expression = 4 }

abbrev e1 : FormatView
e1 = record { kind = E; expression = 1 }

abbrev g5 : FormatView
g5 = record { kind = G; expression = 5 }

-- 12:34:56.70, day 138 of year 24, with the control functions 1 to 18 as in 0x1a2b3
abbrev frame : Shown
frame = record {
  rise = 5000000;
  fields = record {
    hundredths = Some 70;
    seconds = 56;
    minutes = 34;
    hours = 12;
    days = 138;
    year = Some 24;
    sbs = None;
    control = Some 107187;
  };
}

in_a : parity_of a5 frame ≡ sent a5 frame
in_a = refl

in_g : parity_of g5 frame ≡ sent g5 frame
in_g = refl

abbrev with_parts : Shown → Shown
with_parts x = record x { fields = record x.fields { hundredths = None; sbs = Some 45296 } }

in_b : parity_of b4 (with_parts frame) ≡ sent b4 (with_parts frame)
in_b = refl

abbrev without_year : Shown → Shown
without_year x = record x { fields = record x.fields { year = None } }

in_b_without_year : parity_of b0 (without_year (with_parts frame)) ≡ sent b0 (without_year (with_parts frame))
in_b_without_year = refl

in_e_without_year : parity_of e1 (without_year (with_parts frame)) ≡ sent e1 (without_year (with_parts frame))
in_e_without_year = refl

-- its time and its year in B have 15 ones: 4 of the second, 3, 2, 4 of the day, and 2. The control function of element 75 is the 15th with a
-- year, and the next one does not count
of_last : parity_of b4 (with_control (Some 16384) (with_parts frame)) ≡ 0
of_last = refl

of_next : parity_of b4 (with_control (Some 32768) (with_parts frame)) ≡ 1
of_next = refl

-- eight frames show a parity, seven do not, nor do eight of nine
abbrev odd : Shown
odd = with_control (Some 0) (with_parts frame)

abbrev even : Shown
even = with_control (Some 1) (with_parts frame)

abbrev seven : List Shown
seven = odd ∷ odd ∷ odd ∷ odd ∷ odd ∷ odd ∷ odd ∷ []

eight_show : have_parity b4 1 (odd ∷ seven) ≡ true
eight_show = refl

seven_show_none : have_parity b4 1 seven ≡ false
seven_show_none = refl

one_is_against : have_parity b4 1 (even ∷ odd ∷ seven) ≡ false
one_is_against = refl

-- a frame without it is mended by one control function, and not by three
mended : is_parity_mended b4 (odd ∷ seven) even odd ≡ true
mended = refl

by_three : is_parity_mended b4 (odd ∷ seven) even (with_control (Some 6) odd) ≡ false
by_three = refl

-- a frame that has it is not, and not by one after element 75
was_right : is_parity_mended b4 (odd ∷ seven) odd even ≡ false
was_right = refl

after_it : is_parity_mended b4 (odd ∷ seven) even (with_control (Some 32769) even) ≡ false
after_it = refl
