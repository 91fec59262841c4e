-- Comments have no newline but the one that ends them.
use Rattle.std.proofs.Common.{◌≡◌, ◌≤◌, ◌&&◌, ℕ, zero, suc, ◌-◌, ◌/◌, ◌%◌, ◌==◌, ◌++◌, ◌∙◌, Bool, true, false, not, List, [], ◌∷◌, Option, Some, None, length, codes}
use Rattle.std.proofs.Common.{decimal, refl, sym, ap, inr, arith, replicate, append_assoc, length-append}
use Rattle.std.specs.Prelude.{if◌then◌else◌}
use Rattle.std.specs.Fmt.{digit_glyph, digits, digits_onto}
use Rattle.std.proofs.lemmas.{Bool.and_from, Bool.Decides.nat_tests, List.Folds.list_all-append}
use Rattle.irig_codes.specs.{declared.fields.Fields.Fields, declared.note.Name.Name, declared.note.Note.Note}
use Rattle.irig_codes.specs.declared.note.Name.TheVariants as name
use Rattle.irig_codes.specs.declared.note.Note.TheVariants as note
use Rattle.irig_index.specs.{declared.record.Cause.Cause, declared.record.Verdict.Verdict}
use Rattle.irig_index.specs.declared.record.Cause.TheVariants as cause
use Rattle.irig_index.specs.declared.record.Verdict.TheVariants as verdict
use Rattle.irig_print.specs.FrameLine.{cause_word, clock_text, hundredths_text, name_word, note_text, part_text, parts_text, time_text, verdict_text}
use Rattle.irig_print.specs.Row.{hexadecimal, padded}
use Rattle.irig_comments.specs.Comments.{IsComment, IsPlain, after_text, before_text, comment_text, whole_text}
use Rattle.irig_comments.proofs.ShortTexts.{IsShort, short_both, short_counted, short_sides}
use Rattle.irig_comments.specs.{Counts.counts_text, declared.counts.Counts.Counts, declared.shown.Shown.Shown, declared.sides.Sides.Sides}

-- two texts, one after the other
both : (a b : List ℕ) → IsPlain a → IsPlain b → IsPlain (a ++ b)
both a b h k = list_all-append (λ x. not (x == 10)) a b ∙ and_from _ _ h k

plain_glyph : (d : ℕ) → not (digit_glyph false d == 10) ≡ true
plain_glyph d = grind (arith, nat_tests)

one_of : (v : Bool) (a b : List ℕ) → IsPlain a → IsPlain b → IsPlain (if v then a else b)
one_of true a b h k = h
one_of false a b h k = k

digits_more : (k base n : ℕ) (acc : List ℕ) → IsPlain acc → IsPlain (digits_onto k base false n acc)
digits_more zero base n acc h = h
digits_more (suc k) base n acc h =
    let more = digit_glyph false (n % base) ∷ acc in
    let here : IsPlain more = and_from _ _ (plain_glyph (n % base)) h in
    one_of (n / base == 0) more (digits_onto k base false (n / base) more) here (digits_more k base (n / base) more here)

plain_digits : (base n : ℕ) → IsPlain (digits base false n)
unfolding digits
plain_digits base n = digits_more 64 base n [] refl

plain_zeros : (n : ℕ) → IsPlain (replicate n 48)
plain_zeros zero = refl
plain_zeros (suc n) = plain_zeros n

plain_padded : (width n : ℕ) → IsPlain (padded width n)
plain_padded width n = both (replicate (width - length (decimal n)) 48) (decimal n) (plain_zeros (width - length (decimal n))) (plain_digits 10 n)

plain_part : (text : ℕ → List ℕ) → ((v : ℕ) → IsPlain (text v)) → (part : Option ℕ) → IsPlain (part_text text part)
plain_part text h None = refl
plain_part text h (Some v) = h v

plain_cause : (c : Cause) → IsPlain (cause_word c)
plain_cause cause.Ended = refl
plain_cause cause.Step = refl
plain_cause cause.Class = refl

plain_name : (n : Name) → IsPlain (name_word n)
plain_name name.Hundredths = refl
plain_name name.Seconds = refl
plain_name name.Minutes = refl
plain_name name.Hours = refl
plain_name name.Days = refl
plain_name name.Year = refl

plain_note : (n : Note) → IsPlain (note_text n)
plain_note note.Fine = refl
plain_note (note.Field n) = both (codes " field ") (name_word n) refl (plain_name n)
plain_note note.SbsDisagrees = refl
plain_note (note.Stray element) = both (codes " stray ") (decimal element) refl (plain_digits 10 element)

plain_clock : (f : Fields) → IsPlain (clock_text f)
plain_clock f =
    let colon = codes ":" in
    let hours = padded 2 f.hours in
    let minutes = padded 2 f.minutes in
    both (hours ++ colon ++ minutes ++ colon) (padded 2 f.seconds)
    (both (hours ++ colon ++ minutes) colon (both (hours ++ colon) minutes (both hours colon (plain_padded 2 f.hours) refl) (plain_padded 2 f.minutes)) refl)
    (plain_padded 2 f.seconds)

plain_hundredths : (v : Option ℕ) → IsPlain (hundredths_text v)
plain_hundredths v = plain_part (λ n. codes "." ++ padded 2 n) (λ n. both (codes ".") (padded 2 n) refl (plain_padded 2 n)) v

plain_time : (f : Fields) → IsPlain (time_text f)
plain_time f =
    let days = padded 3 f.days in
    let space = codes " " in
    let clock = clock_text f in
    both (days ++ space ++ clock) (hundredths_text f.hundredths)
    (both (days ++ space) clock (both days space (plain_padded 3 f.days) refl) (plain_clock f)) (plain_hundredths f.hundredths)

plain_parts : (f : Fields) → IsPlain (parts_text f)
plain_parts f =
    let year = part_text (λ v. codes " year " ++ padded 2 v) f.year in
    let sbs = part_text (λ v. codes " sbs " ++ decimal v) f.sbs in
    let control = part_text (λ v. codes " control " ++ hexadecimal v) f.control in
    both (year ++ sbs) control
    (both year sbs
    (plain_part (λ v. codes " year " ++ padded 2 v) (λ v. both (codes " year ") (padded 2 v) refl (plain_padded 2 v)) f.year)
    (plain_part (λ v. codes " sbs " ++ decimal v) (λ v. both (codes " sbs ") (decimal v) refl (plain_digits 10 v)) f.sbs))
    (plain_part (λ v. codes " control " ++ hexadecimal v) (λ v. both (codes " control ") (hexadecimal v) refl (plain_digits 16 v)) f.control)

plain_verdict : (v : Verdict) → IsPlain (verdict_text v)
plain_verdict (verdict.Broken element why) =
    let word = codes "broken " in
    let digits = decimal element in
    let space = codes " " in
    both (word ++ digits ++ space) (cause_word why) (both (word ++ digits) space (both word digits refl (plain_digits 10 element)) refl) (plain_cause why)
plain_verdict (verdict.Read fields said) =
    both (time_text fields ++ parts_text fields) (note_text said) (both (time_text fields) (parts_text fields) (plain_time fields) (plain_parts fields))
    (plain_note said)

plain_whole : (s : Shown) → IsPlain (whole_text s)
plain_whole s =
    let frame = codes "frame " in
    let number = decimal s.number in
    let word = codes " at " in
    let rise = decimal s.rise in
    let colon = codes ": " in
    both (frame ++ number ++ word ++ rise ++ colon) (verdict_text s.verdict)
    (both (frame ++ number ++ word ++ rise) colon
    (both (frame ++ number ++ word) rise (both (frame ++ number) word (both frame number refl (plain_digits 10 s.number)) refl) (plain_digits 10 s.rise)) refl)
    (plain_verdict s.verdict)

plain_before : (b : Option Shown) → IsPlain (before_text b)
plain_before None = refl
plain_before (Some b) = plain_whole b

plain_after : (b a : Option Shown) → IsPlain (after_text b a)
plain_after None None = refl
plain_after (Some b) None = refl
plain_after None (Some a) = plain_whole a
plain_after (Some b) (Some a) = plain_verdict a.verdict

-- a comment is one
pub comment_is : (s : Sides) → IsShort s.before → IsShort s.after → IsComment (comment_text s)
comment_is s b a =
    let space = codes " " in
    let was = before_text s.before in
    let between = codes ", then " in
    let now = after_text s.before s.after in
    let front = short_both (space ++ was) between (length (space ++ was)) 7 (omega arith) (omega arith) in
    inr (
      space ++ was ++ between ++ now,
      both (space ++ was ++ between) now (both (space ++ was) between (both space was refl (plain_before s.before)) refl) (plain_after s.before s.after),
      omega (arith, short_sides s.before s.after b a, length-append (space ++ was ++ between) now, front, length-append space was),
      refl,
    )

-- a number after other words
counted : (before after : List ℕ) (n : ℕ) → IsPlain before → IsPlain after → IsPlain (before ++ decimal n ++ after)
counted before after n h k = both (before ++ decimal n) after (both before (decimal n) h (plain_digits 10 n)) k

-- a line of the five numbers with a short end is one
counted_line : (n : Counts) (last : List ℕ) → IsPlain last → length last ≤ 80
    → IsComment (codes "# frames: " ++ decimal n.fine_before ++ codes " fine before, " ++ decimal n.fine_after ++ codes " fine after, " ++ decimal n.made
    ++ codes " made, " ++ decimal n.lost ++ codes " lost, " ++ decimal n.changed ++ (last ++ 10 ∷ []))
counted_line n last h few =
    let one = codes " frames: " ++ decimal n.fine_before ++ codes " fine before, " in
    let two = one ++ decimal n.fine_after ++ codes " fine after, " in
    let three = two ++ decimal n.made ++ codes " made, " in
    let four = three ++ decimal n.lost ++ codes " lost, " in
    let short_one = short_counted (codes " frames: ") (codes " fine before, ") n.fine_before 9 14 (omega arith) (omega arith) in
    let short_two = short_counted one (codes " fine after, ") n.fine_after 87 13 short_one (omega arith) in
    let short_three = short_counted two (codes " made, ") n.made 164 7 short_two (omega arith) in
    let short_four = short_counted three (codes " lost, ") n.lost 235 7 short_three (omega arith) in
    inr (
      four ++ decimal n.changed ++ last,
      counted four last n.changed
          (counted three (codes " lost, ") n.lost
          (counted two (codes " made, ") n.made (counted one (codes " fine after, ") n.fine_after
          (counted (codes " frames: ") (codes " fine before, ") n.fine_before refl refl) refl) refl)
          refl)
          h,
      omega (arith, short_counted four last n.changed 306 80 short_four few),
      ap (λ (l : List ℕ). 35 ∷ l) (sym (append_assoc (four ++ decimal n.changed) last (10 ∷ []))),
    )

-- the last line is one
pub counts_are : (n : Counts) → IsComment (counts_text n)
counts_are n = by_end ((n.fine_before == 0) && (n.fine_after == 0))
  where
    by_end : (none : Bool) → IsComment (codes "# frames: " ++ decimal n.fine_before ++ codes " fine before, " ++ decimal n.fine_after
        ++ codes " fine after, " ++ decimal n.made ++ codes " made, " ++ decimal n.lost ++ codes " lost, " ++ decimal n.changed
        ++ (if none then codes " changed; format or expression can be wrong, irig_what FILE says more\n" else codes " changed\n"))
    by_end true = counted_line n (codes " changed; format or expression can be wrong, irig_what FILE says more") refl (omega arith)
    by_end false = counted_line n (codes " changed") refl (omega arith)
