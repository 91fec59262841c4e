-- Comments are short: the editor obeys lines of up to 1,000 bytes.
use Rattle.std.proofs.Common.{◌≡◌, ℕ, zero, suc, ◌+◌, ◌-◌, ◌≤◌, ◌/◌, ◌%◌, ◌==◌, ◌++◌, Bool, true, false, List, [], ◌∷◌, Option, Some, None, length, length-append, codes, decimal}
use Rattle.std.proofs.Common.{arith, lit<, replicate}
use Rattle.std.specs.Prelude.{if◌then◌else◌}
use Rattle.std.specs.Fmt.{digit_glyph, digits, digits_onto}
use Rattle.std.proofs.lemmas.Fmt.{length-decimal-le}
use Rattle.irig_codes.specs.{Narrow.AreNarrow, declared.fields.Fields.Fields, declared.note.Name.Name, declared.note.Note.Note}
use Rattle.irig_codes.specs.declared.note.Name.TheVariants as name
use Rattle.irig_codes.specs.declared.note.Note.TheVariants as note
use Rattle.irig_index.specs.{Kept.IsNarrow, declared.record.Cause.Cause, declared.record.Verdict.Verdict}
use Rattle.irig_index.specs.declared.record.Cause.TheVariants as cause
use Rattle.irig_index.specs.declared.record.Verdict.TheVariants as verdict
use Rattle.irig_print.specs.FrameLine.{cause_word, clock_text, hundredths_text, name_word, note_text, part_text, parts_text, time_text, verdict_text}
use Rattle.irig_print.specs.Row.{hexadecimal, padded}
use Rattle.irig_comments.specs.Comments.{after_text, before_text, whole_text}
use Rattle.irig_comments.specs.declared.shown.Shown.{Shown}

one_of : (v : Bool) (a b : List ℕ) (n : ℕ) → length a ≤ n → length b ≤ n → length (if v then a else b) ≤ n
one_of true a b n h k = h
one_of false a b n h k = k

digits_more : (k base n : ℕ) (acc : List ℕ) → length (digits_onto k base false n acc) ≤ k + length acc
digits_more zero base n acc = omega arith
digits_more (suc k) base n acc =
    let more = digit_glyph false (n % base) ∷ acc in
    one_of (n / base == 0) more (digits_onto k base false (n / base) more) (suc k + length acc) (omega arith)
    (omega (arith, digits_more k base (n / base) more))

-- any number has at most 64 digits
short_digits : (base n : ℕ) → length (digits base false n) ≤ 64
unfolding digits
short_digits base n = omega (arith, digits_more 64 base n [])

zeros : (n : ℕ) → length {A = ℕ} (replicate n 48) ≡ n
zeros zero = omega arith
zeros (suc n) = omega (arith, zeros n)

short_padded : (width n most : ℕ) → length (decimal n) ≤ most → length (padded width n) ≤ width + most
short_padded width n most h =
    omega (arith, h, zeros (width - length (decimal n)), length-append (replicate (width - length (decimal n)) 48) (decimal n))

-- a small number
small : (n : ℕ) → n ≤ 999 → length (decimal n) ≤ 3
small n h = length-decimal-le 3 n (lit< tt) (omega (arith, h)) (omega (arith, h))

both : (a b : List ℕ) (m n : ℕ) → length a ≤ m → length b ≤ n → length (a ++ b) ≤ m + n
both a b m n h k = omega (arith, h, k, length-append a b)

short_part : (text : ℕ → List ℕ) (n : ℕ) → ((v : ℕ) → length (text v) ≤ n) → (part : Option ℕ) → length (part_text text part) ≤ n
short_part text n h None = omega arith
short_part text n h (Some v) = h v

short_cause : (c : Cause) → length (cause_word c) ≤ 5
short_cause cause.Ended = omega arith
short_cause cause.Step = omega arith
short_cause cause.Class = omega arith

short_name : (n : Name) → length (name_word n) ≤ 10
short_name name.Hundredths = omega arith
short_name name.Seconds = omega arith
short_name name.Minutes = omega arith
short_name name.Hours = omega arith
short_name name.Days = omega arith
short_name name.Year = omega arith

short_note : (n : Note) → length (note_text n) ≤ 71
short_note note.Fine = omega arith
short_note (note.Field n) = omega (arith, both (codes " field ") (name_word n) 7 10 (omega arith) (short_name n))
short_note note.SbsDisagrees = omega arith
short_note (note.Stray element) = both (codes " stray ") (decimal element) 7 64 (omega arith) (short_digits 10 element)

short_clock : (f : Fields) → AreNarrow f → length (clock_text f) ≤ 17
short_clock f h =
    let colon = codes ":" in
    let hours = padded 2 f.hours in
    let minutes = padded 2 f.minutes in
    both (hours ++ colon ++ minutes ++ colon) (padded 2 f.seconds) 12 5
    (both (hours ++ colon ++ minutes) colon 11 1
    (both (hours ++ colon) minutes 6 5 (both hours colon 5 1 (short_padded 2 f.hours 3 (small f.hours (omega (arith, h.hours)))) (omega arith))
    (short_padded 2 f.minutes 3 (small f.minutes (omega (arith, h.minutes)))))
    (omega arith))
    (short_padded 2 f.seconds 3 (small f.seconds (omega (arith, h.seconds))))

short_time : (f : Fields) → AreNarrow f → length (time_text f) ≤ 91
short_time f h =
    let days = padded 3 f.days in
    let space = codes " " in
    both (days ++ space ++ clock_text f) (hundredths_text f.hundredths) 24 67
    (both (days ++ space) (clock_text f) 7 17 (both days space 6 1 (short_padded 3 f.days 3 (small f.days (omega (arith, h.days)))) (omega arith))
    (short_clock f h))
    (short_part (λ n. codes "." ++ padded 2 n) 67 (λ n. both (codes ".") (padded 2 n) 1 66 (omega arith) (short_padded 2 n 64 (short_digits 10 n)))
    f.hundredths)

short_parts : (f : Fields) → length (parts_text f) ≤ 214
short_parts f =
    let year = part_text (λ v. codes " year " ++ padded 2 v) f.year in
    let sbs = part_text (λ v. codes " sbs " ++ decimal v) f.sbs in
    let control = part_text (λ v. codes " control " ++ hexadecimal v) f.control in
    both (year ++ sbs) control 141 73
    (both year sbs 72 69
    (short_part (λ v. codes " year " ++ padded 2 v) 72
    (λ v. both (codes " year ") (padded 2 v) 6 66 (omega arith) (short_padded 2 v 64 (short_digits 10 v))) f.year)
    (short_part (λ v. codes " sbs " ++ decimal v) 69 (λ v. both (codes " sbs ") (decimal v) 5 64 (omega arith) (short_digits 10 v)) f.sbs))
    (short_part (λ v. codes " control " ++ hexadecimal v) 73 (λ v. both (codes " control ") (hexadecimal v) 9 64 (omega arith) (short_digits 16 v)) f.control)

pub short_verdict : (v : Verdict) → IsNarrow v → length (verdict_text v) ≤ 376
short_verdict (verdict.Broken element why) h =
    let word = codes "broken " in
    let digits = decimal element in
    let space = codes " " in
    omega (
      arith,
      both (word ++ digits ++ space) (cause_word why) 72 5
          (both (word ++ digits) space 71 1 (both word digits 7 64 (omega arith) (short_digits 10 element)) (omega arith)) (short_cause why),
    )
short_verdict (verdict.Read fields said) h =
    both (time_text fields ++ parts_text fields) (note_text said) 305 71
    (both (time_text fields) (parts_text fields) 91 214 (short_time fields h) (short_parts fields)) (short_note said)

short_whole : (s : Shown) → IsNarrow s.verdict → length (whole_text s) ≤ 516
short_whole s h =
    let frame = codes "frame " in
    let number = decimal s.number in
    let word = codes " at " in
    let rise = decimal s.rise in
    let colon = codes ": " in
    both (frame ++ number ++ word ++ rise ++ colon) (verdict_text s.verdict) 140 376
    (both (frame ++ number ++ word ++ rise) colon 138 2
    (both (frame ++ number ++ word) rise 74 64 (both (frame ++ number) word 70 4 (both frame number 6 64 (omega arith) (short_digits 10 s.number))
    (omega arith)) (short_digits 10 s.rise))
    (omega arith))
    (short_verdict s.verdict h)

-- a frame whose report is short, if there is one
abbrev pub IsShort : Option Shown → Type 0
IsShort None = Unit {0}
IsShort (Some s) = IsNarrow s.verdict

-- the two sides together: only one is shown with its place, if there are two
pub short_sides : (b a : Option Shown) → IsShort b → IsShort a → length (before_text b) + length (after_text b a) ≤ 892
short_sides None None h k = omega arith
short_sides (Some b) None h k = omega (arith, short_whole b h)
short_sides None (Some a) h k = omega (arith, short_whole a k)
short_sides (Some b) (Some a) h k = omega (arith, short_whole b h, short_verdict a.verdict k)

-- a number after other words
pub short_counted : (before after : List ℕ) (n m k : ℕ) → length before ≤ m → length after ≤ k → length (before ++ decimal n ++ after) ≤ m + 64 + k
short_counted before after n m k h j = both (before ++ decimal n) after (m + 64) k (both before (decimal n) m 64 h (short_digits 10 n)) j

pub short_both : (a b : List ℕ) (m n : ℕ) → length a ≤ m → length b ≤ n → length (a ++ b) ≤ m + n
short_both = both
