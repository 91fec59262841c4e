-- A frame that is fine has its fields in their ranges.
use Rattle.std.proofs.Common.{◌≡◌, ℕ, ◌≤◌, ◌||◌, nat_le, Bool, true, false, not, cond, List, [], ◌∷◌, Option, Some, None, refl, sym, ap, ◌∙◌}
use Rattle.std.proofs.Common.{subst, inl, inr}
use Rattle.std.specs.Prelude.{IfSome, find, is_some}
use Rattle.std.proofs.lemmas.{Bool.and_parts, Bool.cases_Bool, Bool.leb-true, Bool.or_parts, Option.none-some}
use Rattle.irig_codes.specs.Notes.{is_over, is_wrong, note_of, sbs_disagrees, stray_in, wrong_field}
use Rattle.irig_codes.specs.declared.note.Name.TheVariants.{Hundredths, Seconds, Minutes, Hours, Days, Year}
use Rattle.irig_codes.specs.declared.note.Note.TheVariants.{Fine, Stray}
use Rattle.irig_codes.specs.{Fields.is_in_range, Fields.part, Format.FormatView, Format.has_year, Layout.decimal, Reading.fields_read, Reading.value_of}
use Rattle.irig_codes.specs.{declared.fields.Fields.Fields, declared.note.Name.Name, declared.note.Note.Note, declared.width.Element.Element}
use Rattle.irig_recording.specs.declared.pulse.Pulse.{Pulse}
use Rattle.irig_index.specs.{Verdict.elements_of, Verdict.first_fault, Verdict.judged, Verdict.verdict_of}
use Rattle.irig_index.specs.{declared.record.Verdict.Verdict, declared.record.Verdict.TheVariants.Broken, declared.record.Verdict.TheVariants.Read}
use Rattle.irig_times.specs.{declared.time.Time.Time, Times.IsOfCalendar}
use Rattle.irig_times.proofs.SoundFrames.{judged-read}

-- none that is found
find-none : {X : Type 0} (p : X → Bool) (x : X) (xs : List X) → find p (x ∷ xs) ≡ None → (p x ≡ false) × (find p xs ≡ None)
find-none p x xs h = elim (cases_Bool (p x)) [
  | inl on ↦ absurd (none-some x (sym h ∙ ap (λ b. cond b (Some x) (find p xs)) on))
  | inr off ↦ (off, sym (ap (λ b. cond b (Some x) (find p xs)) off) ∙ h)
]

not-false : (b : Bool) → not b ≡ false → b ≡ true
not-false true h = refl
not-false false h = absurd (cc h)

-- a field that is not wrong is in its range
in-range : (f : FormatView) (es : List Element) (x : Name) → is_wrong f es x ≡ false → is_in_range f.kind x (value_of f es (decimal x)) ≡ true
in-range f es x h =
    let last = not (is_in_range f.kind x (value_of f es (decimal x))) in
    let hundreds = is_over f es x 100 || last in
    let tens = is_over f es x 10 || hundreds in
    not-false _ (or_parts (is_over f es x 100) last (or_parts (is_over f es x 10) hundreds (or_parts (is_over f es x 1) tens h).1).1).1

-- a note that is fine has no wrong field
fine-note : (w : Option Name) (b : Bool) (s : Option ℕ) → note_of w b s ≡ Fine → w ≡ None
fine-note None b s h = refl
fine-note (Some x) b s h = absurd (cc h)

abbrev fields_in : Verdict → Fields → Fields
fields_in (Read g note) other = g
fields_in (Broken k cause) other = other

abbrev note_in : Verdict → Note
note_in (Read g note) = note
note_in (Broken k cause) = Stray 0

part-most : (b : Bool) (v : ℕ) → v ≤ 99 → IfSome (part b v) (λ y. y ≤ 99)
part-most true v le = le
part-most false v le = tt

part-some : (b : Bool) (v : ℕ) → is_some (part b v) ≡ b
part-some true v = refl
part-some false v = refl

module _ (f : FormatView) (w : List Pulse) (g : Fields) (reads : verdict_of f w ≡ Read g Fine) where
  abbrev es : List Element
  es = elements_of f w

  read-none : judged f w None ≡ Read g Fine
  read-none = sym (ap (judged f w) (judged-read f w (first_fault f w 99 1) g Fine reads)) ∙ reads

  pub fields-read : fields_read f es ≡ g
  fields-read = ap (λ v. fields_in v g) read-none

  none-wrong : wrong_field f es ≡ None
  none-wrong = fine-note (wrong_field f es) (sbs_disagrees (fields_read f es)) (stray_in f es) (ap note_in read-none)

  pub of-calendar : (x : Time) → x.year ≡ g.year → x.days ≡ g.days → x.hours ≡ g.hours → x.minutes ≡ g.minutes
      → IsOfCalendar x × (is_some x.year ≡ has_year f.expression)
  of-calendar x ey ed eh em =
      let after-hundredths = (find-none (is_wrong f es) Hundredths (Seconds ∷ Minutes ∷ Hours ∷ Days ∷ Year ∷ []) none-wrong).1 in
      let after-seconds = (find-none (is_wrong f es) Seconds (Minutes ∷ Hours ∷ Days ∷ Year ∷ []) after-hundredths).1 in
      let minutes = find-none (is_wrong f es) Minutes (Hours ∷ Days ∷ Year ∷ []) after-seconds in
      let hours = find-none (is_wrong f es) Hours (Days ∷ Year ∷ []) minutes.1 in
      let days = find-none (is_wrong f es) Days (Year ∷ []) hours.1 in
      let year = find-none (is_wrong f es) Year [] days.1 in
      let few-minutes : value_of f es (decimal Minutes) ≤ 59 = leb-true _ 59 (in-range f es Minutes minutes.0) in
      let few-hours : value_of f es (decimal Hours) ≤ 23 = leb-true _ 23 (in-range f es Hours hours.0) in
      let both = and_parts (nat_le 1 (value_of f es (decimal Days))) (nat_le (value_of f es (decimal Days)) 366) (in-range f es Days days.0) in
      let two-digits : value_of f es (decimal Year) ≤ 99 = leb-true _ 99 (in-range f es Year year.0) in
      let same-year : part (has_year f.expression) (value_of f es (decimal Year)) ≡ x.year = ap (λ h. h.year) fields-read ∙ sym ey in
      let same-days : value_of f es (decimal Days) ≡ x.days = ap (λ h. h.days) fields-read ∙ sym ed in
      let same-hours : value_of f es (decimal Hours) ≡ x.hours = ap (λ h. h.hours) fields-read ∙ sym eh in
      let same-minutes : value_of f es (decimal Minutes) ≡ x.minutes = ap (λ h. h.minutes) fields-read ∙ sym em in (
        record {
          year = subst (λ o. IfSome o (λ y. y ≤ 99)) same-year (part-most (has_year f.expression) _ two-digits);
          first = subst (λ n. 1 ≤ n) same-days (leb-true 1 _ both.0);
          days = subst (λ n. n ≤ 366) same-days (leb-true _ 366 both.1);
          hours = subst (λ n. n ≤ 23) same-hours few-hours;
          minutes = subst (λ n. n ≤ 59) same-minutes few-minutes;
        },
        ap is_some (sym same-year) ∙ part-some (has_year f.expression) (value_of f es (decimal Year)),
      )
