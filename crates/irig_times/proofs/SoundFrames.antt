-- A frame that is read has all its pulses, and no marker within it.
use Rattle.std.proofs.Common.{◌≡◌, ℕ, suc, zero, ◌+◌, ◌-◌, ◌%◌, ◌==◌, ◌<◌, ◌≤◌, true, false, cond, List, Option, Some, None, slice_get, refl, sym, ap}
use Rattle.std.proofs.Common.{◌∙◌, ◌⊎◌, inl, inr, subst, arith}
use Rattle.std.proofs.lemmas.Bool.{and_parts, both_ways, cases_Bool, cases_lt, eqb-false, eqb-true, leb-true}
use Rattle.std.proofs.lemmas.Option.{none-some, same_Some, cond_some}
use Rattle.irig_codes.specs.declared.note.Note.TheVariants.{Fine, Field, SbsDisagrees, Stray}
use Rattle.irig_codes.specs.{Format.FormatView, Format.frame_period_of, declared.fields.Fields.Fields, declared.note.Note.Note}
use Rattle.irig_recording.specs.declared.pulse.Pulse.{Pulse}
use Rattle.irig_track.proofs.Items.{slice_get-part}
use Rattle.irig_index.specs.declared.record.Cause.TheVariants.{Ended, Step, Class}
use Rattle.irig_index.specs.{declared.record.Verdict.TheVariants.Broken, declared.record.Verdict.TheVariants.Read, Marker.class_at, Marker.follows}
use Rattle.irig_index.specs.{Marker.is_position, Verdict.fault_at, Verdict.fault_of, Verdict.first_fault, Verdict.judged, Verdict.suits, Verdict.verdict_of}
use Rattle.irig_index.specs.{declared.record.Cause.Cause, declared.record.Record.Record, declared.record.Verdict.Verdict, Frames.frame_at, Laws.TellsOfMarker}
use Rattle.irig_index.proofs.{CheckLemmas.suits_other, VerdictLemmas.first_fault-here, VerdictLemmas.first_fault-next}
use Rattle.irig_times.specs.Times.{minute_micros, timed}

-- only a frame that is read, and fine, has a time
pub timed-read : (f : FormatView) (v : Verdict) (g : Fields) → timed f v ≡ Some g → v ≡ Read g Fine
timed-read f (Read h Fine) g e = ap (λ x. Read x Fine) (cond_some _ h g e).1
timed-read f (Read h (Field x)) g e = absurd (none-some g e)
timed-read f (Read h SbsDisagrees) g e = absurd (none-some g e)
timed-read f (Read h (Stray n)) g e = absurd (none-some g e)
timed-read f (Broken k cause) g e = absurd (none-some g e)

-- it ends with its minute at the latest
pub whole-minute : (f : FormatView) (v : Verdict) (g : Fields) → timed f v ≡ Some g → minute_micros g + frame_period_of f.kind ≤ 61000000
whole-minute f (Read h Fine) g e =
    let is = cond_some _ h g e in
    subst (λ (k : Fields). minute_micros k + frame_period_of f.kind ≤ 61000000) is.1 (leb-true _ 61000000 is.0)
whole-minute f (Read h (Field x)) g e = absurd (none-some g e)
whole-minute f (Read h SbsDisagrees) g e = absurd (none-some g e)
whole-minute f (Read h (Stray n)) g e = absurd (none-some g e)
whole-minute f (Broken k cause) g e = absurd (none-some g e)

some_or_none : (o : Option Cause) → ((cause : Cause) × (o ≡ Some cause)) ⊎ (o ≡ None)
some_or_none (Some cause) = inl (cause, refl)
some_or_none None = inr refl

module _ (f : FormatView) (w : List Pulse) where
  none_in : (n k : ℕ) → first_fault f w n k ≡ None → (i : ℕ) → k ≤ i → i < k + n → fault_at f i w ≡ None
  none_in zero k e i le lt = absurd (omega arith)
  none_in (suc n) k e i le lt = elim (some_or_none (fault_at f k w)) [
    | inl here ↦ absurd (none-some (k, here.0) (sym e ∙ first_fault-here f w (suc n) n k refl here.0 here.1))
    | inr none ↦ elim (cases_lt k i) [
      | inl later ↦ none_in n (k + 1) (sym (first_fault-next f w (suc n) n k refl none) ∙ e) i (omega arith) (omega arith)
      | inr first ↦ let same : i ≡ k = omega arith in ap (λ j. fault_at f j w) same ∙ none
    ]
  ]

  pub judged-read : (o : Option (ℕ × Cause)) (g : Fields) (note : Note) → judged f w o ≡ Read g note → o ≡ None
  judged-read None g note e = refl
  judged-read (Some p) g note e = cc

  -- a pulse without a fault
  suited : (k : ℕ) (o here : Option Pulse) → fault_of f k o here ≡ None → (p : Pulse) × (here ≡ Some p) × (suits k (class_at f p) ≡ true)
  suited k o None e = absurd (none-some Ended (sym e))
  suited k None (Some p) e = absurd (none-some Ended (sym e))
  suited k (Some q) (Some p) e = elim (cases_Bool (follows f q p)) [
    | inr off ↦ absurd (none-some Step (sym e ∙ ap (λ b. cond b (cond (suits k (class_at f p)) None (Some Class)) (Some Step)) off))
    | inl on ↦ elim (cases_Bool (suits k (class_at f p))) [
      | inl fits ↦ (p, refl, fits)
      | inr bad ↦ absurd (none-some Class (sym e ∙ λ j. cond (on j) (cond (bad j) None (Some Class)) (Some Step)))
    ]
  ]

module _ (f : FormatView) (ps : List Pulse) (i : ℕ) (g : Fields) (note : Note) (reads : verdict_of f (frame_at ps i) ≡ Read g note) where
  -- each of its elements is there, and suits
  pub element-stands : (k : ℕ) → 1 ≤ k → k ≤ 99 → (p : Pulse) × (slice_get ps (i + k) ≡ Some p) × (suits k (class_at f p) ≡ true)
  element-stands k from to =
      let w = frame_at ps i in
      let none = none_in f w 99 1 (judged-read f w (first_fault f w 99 1) g note reads) k from (omega arith) in
      let is = suited f w k (slice_get w (k - 1)) (slice_get w k) none in
      (is.0, sym (slice_get-part 100 i ps k (i + k) (omega arith) refl) ∙ is.1, is.2)

  -- one that is not a ninth is no position identifier
  digit-stands : (k : ℕ) (q : Pulse) → 1 ≤ k → k ≤ 99 → (k % 10 ≡ 9 → ⊥) → slice_get ps (i + k) ≡ Some q → is_position (class_at f q) ≡ true → ⊥
  digit-stands k q from to other here is =
      let it = element-stands k from to in
      let same : it.0 ≡ q = same_Some it.0 q (sym it.1 ∙ here) in
      both_ways (is_position (class_at f q)) (subst (λ (p : Pulse). is_position (class_at f p) ≡ false) same (suits_other k (class_at f it.0) it.2 other)) is

  -- no marker is within it
  pub none-within : (r : Record) → TellsOfMarker f ps r → i < r.marker → r.marker ≤ i + 99 → ⊥
  none-within r h after up_to =
      let d = r.marker - i in
      let both = and_parts _ _ h.is_one in
      let second = and_parts _ _ both.1 in
      let place : r.marker ≡ i + d = omega arith in
      elim (cases_Bool (d % 10 == 9)) [
        | inr other ↦ digit-stands d h.marker (omega arith) (omega arith) (eqb-false (d % 10) 9 other)
            (ap (slice_get ps) (sym place) ∙ h.stands) second.0
        | inl same ↦
            let ninth = eqb-true (d % 10) 9 same in
            let before : r.marker - 1 ≡ i + (d - 1) = omega (arith, ninth) in
            digit-stands (d - 1) h.before (omega (arith, ninth)) (omega arith) (λ e. omega (arith, e, ninth))
            (ap (slice_get ps) (sym before) ∙ h.stands_before) both.0
      ]
