-- Places that have no marker after them.
use Rattle.std.proofs.Common.{◌≡◌, ℕ, suc, zero, ◌+◌, ◌-◌, ◌<◌, ◌≤◌, false, List, [], ◌∷◌, ◌++◌, slice_get, Some, ap, subst, ◌∙◌, inl, inr, arith}
use Rattle.std.proofs.lemmas.Bool.{cases_lt}
use Rattle.irig_codes.specs.Format.{FormatView}
use Rattle.irig_recording.specs.declared.pulse.Pulse.{Pulse}
use Rattle.irig_track.specs.Looks.{LensView}
use Rattle.irig_index.specs.{declared.record.Record.Record, Checked.Checked, Frames.frame_at, Frames.record_after, Frames.records_in, Looked.Looked}
use Rattle.irig_index.specs.{Marker.class_at, Marker.is_position, Passed.Passed, Passed.StandsAfter, Verdict.verdict_of}
use Rattle.irig_index.proofs.FrameLemmas.{record_after-beside, record_after-other, window_next, window_same}

-- places passed so far, and more
pub none_more : (f : FormatView) (ps : List Pulse) (first place next : ℕ)
    → ((k : ℕ) → first ≤ k → k < place → record_after f ps k ≡ []) → ((k : ℕ) → place ≤ k → k < next → record_after f ps k ≡ [])
    → (k : ℕ) → first ≤ k → k < next → record_after f ps k ≡ []
none_more f ps first place next so_far more k from to = elim (cases_lt k place) [ inl before ↦ so_far k from before | inr behind ↦ more k behind to ]

-- neither the place before a pulse that is no position identifier nor its own has a marker after it
pub two_passed : (f : FormatView) (ps : List Pulse) (place next : ℕ) (q : Pulse) → slice_get ps (place + 1) ≡ Some q
    → is_position (class_at f q) ≡ false → next ≤ place + 2 → (k : ℕ) → place ≤ k → k < next → record_after f ps k ≡ []
two_passed f ps place next q here other few k from to = elim (cases_lt place k) [
  | inl second ↦ (let is : k ≡ place + 1 = omega arith in record_after-beside f ps k q (ap (slice_get ps) is ∙ here) other)
  | inr first ↦ (let is : k + 1 ≡ place + 1 = omega arith in record_after-other f ps k q (ap (slice_get ps) is ∙ here) other)
]

-- one place
pub one_passed : (f : FormatView) (ps : List Pulse) (place : ℕ) → record_after f ps place ≡ []
    → (k : ℕ) → place ≤ k → k < place + 1 → record_after f ps k ≡ []
one_passed f ps place none k from to = let is : k ≡ place = omega arith in ap (record_after f ps) is ∙ none

-- a window has no more records with them than without
window_more : (f : FormatView) (ps : List Pulse) (from place more : ℕ) → from ≤ place
    → ((k : ℕ) → place ≤ k → k < place + more → record_after f ps k ≡ [])
    → records_in f ps from (place + more - from) ≡ records_in f ps from (place - from)
window_more f ps from place zero order none = let is : place + 0 ≡ place = omega arith in ap (λ n. records_in f ps from (n - from)) is
window_more f ps from place (suc more) order none =
    let is : place + suc more ≡ place + more + 1 = omega arith in
    ap (λ n. records_in f ps from (n - from)) is
    ∙ (window_same f ps from (place + more) (omega arith) (none (place + more) (omega arith) (omega arith))
    ∙ window_more f ps from place more order (λ k le lt. none k le (omega (arith, lt))))

pub window_none : (f : FormatView) (ps : List Pulse) (from place next : ℕ) → from ≤ place → place ≤ next
    → ((k : ℕ) → place ≤ k → k < next → record_after f ps k ≡ [])
    → records_in f ps from (next - from) ≡ records_in f ps from (place - from)
window_none f ps from place next order more none =
    let is : next ≡ place + (next - place) = omega arith in
    ap (λ n. records_in f ps from (n - from)) is
    ∙ window_more f ps from place (next - place) order (λ k le lt. none k le (omega (arith, lt, is)))

-- what is known of the pulses after some looks is known of those before them
module _ {a b : LensView} {l m most : ℕ} (seen : Looked a b l m most) where
  pub same_pulses : b.track.pulses ≡ a.track.pulses
  same_pulses = ap (λ v. v.track.pulses) seen.lens

  pub passed_in : {f : FormatView} {first next besides : ℕ} {c d : LensView} {n o : ℕ}
      → Passed f b.track.pulses first next besides c d n o → Passed f a.track.pulses first next besides c d n o
  passed_in {f} {first} {next} {besides} {c} {d} {n} {o} passed = subst (λ ps. Passed f ps first next besides c d n o) same_pulses passed

  pub found_in : {f : FormatView} {before : ℕ} {p : Pulse} → StandsAfter f b.track.pulses before p → StandsAfter f a.track.pulses before p
  found_in {f} {before} {p} found = subst (λ ps. StandsAfter f ps before p) same_pulses found

  pub checked_in : {f : FormatView} {marker : ℕ} {c d : LensView} {n o : ℕ}
      → Checked f b.track.pulses marker c d n o → Checked f a.track.pulses marker c d n o
  checked_in {f} {marker} {c} {d} {n} {o} check = subst (λ ps. Checked f ps marker c d n o) same_pulses check

-- the record of the marker after a place
abbrev pub found_record : FormatView → List Pulse → ℕ → Record
found_record f ps before = record { marker = before + 1; verdict = verdict_of f (frame_at ps (before + 1)) }

-- the records of a window up to a marker that was found, and its own
pub window_found : (f : FormatView) (ps : List Pulse) (from place before : ℕ) (p : Pulse) → from ≤ place → place ≤ before
    → ((k : ℕ) → place ≤ k → k < before → record_after f ps k ≡ []) → StandsAfter f ps before p
    → records_in f ps from (before + 1 - from)
    ≡ records_in f ps from (place - from) ++ (found_record f ps before ∷ [])
window_found f ps from place before p order more none found =
    window_next f ps from before (omega (arith, order, more))
    ∙ λ i. window_none f ps from place before order more none i ++ found.record_is i
