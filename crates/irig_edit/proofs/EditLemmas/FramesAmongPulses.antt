-- Frames among other pulses: where their pulses are, and which of them are markers.
use Rattle.std.proofs.Common.{◌≡◌, ◌≤◌, ◌<◌, ◌+◌, ◌-◌, ◌*◌, ℕ, suc, zero, true, List, ◌++◌, length, take, drop, slice_get, Some, refl, ap, sym, ◌∙◌, arith}
use Rattle.std.proofs.Common.{append_assoc}
use Rattle.std.specs.Prelude.{Contains}
use Rattle.std.specs.List.{flat_map, range_with_len}
use Rattle.std.proofs.Math.Seq.{drop-append-add, take-append_seam}
use Rattle.irig_codes.specs.declared.width.Element.TheVariants.{Position}
use Rattle.irig_codes.specs.{declared.fields.Fields.Fields, declared.note.Note.TheVariants.Fine, declared.width.Element.Element, Format.FormatView}
use Rattle.irig_index.specs.{declared.record.Record.Record, declared.record.Verdict.TheVariants.Read, Frames.frame_at, Frames.frames, Laws.TellsOfMarker}
use Rattle.irig_index.specs.{Marker.class_at, Marker.follows, Marker.is_marker, Verdict.verdict_of}
use Rattle.irig_index.proofs.MarkerLaws.{frames_are_the_markers}
use Rattle.irig_track.proofs.Items.{slice_get-part}
use Rattle.irig_recording.specs.declared.pulse.Pulse.{Pulse}
use Rattle.irig_edit.specs.Edits.Regenerated.{element_pulse, frame_pulses}
use Rattle.irig_edit.proofs.EditLemmas.GeneratedPulses.{frame_many}
use Rattle.irig_edit.proofs.EditLemmas.GeneratedFrames.{Tell, element_at, element_class, element_follows, first_marks, frame_reads, none_marks}

module _ (f : FormatView) (start : ℕ) (es : ℕ → List Element) where
  abbrev generated : ℕ → ℕ → List Pulse
  generated a n = flat_map (λ k. frame_pulses f start k (es k)) (range_with_len a n)

  -- the pulses of a frame among those of n frames from frame a on, with others after them
  within : (a n k : ℕ) (after : List Pulse) → k < n
      → take 100 (drop (100 * k) (generated a n ++ after)) ≡ frame_pulses f start (a + k) (es (a + k))
  within a zero k after less = absurd (omega arith)
  within a (suc n) zero after less =
      let first = frame_pulses f start a (es a) in
      let same : a ≡ a + 0 = omega arith in
      let none : 100 * 0 ≡ 0 = omega arith in
      ap (λ d. take 100 (drop d (generated a (suc n) ++ after))) none
      ∙ ap (take 100) (append_assoc first (generated (a + 1) n) after)
      ∙ ap (λ m. take m (first ++ (generated (a + 1) n ++ after))) (sym (frame_many f start a (es a)))
      ∙ take-append_seam first (generated (a + 1) n ++ after)
      ∙ ap (λ k. frame_pulses f start k (es k)) same
  within a (suc n) (suc k) after less =
      let first = frame_pulses f start a (es a) in
      let rest = generated (a + 1) n ++ after in
      let up : a + 1 + k ≡ a + suc k = omega arith in
      let behind : 100 * suc k ≡ length first + 100 * k = omega (arith, frame_many f start a (es a)) in
      ap (λ d. take 100 (drop d (generated a (suc n) ++ after))) behind
      ∙ ap (λ ps. take 100 (drop (length first + 100 * k) ps)) (append_assoc first (generated (a + 1) n) after)
      ∙ ap (take 100) (drop-append-add first rest (100 * k))
      ∙ within (a + 1) n k after (omega arith)
      ∙ ap (λ k. frame_pulses f start k (es k)) up

  module _ (n : ℕ) (before after : List Pulse) where
    abbrev all : List Pulse
    all = before ++ (generated 0 n ++ after)

    -- the frame at its place
    placed : (k : ℕ) → k < n → frame_at all (length before + 100 * k) ≡ frame_pulses f start k (es k)
    placed k less =
        ap (take 100) (drop-append-add before (generated 0 n ++ after) (100 * k))
        ∙ within 0 n k after less ∙ ap (λ k. frame_pulses f start k (es k)) (omega arith)

    -- each of its pulses
    pulse_at : (k e i : ℕ) → k < n → e < 100 → i ≡ length before + 100 * k + e
        → slice_get all i ≡ Some (element_pulse f start k (es k) e)
    pulse_at k e i less few at =
        sym (slice_get-part 100 (length before + 100 * k) all e i few at)
        ∙ ap (λ ps. slice_get ps e) (placed k less) ∙ element_at f start k (es k) e few

    -- a frame after a position identifier, in step, is found, with what it carries
    pub found : (k : ℕ) (p : Pulse) (g : Fields) → k < n → Tell f (es k) g → 1 ≤ length before + 100 * k
        → slice_get all (length before + 100 * k - 1) ≡ Some p → class_at f p ≡ Some Position
        → follows f p (element_pulse f start k (es k) 0) ≡ true
        → Contains (frames f all) (record { marker = length before + 100 * k; verdict = Read g Fine })
    found k p g less tell behind there class on =
        let at = length before + 100 * k in
        let r : Record = record { marker = at; verdict = Read g Fine } in
        let tells : TellsOfMarker f all r = record {
          before = p;
          marker = element_pulse f start k (es k) 0;
          not_first = behind;
          stands_before = there;
          stands = pulse_at k 0 at less (omega arith) (omega arith);
          is_one = first_marks f start k (es k) g tell p class on;
          verdict = sym (ap (verdict_of f) (placed k less) ∙ frame_reads f start k (es k) g tell);
        } in
        (frames_are_the_markers f all r).1 tells

    -- each frame after another one is
    pub found_next : (k : ℕ) (g h : Fields) → k + 1 < n → Tell f (es k) g → Tell f (es (k + 1)) h
        → Contains (frames f all) (record { marker = length before + 100 * (k + 1); verdict = Read h Fine })
    found_next k g h less told tell =
        let at = length before + 100 * (k + 1) in
        found (k + 1) (element_pulse f start k (es k) 99) h less tell (omega arith)
        (pulse_at k 99 (at - 1) (omega arith) (omega arith) (omega arith))
        (element_class f start k (es k) 99 ∙ ap Some told.last)
        (element_follows f start k (k + 1) (es k) (es (k + 1)) 99 0 (omega arith))

    -- a marker among the pulses, after the first one, is the first of its frame
    pub marker_first : (r : Record) (k e : ℕ) (g : Fields) → Tell f (es k) g → Contains (frames f all) r
        → r.marker ≡ length before + 100 * k + e → k < n → e < 100 → e ≡ 0
    marker_first r k zero g tell there at less within = refl
    marker_first r k (suc e) g tell there at less within =
        let tells = (frames_are_the_markers f all r).0 there in
        let here : Some tells.marker ≡ Some (element_pulse f start k (es k) (suc e)) =
        sym tells.stands ∙ pulse_at k (suc e) r.marker less within at in
        let before : Some tells.before ≡ Some (element_pulse f start k (es k) (suc e - 1)) =
        sym tells.stands_before ∙ pulse_at k (suc e - 1) (r.marker - 1) less (omega arith) (omega arith) in
        let this : tells.marker ≡ element_pulse f start k (es k) (suc e) = cc in
        let last : tells.before ≡ element_pulse f start k (es k) (suc e - 1) = cc in
        let marks = (λ i. is_marker f (sym last i) (sym this i)) ∙ tells.is_one in
        absurd (none_marks f start k (es k) g tell (suc e) (omega arith) within marks)

    -- and its record says what the frame carries
    pub record_is : (r : Record) (k : ℕ) (g : Fields) → Tell f (es k) g → Contains (frames f all) r
        → r.marker ≡ length before + 100 * k → k < n
        → r ≡ record { marker = length before + 100 * k; verdict = Read g Fine }
    record_is r k g tell there at less =
        let tells = (frames_are_the_markers f all r).0 there in
        let verdict : r.verdict ≡ Read g Fine =
        tells.verdict ∙ ap (λ n. verdict_of f (frame_at all n)) at
        ∙ ap (verdict_of f) (placed k less) ∙ frame_reads f start k (es k) g tell in
        λ i. record { marker = at i; verdict = verdict i }
