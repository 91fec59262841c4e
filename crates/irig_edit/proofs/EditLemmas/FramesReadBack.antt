-- Frames that are made from a moment on are read back, and no other ones.
use Rattle.std.proofs.Common.{◌≡◌, ◌≤◌, ◌<◌, ◌+◌, ◌-◌, ◌*◌, ◌/◌, ◌%◌, ℕ, true, List, [], ◌∷◌, ◌++◌, length, slice_get, Some, refl, ap, subst, ◌∙◌, arith}
use Rattle.std.proofs.Common.{length-append}
use Rattle.std.specs.Prelude.{Contains}
use Rattle.irig_codes.specs.declared.width.Element.TheVariants.{Position}
use Rattle.irig_codes.specs.{declared.fields.Fields.Fields, declared.width.Element.Element, Format.FormatView, Width.is_in_step}
use Rattle.irig_index.specs.{declared.record.Record.Record, Frames.frames, Marker.class_at}
use Rattle.irig_moment.specs.{Generated.frame_fields, Moment.MomentView}
use Rattle.irig_recording.specs.declared.pulse.Pulse.{Pulse}
use Rattle.irig_edit.specs.Edits.ReadBack.{frame_read, MadeFramesReadBack, FirstFrameReadsBack, NoOtherFrameIsRead}
use Rattle.irig_edit.specs.Edits.Regenerated.{CanMake, frame_elements, frames_pulses, index_point}
use Rattle.irig_edit.proofs.EditLemmas.GeneratedFrames.{Tell, carried_tell}
use Rattle.irig_edit.proofs.EditLemmas.GeneratedFields.{frame_fine, frame_fits}
use Rattle.irig_edit.proofs.EditLemmas.FramesAmongPulses.{found, found_next, marker_first, record_is}

module _ (f : FormatView) (moment : MomentView) (start count control : ℕ)
    (can : CanMake f moment count control) where
  abbrev es : ℕ → List Element
  es = frame_elements f moment control

  abbrev g : ℕ → Fields
  g k = frame_fields f moment k control

  -- the elements of each frame carry its fields
  tell : (k : ℕ) → k < count → Tell f (es k) (g k)
  tell k less =
      let fits = frame_fits f moment k control can.is_moment can.starts can.narrow (omega (arith, can.few, less)) in
      carried_tell f (g k) fits (frame_fine f moment k control)

  module _ (before after : List Pulse) where
    abbrev all : List Pulse
    all = before ++ (frames_pulses f start count moment control ++ after)

    abbrev IsRead : ℕ → ℕ → Type 0
    IsRead place k = Contains (frames f all) (frame_read f moment control place k)

    later : (k : ℕ) → 1 ≤ k → k < count → IsRead (length before) k
    later k behind less =
        let same : k - 1 + 1 ≡ k = omega arith in
        let told = tell (k - 1) (omega arith) in
        let here = tell (k - 1 + 1) (omega arith) in
        subst (IsRead (length before)) same
        (found_next f start es count before after (k - 1) (g (k - 1)) (g (k - 1 + 1)) (omega arith) told here)

    other : (r : Record) → Contains (frames f all) r → length before < r.marker → r.marker < length before + 100 * count
        → (k : ℕ) × (1 ≤ k) × (k < count) × (r ≡ frame_read f moment control (length before) k)
    other r there behind within =
        let i = r.marker - length before in
        let k = i / 100 in
        let less : k < count = omega arith in
        let told = tell k less in
        let none = marker_first f start es count before after r k (i % 100) (g k) told there (omega arith) less (omega arith) in
        let same = record_is f start es count before after r k (g k) told there (omega (arith, none)) less in
        (k, omega (arith, none), less, same)

  seam : (xs ys : List Pulse) (p : Pulse) → slice_get ((xs ++ p ∷ []) ++ ys) (length xs) ≡ Some p
  seam [] ys p = refl
  seam (x ∷ xs) ys p = seam xs ys p

  -- after a pulse
  module _ (before after : List Pulse) (p : Pulse) where
    abbrev front : List Pulse
    front = before ++ p ∷ []

    first : 1 ≤ count → class_at f p ≡ Some Position → is_in_step f (start - p.rise) ≡ true
        → IsRead front after (length before + 1) 0
    first some class on =
        let long : length front ≡ length before + 1 = length-append before (p ∷ []) in
        let place : length front + 100 * 0 - 1 ≡ length before = omega (arith, long) in
        let rises : index_point f start 0 0 ≡ start = omega arith in
        let there = seam before (frames_pulses f start count moment control ++ after) p in
        subst (λ n. IsRead front after n 0) long
        (found f start es count front after 0 p (g 0) (omega arith) (tell 0 (omega arith)) (omega (arith, long))
        (ap (slice_get (all front after)) place ∙ there) class (ap (λ t. is_in_step f (t - p.rise)) rises ∙ on))

pub made_frames_read_back : MadeFramesReadBack
made_frames_read_back f moment start count control k before after can =
    later f moment start count control can before after k

pub first_frame_reads_back : FirstFrameReadsBack
first_frame_reads_back f moment start count control p before after can =
    first f moment start count control can before after p

pub no_other_frame_is_read : NoOtherFrameIsRead
no_other_frame_is_read f moment start count control before after r can =
    other f moment start count control can before after r
