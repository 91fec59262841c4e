-- The frames that are believed are in order, and each has all its pulses and ends with its minute.
use Rattle.std.proofs.Common.{◌≡◌, ◌<◌, ◌≤◌, ◌+◌, ℕ, zero, suc, Bool, true, false, List, [], ◌∷◌, length, map, slice_get, Option, Some, None, arith, refl, sym, ap, ◌∙◌}
use Rattle.std.specs.Prelude.{◌==◌, ◌||◌}
use Rattle.std.proofs.lemmas.Bool.{cond_both}
use Rattle.std.proofs.lemmas.Option.{none-some, same_Some, slice_get_within}
use Rattle.irig_codes.specs.declared.note.Note.TheVariants.{Fine as NoteFine}
use Rattle.irig_codes.specs.declared.format.Kind.TheVariants.{A, B, E, G}
use Rattle.irig_codes.specs.{Format.FormatView, Format.frame_period_of, declared.fields.Fields.Fields, declared.format.Kind.Kind}
use Rattle.irig_recording.specs.declared.pulse.Pulse.{Pulse}
use Rattle.irig_index.specs.{Frames.frames, declared.record.Record.Record}
use Rattle.irig_times.specs.Times.{timed}
use Rattle.irig_times.proofs.Records.{frame-reads, frames-rise}
use Rattle.irig_times.proofs.SoundFrames.{element-stands, whole-minute}
use Rattle.irig_law.specs.{Believed.believed, Believed.believed_in, Believed.chain_after, Believed.kept, Believed.kept_from, Believed.with_frame}
use Rattle.irig_law.specs.{Chains.chains_of, Chains.fine_at, Chains.fine_frames, Chains.fine_in, Chains.with_fine, OfOne.is_right, Points.AreFrames}
use Rattle.irig_law.specs.declared.{fine.Fine.Fine, frame.Frame.Frame}

period-some : (k : Kind) → 0 < frame_period_of k
period-some A = omega arith
period-some B = omega arith
period-some E = omega arith
period-some G = omega arith

module _ (ps : List Pulse) where
  -- a frame has its pulses, from a place on
  pub record IsAt (from : ℕ) (x : Frame) : Type 0 where
    pub low : from ≤ x.marker
    pub inside : x.marker + 100 ≤ length ps
    pub minute : x.time.micros < 61000000

  abbrev Above : ℕ → List Frame → Type 0
  Above from [] = Unit {0}
  Above from (x ∷ xs) = IsAt from x × Above (x.marker + 1) xs

  abbrev AboveFine : ℕ → List Fine → Type 0
  AboveFine from [] = Unit {0}
  AboveFine from (x ∷ xs) = IsAt from x.frame × AboveFine (x.frame.marker + 1) xs

  lower : (from to : ℕ) → to ≤ from → (xs : List Frame) → Above from xs → Above to xs
  lower from to le [] h = tt
  lower from to le (x ∷ xs) h = (record { low = (let l = h.0.low in omega (arith, l, le)); inside = h.0.inside; minute = h.0.minute }, h.1)

  lower-fine : (from to : ℕ) → to ≤ from → (xs : List Fine) → AboveFine from xs → AboveFine to xs
  lower-fine from to le [] h = tt
  lower-fine from to le (x ∷ xs) h = (record { low = (let l = h.0.low in omega (arith, l, le)); inside = h.0.inside; minute = h.0.minute }, h.1)

  keep-above : (b : Bool) (from : ℕ) (x : Fine) (rest : List Frame) → IsAt from x.frame → Above (x.frame.marker + 1) rest → Above from (with_frame b x rest)
  keep-above true from x rest at above = (at, above)
  keep-above false from x rest at above = let l = at.low in lower (x.frame.marker + 1) from (omega (arith, l)) rest above

  module _ (f : FormatView) (century : ℕ) where
    kept-from-above : (right : ℕ → Bool) (from n : ℕ) (before : Fine) (xs : List Fine) → AboveFine from xs → Above from (kept_from f century right n before xs)
    kept-from-above right from n before [] h = tt
    kept-from-above right from n before (x ∷ xs) h =
        let m = chain_after f century n before x in
        keep-above (right m) from x (kept_from f century right m x xs) h.0 (kept-from-above right (x.frame.marker + 1) m x xs h.1)

    kept-above : (right : ℕ → Bool) (from : ℕ) (xs : List Fine) → AboveFine from xs → Above from (kept f century right xs)
    kept-above right from [] h = tt
    kept-above right from (x ∷ xs) h =
        keep-above (right 0) from x (kept_from f century right 0 x xs) h.0 (kept-from-above right (x.frame.marker + 1) 0 x xs h.1)

    all-above : (from : ℕ) (xs : List Fine) → AboveFine from xs → Above from (map (λ (x : Fine). x.frame) xs)
    all-above from [] h = tt
    all-above from (x ∷ xs) h = (h.0, all-above (x.frame.marker + 1) xs h.1)

    believed-above : (alone : Bool) (from : ℕ) (xs : List Fine) → AboveFine from xs → Above from (believed_in f alone century xs)
    believed-above alone from xs h = cond_both (alone || (length xs == 1)) (map (λ (x : Fine). x.frame) xs)
        (kept f century (is_right f century (chains_of f century xs)) xs) (Above from)
        (λ on. all-above from xs h) (λ off. kept-above (is_right f century (chains_of f century xs)) from xs h)

  -- what is so of frames one after another, is so by their places
  inside-of : (from : ℕ) (xs : List Frame) → Above from xs → (i : ℕ) (a : Frame) → slice_get xs i ≡ Some a
      → (a.marker + 100 ≤ length ps) × (a.time.micros < 61000000)
  inside-of from [] h i a at = absurd (none-some a at)
  inside-of from (x ∷ xs) h zero a at = (let same = same_Some x a at in
      let m = ap (λ (p : Frame). p.marker) same in
      let t = ap (λ (p : Frame). p.time.micros) same in
      let inside = h.0.inside in let minute = h.0.minute in (omega (arith, m, inside), omega (arith, t, minute)))
  inside-of from (x ∷ xs) h (suc i) a at = inside-of (x.marker + 1) xs h.1 i a at

  first-above : (from : ℕ) (xs : List Frame) (b : Frame) → Above from xs → slice_get xs 0 ≡ Some b → from ≤ b.marker
  first-above from [] b h at = absurd (none-some b at)
  first-above from (x ∷ xs) b h at = let m = ap (λ (p : Frame). p.marker) (same_Some x b at) in let l = h.0.low in omega (arith, m, l)

  in-turn : (from : ℕ) (xs : List Frame) → Above from xs → (i : ℕ) (a b : Frame) → slice_get xs i ≡ Some a → slice_get xs (suc i) ≡ Some b → a.marker < b.marker
  in-turn from [] h i a b at next = absurd (none-some a at)
  in-turn from (x ∷ xs) h zero a b at next =
      let m = ap (λ (p : Frame). p.marker) (same_Some x a at) in
      let l = first-above (x.marker + 1) xs b h.1 next in omega (arith, m, l)
  in-turn from (x ∷ xs) h (suc i) a b at next = in-turn (x.marker + 1) xs h.1 i a b at next

  pub are-frames : (xs : List Frame) → Above 0 xs → AreFrames ps xs
  are-frames xs h = record {
    inside = λ i a at. (inside-of 0 xs h i a at).0;
    minute = λ i a at. (inside-of 0 xs h i a at).1;
    order = λ i a b at next. in-turn 0 xs h i a b at (let e : suc i ≡ i + 1 = omega arith in ap (slice_get xs) e ∙ next);
  }

  -- the frames that read well
  module _ (f : FormatView) where
    abbrev AreFrom : List Record → ℕ → Type 0
    AreFrom rs base = (k : ℕ) → slice_get rs k ≡ slice_get (frames f ps) (base + k)

    is-at : (r : Record) (base from : ℕ) (g : Fields) → slice_get (frames f ps) base ≡ Some r → timed f r.verdict ≡ Some g → from ≤ r.marker
        → IsAt from (fine_at ps r.marker g).frame
    is-at r base from g here tells low =
        let it = element-stands f ps r.marker g NoteFine (frame-reads f ps base r g here tells) 99 (omega arith) (omega arith) in
        let within = slice_get_within ps (r.marker + 99) it.0 it.1 in
        let minute = whole-minute f r.verdict g tells in
        let some = period-some f.kind in
        record { low = low; inside = omega (arith, within); minute = omega (arith, minute, some) }

    by-fields : (o : Option Fields) (r : Record) (rest : List Fine) (base from : ℕ) → timed f r.verdict ≡ o → slice_get (frames f ps) base ≡ Some r
        → from ≤ r.marker → AboveFine (r.marker + 1) rest → AboveFine from (with_fine ps r.marker o rest)
    by-fields None r rest base from tells here low above = lower-fine (r.marker + 1) from (omega (arith, low)) rest above
    by-fields (Some g) r rest base from tells here low above = (is-at r base from g here tells low, above)

    fine-above : (rs : List Record) (base from : ℕ) → AreFrom rs base
        → ((k : ℕ) (r : Record) → slice_get (frames f ps) (base + k) ≡ Some r → from ≤ r.marker) → AboveFine from (fine_in f ps rs)
    fine-above [] base from are low = tt
    fine-above (r ∷ rs) base from are low =
        let e : base + 0 ≡ base = omega arith in
        let here : slice_get (frames f ps) base ≡ Some r = ap (slice_get (frames f ps)) (sym e) ∙ sym (are 0) in
        by-fields (timed f r.verdict) r (fine_in f ps rs) base from refl here (low 0 r (sym (are 0)))
        (fine-above rs (base + 1) (r.marker + 1) (next r rs base are)
        (λ k s there. (let rise = frames-rise f ps base (base + 1 + k) r s here there (omega arith) in omega (arith, rise))))
      where
        next : (r : Record) (rs : List Record) (base : ℕ) → AreFrom (r ∷ rs) base → AreFrom rs (base + 1)
        next r rs base are k = let e : base + suc k ≡ base + 1 + k = omega arith in are (suc k) ∙ ap (slice_get (frames f ps)) e

    pub believed-are : (alone : Bool) (century : ℕ) → AreFrames ps (believed f alone century ps)
    believed-are alone century = are-frames (believed f alone century ps) (believed-above f century alone 0 (fine_frames f ps)
        (fine-above (frames f ps) 0 0 (λ k. (let e : k ≡ 0 + k = omega arith in ap (slice_get (frames f ps)) e)) (λ k r here. omega arith)))
