-- The records of a track by their places, and which of them a pulse belongs to.
use Rattle.std.proofs.Common.{◌≡◌, ℕ, ◌+◌, ◌<◌, ◌≤◌, List, length, slice_get, Some, sym, ap, ◌∙◌, inl, inr, subst}
use Rattle.std.proofs.Common.{arith}
use Rattle.std.proofs.lemmas.{Bool.cases_lt, Bool.cases_order, Option.get_or_from_slice_get, Option.same_Some, Option.slice_get_within}
use Rattle.irig_codes.specs.{Format.FormatView, declared.fields.Fields.Fields, declared.note.Note.TheVariants.Fine}
use Rattle.irig_recording.specs.declared.pulse.Pulse.{Pulse}
use Rattle.irig_index.specs.declared.record.Verdict.TheVariants.{Read}
use Rattle.irig_index.specs.{declared.record.Record.Record, Frames.frame_at, Frames.frames, Laws.TellsOfMarker, Verdict.verdict_of}
use Rattle.irig_index.proofs.MarkerLaws.{frames_are_the_markers, markers_rise}
use Rattle.irig_times.specs.{Starts.AreFrames, Starts.IsElement, FrameLooks.PartedAt, FrameLooks.MarkersRise, Times.timed}
use Rattle.irig_times.proofs.SoundFrames.{none-within, timed-read}

module _ (f : FormatView) (ps : List Pulse) where
  -- the records rise
  pub frames-rise : MarkersRise (frames f ps)
  frames-rise i j r s here there lt =
      let first = get_or_from_slice_get (frames f ps) i r r here in
      let second = get_or_from_slice_get (frames f ps) j s r there in
      let rise = markers_rise f ps i j r lt (slice_get_within (frames f ps) j s there) in
      omega (arith, rise, ap (λ (z : Record). z.marker) first, ap (λ (z : Record). z.marker) second)

  -- each is of a marker
  pub frame-tells : (k : ℕ) (r : Record) → slice_get (frames f ps) k ≡ Some r → TellsOfMarker f ps r
  frame-tells k r here =
      (frames_are_the_markers f ps r).0 (k, slice_get_within (frames f ps) k r here, get_or_from_slice_get (frames f ps) k r r here)

  -- a frame with a time is read
  pub frame-reads : (k : ℕ) (r : Record) (g : Fields) → slice_get (frames f ps) k ≡ Some r → timed f r.verdict ≡ Some g
      → verdict_of f (frame_at ps r.marker) ≡ Read g Fine
  frame-reads k r g here tells = sym (frame-tells k r here).verdict ∙ timed-read f r.verdict g tells

  -- the next marker after a frame with a time is not within it
  pub frames-apart : (i j : ℕ) (r s : Record) (g : Fields) → slice_get (frames f ps) i ≡ Some r → slice_get (frames f ps) j ≡ Some s
      → timed f r.verdict ≡ Some g → r.marker < s.marker → r.marker + 99 < s.marker
  frames-apart i j r s g here there tells lt = elim (cases_lt (r.marker + 99) s.marker) [
    | inl far ↦ far
    | inr near ↦ absurd (none-within f ps r.marker g Fine (frame-reads i r g here tells) s (frame-tells j s there) lt near)
  ]

module _ (rs : List Record) (number m : ℕ) (one : Record) (rise : MarkersRise rs) (here : slice_get rs m ≡ Some one) where
  -- up to a record of a marker up to a number, all are
  pub up_to_here : one.marker ≤ number → (k : ℕ) (r : Record) → slice_get rs k ≡ Some r → k < m + 1 → r.marker ≤ number
  up_to_here le k r there lt = elim (cases_lt k m) [
    | inl less ↦ omega (arith, rise k m r one there here less)
    | inr last ↦ let place : k ≡ m = omega arith in
        let same : r ≡ one = same_Some r one (sym there ∙ (ap (slice_get rs) place ∙ here)) in
        omega (arith, ap (λ (z : Record). z.marker) same)
  ]

  -- from a record of a later marker on, all are
  pub after_here : number < one.marker → (k : ℕ) (r : Record) → slice_get rs k ≡ Some r → m ≤ k → number < r.marker
  after_here lt k r there le = elim (cases_lt m k) [
    | inl more ↦ omega (arith, rise m k one r here there more)
    | inr first ↦ let place : k ≡ m = omega arith in
        let same : r ≡ one = same_Some r one (sym there ∙ (ap (slice_get rs) place ∙ here)) in
        omega (arith, ap (λ (z : Record). z.marker) same)
  ]

-- the same of records that are the frames of a track
pub records-rise : (f : FormatView) (rs : List Record) → AreFrames f rs → MarkersRise rs
records-rise f rs are = subst MarkersRise (sym are.are) (frames-rise f are.pulses)

module _ (f : FormatView) (rs : List Record) (are : AreFrames f rs) where
  -- a frame that begins with the next pulse has the next record
  pub begins-next : (number count : ℕ) (g : Fields) (r : Record) → PartedAt rs number count → slice_get rs count ≡ Some r
      → IsElement f rs (number + 1) 0 g → (r.marker ≡ number + 1) × (timed f r.verdict ≡ Some g)
  begins-next number count g r parted here is = elim (cases_order is.at count) [
    | inl same ↦
        let one : is.one ≡ r = same_Some is.one r (sym is.there ∙ (ap (slice_get rs) same ∙ here)) in
        let place : is.one.marker ≡ number + 1 = omega (arith, is.place) in
        subst (λ (z : Record). (z.marker ≡ number + 1) × (timed f z.verdict ≡ Some g)) one (place, is.tells)
    | inr other ↦ elim other [
      | inl lt ↦
          let up = parted.before is.at is.one is.there lt in
          absurd (omega (arith, up, is.place))
      | inr gt ↦
          let rise = records-rise f rs are count is.at r is.one here is.there gt in
          let after = parted.after count r here (omega arith) in
          absurd (omega (arith, after, rise, is.place))
    ]
  ]

  -- there is none without a next record
  pub begins-none : (number count : ℕ) (g : Fields) → PartedAt rs number count → length rs ≤ count → IsElement f rs (number + 1) 0 g → ⊥
  begins-none number count g parted past is =
      let within = slice_get_within rs is.at is.one is.there in
      let up = parted.before is.at is.one is.there (omega arith) in
      omega (arith, up, is.place)

-- up to the end of a frame with a time there are its marker and those before it
pub parted-end : (f : FormatView) (ps : List Pulse) (k : ℕ) (r : Record) (g : Fields) → slice_get (frames f ps) k ≡ Some r → timed f r.verdict ≡ Some g
    → PartedAt (frames f ps) (r.marker + 99) (k + 1)
parted-end f ps k r g here tells = record {
  before = λ j s there lt. omega (arith, up_to_here (frames f ps) r.marker k r (frames-rise f ps) here (omega arith) j s there lt);
  after = λ j s there le.
      let rise = frames-rise f ps k j r s here there (omega (arith, le)) in
      frames-apart f ps k j r s g here there tells rise;
}
