-- The records of a track by their places.
use Rattle.std.proofs.Common.{◌≡◌, ℕ, ◌<◌, List, slice_get, Some, ap, arith}
use Rattle.std.proofs.lemmas.Option.{get_or_from_slice_get, slice_get_within}
use Rattle.irig_codes.specs.Format.{FormatView}
use Rattle.irig_recording.specs.declared.pulse.Pulse.{Pulse}
use Rattle.irig_index.specs.{declared.record.Record.Record, Frames.frames, Laws.TellsOfMarker}
use Rattle.irig_index.proofs.MarkerLaws.{frames_are_the_markers, markers_rise}

-- the markers rise
abbrev pub MarkersRise : List Record → Type 0
MarkersRise rs = (i j : ℕ) (r s : Record) → slice_get rs i ≡ Some r → slice_get rs j ≡ Some s → i < j → r.marker < s.marker

module _ (f : FormatView) (ps : List Pulse) where
  -- the records rise
  pub frames-rise : MarkersRise (frames f ps)
  frames-rise i j r s here there lt =
      let first = get_or_from_slice_get (frames f ps) i r r here in
      let second = get_or_from_slice_get (frames f ps) j s r there in
      let rise = markers_rise f ps i j r lt (slice_get_within (frames f ps) j s there) in
      omega (arith, rise, ap (λ (z : Record). z.marker) first, ap (λ (z : Record). z.marker) second)

  -- each is of a marker
  pub frame-tells : (k : ℕ) (r : Record) → slice_get (frames f ps) k ≡ Some r → TellsOfMarker f ps r
  frame-tells k r here =
      (frames_are_the_markers f ps r).0 (k, slice_get_within (frames f ps) k r here, get_or_from_slice_get (frames f ps) k r r here)
