-- No time is as late as 2^61 picoseconds, and each pulse has risen by then.
use Rattle.std.proofs.Common.{◌≡◌, ℕ, ◌/◌, ◌^◌, ◌<◌, ◌≤◌, Bool, List, [], ◌∷◌, length, inl, inr, arith}
use Rattle.std.proofs.lemmas.{Bool.cases_lt, Option.slice_get-get_or}
use Rattle.irig_codes.specs.Format.{FormatView}
use Rattle.irig_recording.specs.declared.pulse.Pulse.{Pulse}
use Rattle.irig_track.specs.Track.{IsLongTrack}
use Rattle.irig_track.specs.Splices.{risen_by}
use Rattle.irig_track.proofs.{Places.rise_within, Searches.risen_above, Searches.risen_by-le}
use Rattle.irig_times.specs.declared.time.Time.{Time}
use Rattle.irig_timed.specs.Moments.{IsTimed}

pub none-late : (f : FormatView) (alone : Bool) (century micros : ℕ) (ps : List Pulse) → IsLongTrack micros ps → (n : ℕ) (x : Time)
    → IsTimed f alone century ps 1000000 n x → n < 2 ^ 61
none-late f alone century micros ps track n x (bound, h) =
    let later : n / 1000000 < h.next.rise = elim (cases_lt (n / 1000000) h.next.rise) [
      | inl before ↦ before
      | inr le ↦ absurd (omega (arith, risen_above (n / 1000000) 0 h.to.number h.next ps track.rises h.stands_next le, h.around.next.0))
    ] in
    omega (arith, later, rise_within micros h.to.number h.next ps track.within h.stands_next, track.short)

pub all-risen : (micros t : ℕ) (ps : List Pulse) → IsLongTrack micros ps → 2 ^ 40 ≤ t → risen_by t ps ≡ length ps
all-risen micros t [] track late = omega (arith, risen_by-le t [])
all-risen micros t (p ∷ ps) track late =
    let last = slice_get-get_or (p ∷ ps) (length ps) p (omega arith) in
    let low = rise_within micros (length ps) _ (p ∷ ps) track.within last in
    omega (arith, risen_by-le t (p ∷ ps), risen_above t 0 (length ps) _ (p ∷ ps) track.rises last (omega (arith, low, track.short, late)))
