-- A recording with its frames, by what its track and its index say.
use Rattle.std.proofs.Common.{◌≡◌, ℕ, zero, suc, ◌+◌, ◌-◌, ◌<◌, ◌≤◌, ◌^◌, List, [], ◌∷◌, length, slice_get, Option, Some, refl, sym, ap, ◌∙◌, subst, arith}
use Rattle.std.specs.Prelude.{option_map, unwrap_or}
use Rattle.std.proofs.lemmas.Option.{slice_get_within}
use Rattle.irig_codes.specs.Format.{FormatView}
use Rattle.irig_recording.specs.{Recording.RecordingView, Recording.RisesFrom, Recording.recording_view, declared.pulse.Pulse.Pulse}
use Rattle.irig_track.specs.Edges.{edges_of}
use Rattle.irig_index.specs.{Frames.frames, declared.record.Record.Record}
use Rattle.irig_index.proofs.MarkerBounds.{length-records_in}
use Rattle.irig_comments.proofs.Markers.{MarkersRise, frame-tells, frames-rise}
use Rattle.irig_difference.specs.Stretches.{pairs}
use Rattle.irig_comments.specs.Framed.{FramedView, FramesRise, IsFramed, framed, framed_view, rise_of, shown_as, shown_frames, shown_from}

-- the edges of pulses, two by two
pairs-edges_of : (ps : List Pulse) → pairs (edges_of ps) ≡ ps
pairs-edges_of [] = refl
pairs-edges_of (p ∷ ps) = ap (λ (l : List Pulse). p ∷ l) (pairs-edges_of ps)

-- a track of a recording, a copy of it, and its index
pub framed-is : (f : FormatView) (r copy : RecordingView) (micros : ℕ) (ps : List Pulse) (rs : List Record) → micros ≡ r.micros → edges_of ps ≡ r.edges
    → copy ≡ recording_view micros (edges_of ps) → rs ≡ frames f ps → framed_view copy ps f rs ≡ framed f r
framed-is f r copy micros ps rs long same copied are =
    let recording : copy ≡ r = copied ∙ (λ j. recording_view (long j) (same j)) in
    let pulses : ps ≡ pairs r.edges = sym (pairs-edges_of ps) ∙ ap pairs same in
    let records : rs ≡ frames f (pairs r.edges) = are ∙ ap (frames f) pulses in
    (λ j. framed_view (recording j) (pulses j) f (records j))

-- what is framed is so of its recording alone
pub framed-by : (x : FramedView) → IsFramed x → x ≡ framed x.format x.recording
framed-by x h =
    let pulses : x.pulses ≡ pairs x.recording.edges = sym (pairs-edges_of x.pulses) ∙ sym (ap pairs h.edges) in
    let records : x.records ≡ frames x.format (pairs x.recording.edges) = h.are ∙ ap (frames x.format) pulses in
    (λ j. framed_view x.recording (pulses j) x.format (records j))

length-shown_from : (number : ℕ) (ps : List Pulse) (rs : List Record) → length (shown_from number ps rs) ≡ length rs
length-shown_from number ps [] = refl
length-shown_from number ps (r ∷ rs) = ap suc (length-shown_from (suc number) ps rs)

-- there are as many frames as records
pub length-shown_frames : (x : FramedView) → length (shown_frames x) ≡ length x.records
length-shown_frames x = length-shown_from 1 x.pulses x.records

-- and they are few
pub few_records : (x : FramedView) → IsFramed x → length x.records ≤ 2 ^ 22
few_records x h =
    omega (arith, h.track.few, ap length h.are, length-records_in x.format x.pulses 0 (length x.pulses - 1))

-- the frame at a place of the list
get-shown_from : (number : ℕ) (ps : List Pulse) (rs : List Record) (k : ℕ)
    → slice_get (shown_from number ps rs) k ≡ option_map (shown_as (number + k) ps) (slice_get rs k)
get-shown_from number ps [] k = refl
get-shown_from number ps (r ∷ rs) zero = ap (λ n. Some (shown_as n ps r)) (omega arith)
get-shown_from number ps (r ∷ rs) (suc k) =
    get-shown_from (suc number) ps rs k ∙ ap (λ n. option_map (shown_as n ps) (slice_get rs k)) (omega arith)

-- the marker of a frame is a pulse
pub marker-within : (x : FramedView) (k : ℕ) (r : Record) → IsFramed x → slice_get x.records k ≡ Some r → r.marker < length x.pulses
marker-within x k r h here =
    let tells = frame-tells x.format x.pulses k r (ap (λ (l : List Record). slice_get l k) (sym h.are) ∙ here) in
    slice_get_within x.pulses r.marker tells.marker tells.stands

-- a frame as it is shown
pub shown-is : (x : FramedView) (k number : ℕ) (r : Record) (p : Pulse) → number ≡ k + 1 → slice_get x.records k ≡ Some r → slice_get x.pulses r.marker ≡ Some p
    → Some (record { number = number; rise = p.rise; verdict = r.verdict }) ≡ slice_get (shown_frames x) k
shown-is x k number r p place here there =
    sym
    (get-shown_from 1 x.pulses x.records k ∙ ap (option_map (shown_as (1 + k) x.pulses)) here
    ∙ ap (λ (q : Option Pulse). Some (record { number = 1 + k; rise = unwrap_or (option_map (λ z. z.rise) q) 0; verdict = r.verdict })) there
    ∙ ap (λ n. Some (record { number = n; rise = p.rise; verdict = r.verdict })) (omega (arith, place)))

-- pulses rise one after the other
rises_later : (low j : ℕ) (p : Pulse) (ps : List Pulse) → RisesFrom low (edges_of ps) → slice_get ps j ≡ Some p → low ≤ rise_of j ps
rises_later low j p [] h is = absurd (cc)
rises_later low zero p (q ∷ ps) h is = h.0
rises_later low (suc j) p (q ∷ ps) h is = omega (arith, h.0, h.1.0, rises_later (q.fall + 1) j p ps h.1.1 is)

rises_on : (low i j : ℕ) (p : Pulse) (ps : List Pulse) → RisesFrom low (edges_of ps) → i < j → slice_get ps j ≡ Some p → rise_of i ps < rise_of j ps
rises_on low i j p [] h lt is = absurd (cc)
rises_on low i zero p (q ∷ ps) h lt is = absurd (omega (arith, lt))
rises_on low zero (suc j) p (q ∷ ps) h lt is = omega (arith, h.1.0, rises_later (q.fall + 1) j p ps h.1.1 is)
rises_on low (suc i) (suc j) p (q ∷ ps) h lt is = rises_on (q.fall + 1) i j p ps h.1.1 (omega (arith, lt)) is

-- the markers are pulses
abbrev Stand : List Pulse → List Record → Type 0
Stand ps rs = (k : ℕ) (r : Record) → slice_get rs k ≡ Some r → (p : Pulse) × (slice_get ps r.marker ≡ Some p)

rise-shown_from : (number low : ℕ) (ps : List Pulse) (rs : List Record) → RisesFrom 0 (edges_of ps) → MarkersRise rs → Stand ps rs
    → ((r : Record) → slice_get rs 0 ≡ Some r → low ≤ rise_of r.marker ps) → FramesRise low (shown_from number ps rs)
rise-shown_from number low ps [] h m s first = tt
rise-shown_from number low ps (r ∷ rs) h m s first = (
  first r refl,
  rise-shown_from (suc number) (rise_of r.marker ps + 1) ps rs h (λ i j a b here there lt. m (suc i) (suc j) a b here there (omega (arith, lt)))
      (λ k a here. s (suc k) a here)
      (λ a here.
      let stands = s 1 a here in
      omega (arith, rises_on 0 r.marker a.marker stands.0 ps h (m 0 1 r a refl here (omega arith)) stands.1)),
)

-- the frames of a recording begin one after the other
pub frames_rise : (x : FramedView) → IsFramed x → FramesRise 0 (shown_frames x)
frames_rise x h =
    rise-shown_from 1 0 x.pulses x.records h.track.rises (subst MarkersRise (sym h.are) (frames-rise x.format x.pulses))
    (λ k r here. let tells = frame-tells x.format x.pulses k r (ap (λ (l : List Record). slice_get l k) (sym h.are) ∙ here) in (tells.marker, tells.stands))
    (λ r here. omega arith)
