-- How many frames an edit brings at most: those of the pulses that came, as if they stood alone, and one on either side of them.
use Rattle.std.proofs.Common.{◌≡◌, ℕ, ℤ, ◌+◌, ◌-◌, ◌≤◌, ◌&&◌, Bool, true, false, cond, List, [], ◌∷◌, ◌++◌, length, map, take, drop, refl, ap, sym, ◌∙◌, arith}
use Rattle.std.proofs.Common.{length-append, slice_get, Some}
use Rattle.std.proofs.lemmas.List.{length-map}
use Rattle.irig_codes.specs.{Format.FormatView, Width.class_of, Width.is_in_step}
use Rattle.irig_recording.specs.declared.pulse.Pulse.{Pulse}
use Rattle.irig_track.specs.{Edges.edges_of, Shifts.StaysFromZero, Shifts.ahead, Shifts.back, Shifts.moved as moved_pulses, Shifts.moved_pulse}
use Rattle.irig_track.proofs.{Carried.length-piece, Laws.parts}
use Rattle.irig_index.specs.Frames.{frame_at, frames, record_after, records_in}
use Rattle.irig_index.specs.{declared.record.Record.Record, Index.WereFrames, Laws.moved, Marker.is_marker, Marker.is_position, Verdict.verdict_of}
use Rattle.irig_index.proofs.FrameLemmas.{frames-next, record_after-pulses, records_in-next, records_in-none}
use Rattle.irig_index.proofs.{MarkerBounds.length-records_in, Window.frames_parted}

-- how many pulses are markers, by the pulse before each
abbrev markers : FormatView → List Pulse → ℕ
markers f [] = 0
markers f (p ∷ []) = 0
markers f (p ∷ q ∷ ps) = cond (is_marker f p q) 1 0 + markers f (q ∷ ps)

length-one : (b : Bool) (r : Record) → length (cond b (r ∷ []) []) ≡ cond b 1 0
length-one true r = refl
length-one false r = refl

cond-le : (b : Bool) → cond b 1 0 ≤ 1
cond-le true = omega arith
cond-le false = omega arith

-- one place more has a record if there is a marker after it
pub length-next : (f : FormatView) (ps : List Pulse) (k : ℕ) (p q : Pulse) → slice_get ps k ≡ Some p → slice_get ps (k + 1) ≡ Some q
    → length (records_in f ps 0 (k + 1)) ≡ length (records_in f ps 0 k) + cond (is_marker f p q) 1 0
length-next f ps k p q here next =
    omega (
      arith,
      ap length (frames-next f ps k),
      length-append (records_in f ps 0 k) (record_after f ps k),
      ap length (record_after-pulses f ps k p q here next),
      length-one (is_marker f p q) (record { marker = k + 1; verdict = verdict_of f (frame_at ps (k + 1)) }),
    )

module _ (f : FormatView) where
  -- the frames of pulses and of one more before them
  frames_from : (p : Pulse) (ps : List Pulse) → length (frames f (p ∷ ps)) ≡ length (record_after f (p ∷ ps) 0) + length (frames f ps)
  frames_from p ps =
      let qs = p ∷ ps in
      omega (
        arith,
        ap length (frames_parted f [] (p ∷ []) ps 0 (omega arith)),
        ap length (records_in-none f qs 0),
        ap length (records_in-next f qs 0 0),
        length-append (records_in f qs 0 0) (record_after f qs 0),
        length-append (records_in f qs 0 0) (records_in f qs 0 1 ++ map (moved 1) (frames f ps)),
        length-append (records_in f qs 0 1) (map (moved 1) (frames f ps)),
        length-map (frames f ps) (moved 1),
      )

  -- as many as there are frames
  markers-frames : (ps : List Pulse) → length (frames f ps) ≡ markers f ps
  markers-frames [] = ap length (records_in-none f [] 0)
  markers-frames (p ∷ []) = ap length (records_in-none f (p ∷ []) 0)
  markers-frames (p ∷ q ∷ ps) =
      omega (
        arith,
        frames_from p (q ∷ ps),
        length-one (is_marker f p q) (record { marker = 1; verdict = verdict_of f (take 100 (q ∷ ps)) }),
        markers-frames (q ∷ ps),
      )

  markers-append_le : (a b : List Pulse) → markers f (a ++ b) ≤ markers f a + markers f b + 1
  markers-append_le [] b = omega arith
  markers-append_le (p ∷ []) [] = omega arith
  markers-append_le (p ∷ []) (q ∷ b) = omega (arith, cond-le (is_marker f p q))
  markers-append_le (p ∷ q ∷ a) b = omega (arith, markers-append_le (q ∷ a) b)

  append_le-markers : (a b : List Pulse) → markers f a + markers f b ≤ markers f (a ++ b)
  append_le-markers [] b = omega arith
  append_le-markers (p ∷ []) [] = omega arith
  append_le-markers (p ∷ []) (q ∷ b) = omega arith
  append_le-markers (p ∷ q ∷ a) b = omega (arith, append_le-markers (q ∷ a) b)

  -- those before the edit stay, and those after it; the first pulse that came may be one, and the first after it
  pub frames_few : (a x y b : List Pulse)
      → length (frames f (a ++ (y ++ b))) + length (frames f x) ≤ length (frames f (a ++ (x ++ b))) + length (frames f y) + 2
  frames_few a x y b =
      omega (
        arith,
        markers-frames (a ++ (y ++ b)),
        markers-frames (a ++ (x ++ b)),
        markers-frames x,
        markers-frames y,
        markers-append_le a (y ++ b),
        markers-append_le y b,
        append_le-markers a (x ++ b),
        append_le-markers x b,
      )

  is_marker-moved : (d : ℕ) (e : ℕ) (p q : Pulse) → e ≤ p.rise + d → e ≤ p.fall + d → e ≤ q.rise + d → e ≤ q.fall + d
      → is_marker f (moved_pulse d e p) (moved_pulse d e q) ≡ is_marker f p q
  is_marker-moved d e p q a b c g =
      let before : p.fall + d - e - (p.rise + d - e) ≡ p.fall - p.rise = omega arith in
      let width : q.fall + d - e - (q.rise + d - e) ≡ q.fall - q.rise = omega arith in
      let step : q.rise + d - e - (p.rise + d - e) ≡ q.rise - p.rise = omega arith in
      λ i. is_position (class_of f (before i)) && (is_position (class_of f (width i)) && is_in_step f (step i))

  markers-moved : (d : ℤ) (ps : List Pulse) → StaysFromZero d (edges_of ps) → markers f (moved_pulses d ps) ≡ markers f ps
  markers-moved d [] stays = refl
  markers-moved d (p ∷ []) stays = refl
  markers-moved d (p ∷ q ∷ ps) stays =
      let same = is_marker-moved (ahead d) (back d) p q stays.0 stays.1.0 stays.1.1.0 stays.1.1.1.0 in
      omega (arith, ap {B = ℕ} (λ b. cond b 1 0) same, markers-moved d (q ∷ ps) stays.1.1)

  -- pulses that move together have as many frames
  pub frames_moved : (d : ℤ) (ps : List Pulse) → StaysFromZero d (edges_of ps) → length (frames f (moved_pulses d ps)) ≡ length (frames f ps)
  frames_moved d ps stays = markers-frames (moved_pulses d ps) ∙ (markers-moved d ps stays ∙ sym (markers-frames ps))

-- an edited track has at most as many more as pulses came, and two
pub frames_few_after : (f : FormatView) (at gone come micros : ℕ) (records : List Record) (ps : List Pulse)
    → WereFrames f at gone come records micros ps → length (frames f ps) ≤ length records + (come + 2)
frames_few_after f at gone come micros records ps were =
    let a = take at ps in
    let y = take come (drop at ps) in
    let x = take gone (drop at were.former) in
    let b = drop (at + come) ps in
    let y_long : length y ≡ come = length-piece ps at come were.span.came in
    let whole : ps ≡ a ++ (y ++ b) = sym (parts at come ps) in
    let former : were.former ≡ a ++ (x ++ b) =
    sym (parts at gone were.former) ∙ ((λ i. sym were.span.before i ++ (x ++ sym were.span.after i))) in
    omega (
      arith,
      ap (λ qs. length (frames f qs)) whole,
      ap length were.frames,
      ap (λ qs. length (frames f qs)) former,
      length-records_in f y 0 (length y - 1),
      y_long,
      frames_few f a x y b,
    )
