-- Each edit can be reversed by one of its kind.
use Rattle.std.proofs.Common.{◌≡◌, ℕ, suc, zero, ℤ, pos, negsuc, ◌+◌, ◌-◌, ◌<◌, ◌≤◌, ◌==◌, Bool, true, false, cond, not, ◌||◌, List, [], ◌∷◌, ◌++◌, length}
use Rattle.std.proofs.Common.{take, drop, slice_get, Some, refl, sym, ap, ◌∙◌, subst, arith}
use Rattle.std.proofs.lemmas.List.{length-take-le, length-map, take-append-drop}
use lib.IntN.{neg_ℤ}
use Rattle.std.proofs.Math.Seq.{take-append_seam, drop-append_seam, drop-append-add}
use Rattle.irig_recording.specs.{Recording.RisesFrom, Recording.UpTo, Recording.IsRecording, declared.pulse.Pulse.Pulse}
use Rattle.irig_track.specs.Shifts.{moved_pulse, moved, ahead, back, count_to, shifted, StaysFromZero, CanShift}
use Rattle.irig_track.specs.{Edges.edges_of, Edges.pulse, Edges.has, Edges.inverted, Splices.spliced, Splices.piece, Splices.CanSplice, Toggles.toggled}
use Rattle.irig_track.specs.{Toggles.CanToggle, Track.IsTrack, Free.following, Free.first_or}
use Rattle.irig_track.proofs.{Allowed.shift_stands, Places.rise_within, Carried.length-spliced, Carried.length-piece, Laws.parts, Laws.has-toggled}
use Rattle.irig_track.proofs.{Recordings.recording_of, RisingLists.RisesFrom-flipped, Sets.only_list}
use Rattle.irig_recording.proofs.PulseEdges.{edges_of-append}

-- what was inserted is where it was inserted
pub piece-spliced : (at count : ℕ) (put ps : List Pulse) → at ≤ length ps → piece at (length put) (spliced at count put ps) ≡ put
piece-spliced at count put ps le =
    let long : length (take at ps) ≡ at = length-take-le at ps le in
    ap (take (length put)) (ap (λ k. drop k (spliced at count put ps)) (sym long) ∙ drop-append_seam (take at ps) (put ++ drop (at + count) ps))
    ∙ take-append_seam put (drop (at + count) ps)

-- a splice of what was taken reverses a splice
pub spliced-spliced : (at count : ℕ) (put ps : List Pulse) → at ≤ length ps → spliced at (length put) (piece at count ps) (spliced at count put ps) ≡ ps
spliced-spliced at count put ps le =
    let long : length (take at ps) ≡ at = length-take-le at ps le in
    let xs = take at ps in let zs = drop (at + count) ps in
    (λ j. take (sym long j) (xs ++ (put ++ zs)) ++ (piece at count ps ++ drop (sym long j + length put) (xs ++ (put ++ zs))))
    ∙ (λ j. take-append_seam xs (put ++ zs) j ++ (piece at count ps ++ (drop-append-add xs (put ++ zs) (length put) ∙ drop-append_seam put zs) j))
    ∙ parts at count ps

pub can_splice_back : (micros at count : ℕ) (put ps : List Pulse) → IsTrack micros ps → at + count ≤ length ps
    → CanSplice micros at (length put) (piece at count ps) (spliced at count put ps)
can_splice_back micros at count put ps h le = record {
  there = omega (arith, length-spliced ps put at count le);
  track = subst (IsTrack micros) (sym (spliced-spliced at count put ps (omega arith))) h;
}

not_twice : (w v : Bool) → cond w (not (cond w (not v) v)) (cond w (not v) v) ≡ v
not_twice true true = refl
not_twice true false = refl
not_twice false v = refl

-- a toggle reverses itself
pub toggled-toggled : (a b : ℕ) (xs : List ℕ) → a < b → RisesFrom 0 xs → toggled a b (toggled a b xs) ≡ xs
toggled-toggled a b xs lt h =
    let once : RisesFrom 0 (toggled a b xs) = RisesFrom-flipped 0 b _ (omega arith) (RisesFrom-flipped 0 a _ (omega arith) h) in
    let twice : RisesFrom 0 (toggled a b (toggled a b xs)) = RisesFrom-flipped 0 b _ (omega arith) (RisesFrom-flipped 0 a _ (omega arith) once) in
    only_list 0 (toggled a b (toggled a b xs)) xs twice h
    (λ t. has-toggled t a b (toggled a b xs) lt once ∙ ap (inverted a b t) (has-toggled t a b xs lt h) ∙ not_twice ((a == t) || (b == t)) (has t xs))

pub can_toggle_back : (micros a b : ℕ) (old new : List Pulse) → IsTrack micros old → CanToggle micros a b old → edges_of new ≡ toggled a b (edges_of old)
    → CanToggle micros a b new
can_toggle_back micros a b old new h can e = record {
  order = can.order;
  within = can.within;
  track = subst (IsRecording micros) (sym (ap (toggled a b) e ∙ toggled-toggled a b (edges_of old) can.order h.rises)) (recording_of micros old h);
}

-- two distances that cancel each other
pub record Opposite (d e : ℤ) : Type 0 where
  pub on : ahead e ≡ back d
  pub off : back e ≡ ahead d

pub Opposite-neg : (d : ℤ) → Opposite d (neg_ℤ d)
Opposite-neg (pos zero) = record { on = refl; off = refl }
Opposite-neg (pos (suc n)) = record { on = refl; off = refl }
Opposite-neg (negsuc n) = record { on = refl; off = refl }

moved-moved : (d e : ℤ) (ps : List Pulse) → Opposite d e → StaysFromZero d (edges_of ps) → moved e (moved d ps) ≡ ps
moved-moved d e [] o h = refl
moved-moved d e (p ∷ ps) o h =
    let on = o.on in let off = o.off in
    let rise : p.rise + ahead d - back d + ahead e - back e ≡ p.rise = omega (arith, h.0) in
    let fall : p.fall + ahead d - back d + ahead e - back e ≡ p.fall = omega (arith, h.1.0) in
    let rest : moved e (moved d ps) ≡ ps = moved-moved d e ps o h.1.1 in
    (λ t. pulse (rise t) (fall t) ∷ rest t)

StaysFromZero-moved : (d e : ℤ) (ps : List Pulse) → Opposite d e → StaysFromZero d (edges_of ps) → StaysFromZero e (edges_of (moved d ps))
StaysFromZero-moved d e [] o h = tt
StaysFromZero-moved d e (p ∷ ps) o h = let on = o.on in let off = o.off in (omega (arith, h.0), (omega (arith, h.1.0), StaysFromZero-moved d e ps o h.1.1))

-- a shift by the opposite distance reverses a shift
module _ (micros i j : ℕ) (d e : ℤ) (ps : List Pulse) (o : Opposite d e) (can : CanShift micros i j d ps) where
  there : i + count_to i j ≤ length ps
  there = omega (arith, can.order, can.there)

  long : length (moved d (piece i (count_to i j) ps)) ≡ count_to i j
  long = length-map (piece i (count_to i j) ps) (moved_pulse (ahead d) (back d)) ∙ length-piece ps i (count_to i j) there

  piece-shifted : piece i (count_to i j) (shifted i j d ps) ≡ moved d (piece i (count_to i j) ps)
  piece-shifted = ap (λ k. piece i k (shifted i j d ps)) (sym long) ∙ piece-spliced i (count_to i j) (moved d (piece i (count_to i j) ps)) ps
      (omega (arith, there))

  pub shifted-shifted : shifted i j e (shifted i j d ps) ≡ ps
  shifted-shifted =
      ap (λ qs. spliced i (count_to i j) (moved e qs) (shifted i j d ps)) piece-shifted
      ∙ ap (λ qs. spliced i (count_to i j) qs (shifted i j d ps)) (moved-moved d e (piece i (count_to i j) ps) o can.from_zero)
      ∙ ap (λ k. spliced i k (piece i (count_to i j) ps) (shifted i j d ps)) (sym long)
      ∙ spliced-spliced i (count_to i j) (moved d (piece i (count_to i j) ps)) ps (omega (arith, there))

  pub can_shift_back : IsTrack micros ps → CanShift micros i j e (shifted i j d ps)
  can_shift_back old = record {
    order = can.order;
    there = omega (arith, can.there, long, length-spliced ps (moved d (piece i (count_to i j) ps)) i (count_to i j) there);
    from_zero = subst (λ qs. StaysFromZero e (edges_of qs)) (sym piece-shifted) (StaysFromZero-moved d e (piece i (count_to i j) ps) o can.from_zero);
    track = subst (IsTrack micros) (sym shifted-shifted) old;
  }

pulse_at : (ps : List Pulse) (i : ℕ) → i < length ps → (p : Pulse) × (slice_get ps i ≡ Some p)
pulse_at [] i lt = absurd (omega arith)
pulse_at (p ∷ ps) zero lt = (p, refl)
pulse_at (p ∷ ps) (suc i) lt = pulse_at ps i (omega arith)

first_or-within : (top : ℕ) (xs ys : List ℕ) → UpTo top (xs ++ ys) → first_or (top + 1) ys ≤ top + 1
first_or-within top [] [] h = omega arith
first_or-within top [] (y ∷ ys) h = omega (arith, h.0)
first_or-within top (x ∷ xs) ys h = first_or-within top xs ys h.1

within_length : (d : ℤ) (start high rise fall micros : ℕ) → start + back d ≤ rise + ahead d → fall + ahead d < high + back d → high ≤ micros + 1
    → rise ≤ micros → (ahead d ≤ micros) × (back d ≤ micros)
within_length (pos n) start high rise fall micros early late le within = (omega arith, omega arith)
within_length (negsuc n) start high rise fall micros early late le within = (omega arith, omega arith)

-- no shift goes further than the track is long, so its opposite is a distance too
pub shift_within : (micros i j : ℕ) (d : ℤ) (ps : List Pulse) → IsTrack micros ps → CanShift micros i j d ps → (ahead d ≤ micros) × (back d ≤ micros)
shift_within micros i j d ps h can =
    let first = pulse_at ps i (omega (arith, can.order, can.there)) in let last = pulse_at ps j can.there in
    let high = first_or (micros + 1) (edges_of (drop (j + 1) ps)) in let start = following 0 (edges_of (take i ps)) in
    let both = shift_stands i j first.0 last.0 ps can.order first.1 last.1 micros start high d can.there h refl refl can in
    let whole : UpTo micros (edges_of (take (j + 1) ps) ++ edges_of (drop (j + 1) ps)) =
    subst (UpTo micros) (sym (ap edges_of (take-append-drop (j + 1) ps)) ∙ edges_of-append (take (j + 1) ps) (drop (j + 1) ps)) h.within in
    within_length d start high first.0.rise last.0.fall micros both.0 both.1
    (first_or-within micros (edges_of (take (j + 1) ps)) (edges_of (drop (j + 1) ps)) whole) (rise_within micros i first.0 ps h.within first.1)
