-- Tracks and recordings: pulses on the one side, edges on the other.
use Rattle.std.proofs.Common.{◌≡◌, ℕ, ◌+◌, ◌^◌, ◌<◌, ◌≤◌, true, false, not, List, [], ◌∷◌, length, refl, sym, ap, ◌∙◌, subst, arith, inl, inr}
use Rattle.irig_recording.specs.{Recording.RisesFrom, Recording.IsLongRecording, Recording.IsRecording, Recording.is_even_long, declared.pulse.Pulse.Pulse}
use Rattle.std.proofs.Math.Bool.{not-not}
use Rattle.irig_track.specs.{Edges.edges_of, Edges.has, Edges.is_edge, Toggles.flipped, Toggles.toggled, Toggles.CanToggle, Track.IsLongTrack, Track.IsTrack}
use Rattle.irig_recording.proofs.PulseEdges.{length-edges_of, even-edges_of}
use Rattle.irig_track.proofs.RisingLists.{three, flip_low, flip_same, flip_high, has_here, has_there, has_none, has-flipped_other, RisesFrom-flipped}
use Rattle.irig_track.proofs.RisingLists.{UpTo-flipped}

-- the edges of a track are a recording
pub recording_of : (micros : ℕ) (ps : List Pulse) → IsTrack micros ps → IsRecording micros (edges_of ps)
recording_of micros ps h = record {
  short = h.short;
  few = omega (arith, h.few, length-edges_of ps);
  even = even-edges_of ps;
  rises = h.rises;
  within = h.within;
}

-- pulses whose edges are a recording are a track
pub track_of : (micros : ℕ) (ps : List Pulse) → IsRecording micros (edges_of ps) → IsTrack micros ps
track_of micros ps h = record {
  short = h.short;
  few = omega (arith, h.few, length-edges_of ps);
  rises = h.rises;
  within = h.within;
}

-- the same of long ones
pub long_track_of : (micros : ℕ) (ps : List Pulse) → IsLongRecording micros (edges_of ps) → IsLongTrack micros ps
long_track_of micros ps h = record {
  short = h.short;
  few = omega (arith, h.few, length-edges_of ps);
  rises = h.rises;
  within = h.within;
}

-- a track is a long one
pub long_track : (micros : ℕ) (ps : List Pulse) → IsTrack micros ps → IsLongTrack micros ps
long_track micros ps h = record {
  short = h.short;
  few = omega (arith, h.few);
  rises = h.rises;
  within = h.within;
}

-- a toggle that can be made leaves a track
pub still_track : (a b micros : ℕ) (old new : List Pulse) → CanToggle micros a b old → edges_of new ≡ toggled a b (edges_of old) → IsTrack micros new
still_track a b micros old new can e = track_of micros new (subst (IsRecording micros) (sym e) can.track)

even-flipped : (t : ℕ) (xs : List ℕ) → is_even_long (flipped t xs) ≡ not (is_even_long xs)
even-flipped t [] = refl
even-flipped t (x ∷ xs) = elim (three t x) [
  | inl lt ↦ ap is_even_long (flip_low t x xs lt)
  | inr r ↦ elim r [
    | inl e ↦ ap is_even_long (flip_same t x xs e) ∙ sym (not-not (is_even_long xs))
    | inr gt ↦ ap is_even_long (flip_high t x xs gt) ∙ ap not (even-flipped t xs)
  ]
]

pub length-flipped_most : (t : ℕ) (xs : List ℕ) → length (flipped t xs) ≤ length xs + 1
length-flipped_most t [] = omega arith
length-flipped_most t (x ∷ xs) = elim (three t x) [
  | inl lt ↦ omega (arith, ap length (flip_low t x xs lt))
  | inr r ↦ elim r [
    | inl e ↦ omega (arith, ap length (flip_same t x xs e))
    | inr gt ↦ omega (arith, ap length (flip_high t x xs gt), length-flipped_most t xs)
  ]
]

length-flipped_out : (t : ℕ) (xs : List ℕ) → has t xs ≡ false → length (flipped t xs) ≡ length xs + 1
length-flipped_out t [] h = refl
length-flipped_out t (x ∷ xs) h = elim (three t x) [
  | inl lt ↦ omega (arith, ap length (flip_low t x xs lt))
  | inr r ↦ elim r [
    | inl e ↦ absurd (let bad : true ≡ false = sym (has_here x t xs (sym e)) ∙ h in cc)
    | inr gt ↦ omega (arith, ap length (flip_high t x xs gt), length-flipped_out t xs (sym (has_there x t xs (omega arith)) ∙ h))
  ]
]

length-flipped_in : (t low : ℕ) (xs : List ℕ) → RisesFrom low xs → has t xs ≡ true → length (flipped t xs) + 1 ≡ length xs
length-flipped_in t low [] r h = absurd (cc)
length-flipped_in t low (x ∷ xs) r h = elim (three t x) [
  | inl lt ↦ absurd (let bad : false ≡ true = sym (has_none x t (x ∷ xs) (omega arith, r.1) lt) ∙ h in cc)
  | inr s ↦ elim s [
    | inl e ↦ omega (arith, ap length (flip_same t x xs e))
    | inr gt ↦ omega (arith, ap length (flip_high t x xs gt), length-flipped_in t (x + 1) xs r.1 (sym (has_there x t xs (omega arith)) ∙ h))
  ]
]

-- a toggle within the length that leaves few edges can be made
pub can_toggle_few : (a b micros : ℕ) (ps : List Pulse) → a < b → b ≤ micros → IsTrack micros ps → length (toggled a b (edges_of ps)) ≤ 2 ^ 23
    → CanToggle micros a b ps
can_toggle_few a b micros ps lt le h few = record {
  order = lt;
  within = le;
  track = record {
    short = h.short;
    few = few;
    even = even-flipped b (flipped a (edges_of ps)) ∙ ap not (even-flipped a (edges_of ps)) ∙ not-not (is_even_long (edges_of ps)) ∙ even-edges_of ps;
    rises = RisesFrom-flipped 0 b _ (omega arith) (RisesFrom-flipped 0 a _ (omega arith) h.rises);
    within = UpTo-flipped micros b _ le (UpTo-flipped micros a _ (omega arith) h.within);
  };
}

-- if there is room for one more pulse
pub can_toggle_room : (a b micros room : ℕ) (ps : List Pulse) → a < b → b ≤ micros → IsTrack micros ps → room + length ps ≡ 2 ^ 22 → 0 < room
    → CanToggle micros a b ps
can_toggle_room a b micros room ps lt le h sum some =
    can_toggle_few a b micros ps lt le h (omega (
      arith,
      length-edges_of ps,
      length-flipped_most a (edges_of ps),
      length-flipped_most b (flipped a (edges_of ps)),
    ))

-- if an edge goes at a
pub can_toggle_first : (a b micros : ℕ) (ps : List Pulse) → a < b → b ≤ micros → IsTrack micros ps → is_edge a ps ≡ true → CanToggle micros a b ps
can_toggle_first a b micros ps lt le h e =
    can_toggle_few a b micros ps lt le h (omega (
      arith,
      h.few,
      length-edges_of ps,
      length-flipped_in a 0 (edges_of ps) h.rises e,
      length-flipped_most b (flipped a (edges_of ps)),
    ))

-- if an edge goes at b
pub can_toggle_second : (a b micros : ℕ) (ps : List Pulse) → a < b → b ≤ micros → IsTrack micros ps → is_edge b ps ≡ true → CanToggle micros a b ps
can_toggle_second a b micros ps lt le h e =
    let same : has b (flipped a (edges_of ps)) ≡ true = has-flipped_other a b (edges_of ps) (omega arith) ∙ e in
    let up : RisesFrom 0 (flipped a (edges_of ps)) = RisesFrom-flipped 0 a _ (omega arith) h.rises in
    can_toggle_few a b micros ps lt le h (omega (
      arith,
      h.few,
      length-edges_of ps,
      length-flipped_in b 0 (flipped a (edges_of ps)) up same,
      length-flipped_most a (edges_of ps),
    ))

-- if two edges come to a full track
pub cannot_toggle : (a b micros room : ℕ) (ps : List Pulse) → room + length ps ≡ 2 ^ 22 → room ≡ 0 → is_edge a ps ≡ false → is_edge b ps ≡ false
    → CanToggle micros a b ps → ⊥
cannot_toggle a b micros room ps sum none first second can =
    let lt : a < b = can.order in
    let same : has b (flipped a (edges_of ps)) ≡ false = has-flipped_other a b (edges_of ps) (omega arith) ∙ second in
    let one = length-flipped_out a (edges_of ps) first in let two = length-flipped_out b (flipped a (edges_of ps)) same in
    omega (arith, can.track.few, length-edges_of ps)
