-- When a splice and a shift leave a track.
use Rattle.std.proofs.Common.{◌≡◌, ℕ, suc, zero, ℤ, ◌+◌, ◌-◌, ◌^◌, ◌<◌, ◌≤◌, List, [], ◌∷◌, ◌++◌, map, length, take, drop, slice_get, Some, refl, sym, ap, ◌∙◌}
use Rattle.std.proofs.Common.{subst, arith, append_assoc}
use Rattle.std.proofs.lemmas.List.{take-map, length-map}
use Rattle.irig_recording.specs.{Recording.RisesFrom, Recording.UpTo, declared.pulse.Pulse.Pulse}
use Rattle.irig_track.specs.Shifts.{moved_pulse, moved, ahead, back, count_to, StaysFromZero, CanShift}
use Rattle.irig_track.specs.{Edges.edges_of, Free.following, Free.first_or, Splices.piece, Splices.CanSplice, Track.IsTrack}
use Rattle.irig_track.proofs.RisingLists.{rises_left, rises_right, rises_more}
use Rattle.irig_track.proofs.PulsesBetween.{rises_split, rises_joined, rises_first, rises_cut, following-last}
use Rattle.irig_track.proofs.{Carried.length-spliced, Carried.length-piece, Items.drop-item, Items.slice_get-drop, Laws.edges_of-three, Laws.edges_of-parts}

-- numbers up to a bound are below the next number
bounded : (low top : ℕ) (xs : List ℕ) → RisesFrom low xs → UpTo top xs → low ≤ top + 1 → RisesFrom low (xs ++ (top + 1) ∷ [])
bounded low top [] h u le = (le, tt)
bounded low top (x ∷ xs) h u le = (h.0, bounded (x + 1) top xs h.1 u.1 (omega (arith, u.0)))

unbounded : (low top : ℕ) (xs : List ℕ) → RisesFrom low (xs ++ (top + 1) ∷ []) → UpTo top xs
unbounded low top [] h = tt
unbounded low top (x ∷ xs) h = (omega (arith, (rises_right (x + 1) xs ((top + 1) ∷ []) h.1).0), unbounded (x + 1) top xs h.1)

-- what follows the first number of a list with d at its end
rest_of : ℕ → List ℕ → List ℕ
rest_of d [] = []
rest_of d (x ∷ xs) = xs ++ d ∷ []

first_and_rest : (d : ℕ) (xs : List ℕ) → xs ++ d ∷ [] ≡ first_or d xs ∷ rest_of d xs
unfolding rest_of
first_and_rest d [] = refl
first_and_rest d (x ∷ xs) = refl

regroup : (d : ℕ) (ls ms rs : List ℕ) → (ls ++ (ms ++ rs)) ++ d ∷ [] ≡ ls ++ (ms ++ (rs ++ d ∷ []))
regroup d ls ms rs = append_assoc ls (ms ++ rs) (d ∷ []) ∙ ap (λ xs. ls ++ xs) (append_assoc ms rs (d ∷ []))

-- the middle of three parts is between the other two
middle_stands : (top : ℕ) (ls ms rs : List ℕ) → RisesFrom 0 (ls ++ (ms ++ rs)) → UpTo top (ls ++ (ms ++ rs))
    → RisesFrom (following 0 ls) (ms ++ first_or (top + 1) rs ∷ [])
middle_stands top ls ms rs h u =
    let all : RisesFrom 0 (ls ++ (ms ++ (first_or (top + 1) rs ∷ rest_of (top + 1) rs))) =
    subst (RisesFrom 0) (regroup (top + 1) ls ms rs ∙ ap (λ xs. ls ++ (ms ++ xs)) (first_and_rest (top + 1) rs)) (bounded 0 top _ h u (omega arith)) in
    rises_cut (following 0 ls) (first_or (top + 1) rs) ms (rest_of (top + 1) rs) (rises_split 0 ls _ all).1

-- another middle that fits there makes a rising list too
stands_middle : (top : ℕ) (ls gs ms rs : List ℕ) → RisesFrom 0 (ls ++ (gs ++ rs)) → UpTo top (ls ++ (gs ++ rs))
    → RisesFrom (following 0 ls) (ms ++ first_or (top + 1) rs ∷ [])
    → RisesFrom 0 (ls ++ (ms ++ rs)) × UpTo top (ls ++ (ms ++ rs))
stands_middle top ls gs ms rs h u m =
    let old : RisesFrom 0 (ls ++ (gs ++ (first_or (top + 1) rs ∷ rest_of (top + 1) rs))) =
    subst (RisesFrom 0) (regroup (top + 1) ls gs rs ∙ ap (λ xs. ls ++ (gs ++ xs)) (first_and_rest (top + 1) rs)) (bounded 0 top _ h u (omega arith)) in
    let tail : RisesFrom (first_or (top + 1) rs + 1) (rest_of (top + 1) rs) = (rises_right 0 gs _ (rises_right 0 ls _ old)).1 in
    let new : RisesFrom 0 (ls ++ (ms ++ (first_or (top + 1) rs ∷ rest_of (top + 1) rs))) =
    rises_joined 0 ls _ (rises_left 0 ls (gs ++ rs) h) (rises_first (following 0 ls) (first_or (top + 1) rs) ms (rest_of (top + 1) rs) tail m) in
    let all : RisesFrom 0 ((ls ++ (ms ++ rs)) ++ (top + 1) ∷ []) =
    subst (RisesFrom 0) (sym (regroup (top + 1) ls ms rs ∙ ap (λ xs. ls ++ (ms ++ xs)) (first_and_rest (top + 1) rs))) new in
    (rises_left 0 (ls ++ (ms ++ rs)) ((top + 1) ∷ []) all, unbounded 0 top (ls ++ (ms ++ rs)) all)

module _ (micros at count start high : ℕ) (put ps : List Pulse) (there : at + count ≤ length ps) (old : IsTrack micros ps)
    (starts : start ≡ following 0 (edges_of (take at ps))) (ends : high ≡ first_or (micros + 1) (edges_of (drop (at + count) ps))) where
  -- the pulses that a splice inserts fit between the two that stay
  pub splice_stands : CanSplice micros at count put ps → RisesFrom start (edges_of put ++ high ∷ [])
  splice_stands can =
      let e = edges_of-three (take at ps) put (drop (at + count) ps) in
      rw (starts, ends) (middle_stands micros (edges_of (take at ps)) (edges_of put) (edges_of (drop (at + count) ps)) (subst (RisesFrom 0) e can.track.rises)
      (subst (UpTo micros) e can.track.within))

  -- pulses that fit there, and that are few enough, may be inserted
  pub stands_splice : length put + length ps ≤ 2 ^ 22 + count → RisesFrom start (edges_of put ++ high ∷ []) → CanSplice micros at count put ps
  stands_splice few m =
      let e = edges_of-three (take at ps) put (drop (at + count) ps) in let f = edges_of-parts at count ps in
      let m2 : RisesFrom (following 0 (edges_of (take at ps))) (edges_of put ++ first_or (micros + 1) (edges_of (drop (at + count) ps)) ∷ []) =
      rw (← starts, ← ends) m in
      let both = stands_middle micros (edges_of (take at ps)) (edges_of (piece at count ps)) (edges_of put) (edges_of (drop (at + count) ps))
      (subst (RisesFrom 0) f old.rises) (subst (UpTo micros) f old.within) m2 in
      record {
        there = there;
        track = record {
          short = old.short;
          few = omega (arith, length-spliced ps put at count there);
          rises = subst (RisesFrom 0) (sym e) both.0;
          within = subst (UpTo micros) (sym e) both.1;
        };
      }

-- moved edges keep their order
moved_rises : (on off low : ℕ) (ps : List Pulse) → RisesFrom low (edges_of ps) → off ≤ low + on
    → RisesFrom (low + on - off) (edges_of (map (moved_pulse on off) ps))
moved_rises on off low [] h le = tt
moved_rises on off low (p ∷ ps) h le =
    let rest : RisesFrom (p.fall + 1 + on - off) (edges_of (map (moved_pulse on off) ps)) =
    moved_rises on off (p.fall + 1) ps h.1.1 (omega (arith, h.0, h.1.0)) in
    let next : p.fall + 1 + on - off ≡ p.fall + on - off + 1 = omega (arith, h.0, h.1.0) in
    (omega (arith, h.0), (omega (arith, h.0, h.1.0), subst (λ k. RisesFrom k (edges_of (map (moved_pulse on off) ps))) next rest))

stays_from_zero : (d : ℤ) (low : ℕ) (xs : List ℕ) → RisesFrom low xs → back d ≤ low + ahead d → StaysFromZero d xs
stays_from_zero d low [] h le = tt
stays_from_zero d low (x ∷ xs) h le = (omega (arith, h.0), stays_from_zero d (x + 1) xs h.1 (omega (arith, h.0)))

low-following : (low : ℕ) (xs : List ℕ) → RisesFrom low xs → low ≤ following low xs
low-following low [] h = omega arith
low-following low (x ∷ xs) h = omega (arith, h.0, low-following (x + 1) xs h.1)

slice_get-map : (f : Pulse → Pulse) (n : ℕ) (q : Pulse) (zs : List Pulse) → slice_get zs n ≡ Some q → slice_get (map f zs) n ≡ Some (f q)
slice_get-map f zero q [] is = absurd (cc)
slice_get-map f (suc n) q [] is = absurd (cc)
slice_get-map f zero q (z ∷ zs) is = (let e : z ≡ q = cc in ap (λ y. Some (f y)) e)
slice_get-map f (suc n) q (z ∷ zs) is = slice_get-map f n q zs is

-- the first and the last of a piece, and of the piece moved
module _ (i j : ℕ) (p q : Pulse) (ps : List Pulse) (order : i ≤ j) (first : slice_get ps i ≡ Some p) (last : slice_get ps j ≡ Some q) where
  piece_count : count_to i j ≡ suc (j - i)
  piece_count = omega arith

  piece_last : slice_get (drop i ps) (j - i) ≡ Some q
  piece_last = slice_get-drop i ps (j - i) j (omega arith) ∙ last

  piece_first : piece i (count_to i j) ps ≡ p ∷ take (j - i) (drop (i + 1) ps)
  piece_first = ap (λ k. take k (drop i ps)) piece_count ∙ ap (take (suc (j - i))) (drop-item ps i p first)

  following-piece : (low : ℕ) → following low (edges_of (piece i (count_to i j) ps)) ≡ q.fall + 1
  following-piece low = ap (λ k. following low (edges_of (take k (drop i ps)))) piece_count ∙ following-last low (j - i) q (drop i ps) piece_last

  following-moved : (on off low : ℕ) → following low (edges_of (map (moved_pulse on off) (piece i (count_to i j) ps))) ≡ q.fall + on - off + 1
  following-moved on off low =
      let f = moved_pulse on off in
      ap (λ k. following low (edges_of (map f (take k (drop i ps))))) piece_count
      ∙ ap (λ ys. following low (edges_of ys)) (sym (take-map f (suc (j - i)) (drop i ps)))
      ∙ following-last low (j - i) (f q) (map f (drop i ps)) (slice_get-map f (j - i) q (drop i ps) piece_last)

  piece_rises : RisesFrom 0 (edges_of ps) → RisesFrom p.rise (edges_of (piece i (count_to i j) ps))
  piece_rises h =
      let part : RisesFrom 0 (edges_of (piece i (count_to i j) ps)) =
      rises_left 0 _ _ (rises_right 0 (edges_of (take i ps)) _ (subst (RisesFrom 0) (edges_of-parts i (count_to i j) ps) h)) in
      let open_part : RisesFrom 0 (p.rise ∷ p.fall ∷ edges_of (take (j - i) (drop (i + 1) ps))) = subst (λ xs. RisesFrom 0 (edges_of xs)) piece_first part in
      subst (λ xs. RisesFrom p.rise (edges_of xs)) (sym piece_first) (omega arith, open_part.1)

  module _ (micros start high : ℕ) (d : ℤ) (inside : j < length ps) (old : IsTrack micros ps)
      (starts : start ≡ following 0 (edges_of (take i ps))) (ends : high ≡ first_or (micros + 1) (edges_of (drop (j + 1) ps))) where
    there_too : i + count_to i j ≤ length ps
    there_too = omega arith

    ends_too : high ≡ first_or (micros + 1) (edges_of (drop (i + count_to i j) ps))
    ends_too = let same : j + 1 ≡ i + count_to i j = omega arith in ends ∙ ap (λ k. first_or (micros + 1) (edges_of (drop k ps))) same

    first_before_last : p.rise ≤ q.fall
    first_before_last =
        let rest = p.fall ∷ edges_of (take (j - i) (drop (i + 1) ps)) in
        let opened : RisesFrom p.rise (p.rise ∷ rest) = subst (λ xs. RisesFrom p.rise (edges_of xs)) piece_first (piece_rises old.rises) in
        let ends_at : following p.rise (p.rise ∷ rest) ≡ q.fall + 1 =
        subst (λ xs. following p.rise (edges_of xs) ≡ q.fall + 1) piece_first (following-piece p.rise) in
        let above : p.rise + 1 ≤ following (p.rise + 1) rest = low-following (p.rise + 1) rest opened.1 in
        omega (arith, above, ends_at)

    -- what may be shifted stays between its neighbours
    pub shift_stands : CanShift micros i j d ps → (start + back d ≤ p.rise + ahead d) × (q.fall + ahead d < high + back d)
    shift_stands can =
        let ms = moved d (piece i (count_to i j) ps) in
        let can_put : CanSplice micros i (count_to i j) ms ps = record { there = there_too; track = can.track } in
        let both = rises_split start (edges_of ms) (high ∷ []) (splice_stands micros i (count_to i j) start high ms ps there_too old starts ends_too can_put) in
        let zero_stays : StaysFromZero d (p.rise ∷ p.fall ∷ edges_of (take (j - i) (drop (i + 1) ps))) =
        subst (λ xs. StaysFromZero d (edges_of xs)) piece_first can.from_zero in
        let front : RisesFrom start (edges_of (moved d (p ∷ take (j - i) (drop (i + 1) ps)))) =
        subst (λ xs. RisesFrom start (edges_of (moved d xs))) piece_first both.0 in
        (omega (arith, zero_stays.0, front.0), omega (arith, both.1.0, following-moved (ahead d) (back d) start))

    -- what stays between its neighbours may be shifted
    pub stands_shift : start + back d ≤ p.rise + ahead d → q.fall + ahead d < high + back d → CanShift micros i j d ps
    stands_shift early late =
        let pc = piece i (count_to i j) ps in let ms = moved d pc in
        let rises : RisesFrom start (edges_of ms) = rises_more (p.rise + ahead d - back d) start (edges_of ms) (omega arith)
        (moved_rises (ahead d) (back d) p.rise pc (piece_rises old.rises) (omega arith)) in
        let bound : following start (edges_of ms) ≤ high = omega (arith, following-moved (ahead d) (back d) start, first_before_last) in
        let few : length ms + length ps ≤ 2 ^ 22 + count_to i j =
        omega (arith, old.few, length-map pc (moved_pulse (ahead d) (back d)), length-piece ps i (count_to i j) there_too) in
        let can : CanSplice micros i (count_to i j) ms ps = stands_splice micros i (count_to i j) start high ms ps there_too old starts ends_too few
        (rises_joined start (edges_of ms) (high ∷ []) rises (bound, tt)) in
        record {
          order = order;
          there = inside;
          from_zero = stays_from_zero d p.rise (edges_of pc) (piece_rises old.rises) (omega arith);
          track = can.track;
        }
