-- The pulses of frames: how many there are, and that they rise one after the other.
use Rattle.std.proofs.Common.{◌≡◌, ◌≤◌, ◌<◌, ◌+◌, ◌*◌, ℕ, suc, zero, List, [], ◌∷◌, ◌++◌, length, map, get_or, refl, ap, sym, ◌∙◌, subst, arith, insert}
use Rattle.std.proofs.Common.{length-append, append_assoc}
use Rattle.std.proofs.Math.Nat.{mul-le-mul_right}
use Rattle.std.proofs.lemmas.{List.flat_map_more, List.Edits.insert_end, List.FromFn.map-range_with_len_more}
use Rattle.std.specs.List.{flat_map, range_with_len}
use Rattle.irig_recording.specs.{Recording.RisesFrom, Recording.UpTo, declared.pulse.Pulse.Pulse}
use Rattle.irig_codes.specs.{declared.width.Element.Element, declared.width.Element.TheVariants.Zero, Format.FormatView, Format.interval_of, Width.nominal_of}
use Rattle.irig_gap.specs.Items.{GapView, gap_view}
use Rattle.irig_track.specs.Edges.{edges_of, pulse, Under}
use Rattle.irig_recording.proofs.PulseEdges.{edges_of-append}
use Rattle.irig_track.proofs.{RisingLists.rises_more, Turns.Under-append}
use Rattle.irig_edit.specs.Edits.Regenerated.{index_point, element_pulse, frame_pulses, frames_end}
use Rattle.irig_codes.proofs.WidthLemmas.{nominal_of-within}

-- numbers up to the next one
range-suc : (a n : ℕ) → range_with_len a (suc n) ≡ range_with_len a n ++ (a + n) ∷ []
range-suc a zero = let none : a ≡ a + zero = omega arith in ap (λ k. k ∷ []) none
range-suc a (suc n) = let up : a + 1 + n ≡ a + suc n = omega arith in
    ap (λ ks. a ∷ ks) (range-suc (a + 1) n ∙ ap (λ k. range_with_len (a + 1) n ++ k ∷ []) up)

pub range-more : (n : ℕ) → range_with_len 0 (n + 1) ≡ range_with_len 0 n ++ n ∷ []
range-more n =
    let up : n + 1 ≡ suc n = omega arith in
    let same : 0 + n ≡ n = omega arith in
    ap (range_with_len 0) up ∙ range-suc 0 n ∙ ap (λ k. range_with_len 0 n ++ k ∷ []) same

next_multiple : (n m t : ℕ) → n + 1 ≤ m → n * t + t ≤ m * t
next_multiple n m t less = omega (arith, mul-le-mul_right {m = n + 1} {n = m} t less)

-- a later index point is an interval later, at least
pub index_later : (f : FormatView) (start k e l d : ℕ) → 100 * k + e + 1 ≤ 100 * l + d
    → index_point f start k e + interval_of f.kind ≤ index_point f start l d
index_later f start k e l d later = omega (arith, next_multiple (100 * k + e) (100 * l + d) (interval_of f.kind) later)

pub index_same : (f : FormatView) (start k e l d : ℕ) → 100 * k + e ≡ 100 * l + d → index_point f start k e ≡ index_point f start l d
index_same f start k e l d same = ap (λ n. start + n * interval_of f.kind) same

-- after the last frame the frames end
pub index_end : (f : FormatView) (start frames : ℕ) → index_point f start frames 0 ≡ frames_end f start frames
index_end f start frames = let same : 100 * frames + 0 ≡ 100 * frames = omega arith in ap (λ n. start + n * interval_of f.kind) same

pub index_le : (f : FormatView) (start k e l d : ℕ) → 100 * k + e ≤ 100 * l + d → index_point f start k e ≤ index_point f start l d
index_le f start k e l d le = omega (arith, mul-le-mul_right {m = 100 * k + e} {n = 100 * l + d} (interval_of f.kind) le)

-- what rises after what is below it
pub rises_apart : (low mid : ℕ) (xs ys : List ℕ) → low ≤ mid → RisesFrom low xs → Under mid xs → RisesFrom mid ys → RisesFrom low (xs ++ ys)
rises_apart low mid [] ys le h u r = rises_more mid low ys le r
rises_apart low mid (x ∷ xs) ys le h u r = (h.0, rises_apart (x + 1) mid xs ys (omega (arith, u.0)) h.1 u.1 r)

pub UpTo-under : (t top : ℕ) (xs : List ℕ) → t ≤ top → Under t xs → UpTo top xs
UpTo-under t top [] le h = tt
UpTo-under t top (x ∷ xs) le h = (omega (arith, h.0), UpTo-under t top xs le h.1)

-- the pulses of elements, from an element on
module _ (f : FormatView) (start k : ℕ) (es : List Element) where
  abbrev pulses : ℕ → ℕ → List Pulse
  pulses a n = map (element_pulse f start k es) (range_with_len a n)

  pub elements_rise : (a n low : ℕ) → low ≤ index_point f start k a → RisesFrom low (edges_of (pulses a n))
  elements_rise a zero low from = tt
  elements_rise a (suc n) low from =
      let some = (nominal_of-within f (get_or es a Zero)).0 in
      let narrow = (nominal_of-within f (get_or es a Zero)).1 in
      let next = index_later f start k a k (a + 1) (omega arith) in
      (from, (omega (arith, some), elements_rise (a + 1) n (index_point f start k a + nominal_of f (get_or es a Zero) + 1) (omega (arith, narrow, next))))

  pub elements_under : (a n high : ℕ) → index_point f start k (a + n) ≤ high → Under high (edges_of (pulses a n))
  elements_under a zero high to = tt
  elements_under a (suc n) high to =
      let narrow = (nominal_of-within f (get_or es a Zero)).1 in
      let next = index_later f start k a k (a + suc n) (omega arith) in
      let same = index_same f start k (a + 1 + n) k (a + suc n) (omega arith) in
      (omega (arith, narrow, next, to), (omega (arith, narrow, next, to), elements_under (a + 1) n high (omega (arith, same, to))))

  pub elements_many : (a n : ℕ) → length (pulses a n) ≡ n
  elements_many a zero = refl
  elements_many a (suc n) = ap suc (elements_many (a + 1) n)

-- the pulses of a frame
pub frame_rises : (f : FormatView) (start k : ℕ) (es : List Element) (low : ℕ) → low ≤ index_point f start k 0
    → RisesFrom low (edges_of (frame_pulses f start k es))
unfolding frame_pulses
frame_rises f start k es low from = elements_rise f start k es 0 100 low from

pub frame_under : (f : FormatView) (start k : ℕ) (es : List Element) (high : ℕ) → index_point f start k 100 ≤ high
    → Under high (edges_of (frame_pulses f start k es))
unfolding frame_pulses
frame_under f start k es high to = elements_under f start k es 0 100 high to

pub frame_many : (f : FormatView) (start k : ℕ) (es : List Element) → length (frame_pulses f start k es) ≡ 100
unfolding frame_pulses
frame_many f start k es = elements_many f start k es 0 100

-- the pulses of frames, from a frame on
module _ (f : FormatView) (start : ℕ) (es : ℕ → List Element) where
  abbrev frames : ℕ → ℕ → List Pulse
  frames a n = flat_map (λ k. frame_pulses f start k (es k)) (range_with_len a n)

  pub frames_rise : (a n low : ℕ) → low ≤ index_point f start a 0 → RisesFrom low (edges_of (frames a n))
  frames_rise a zero low from = tt
  frames_rise a (suc n) low from =
      let first = frame_pulses f start a (es a) in
      let rest = frames (a + 1) n in
      let next = index_same f start a 100 (a + 1) 0 (omega arith) in
      let later = index_later f start a 0 (a + 1) 0 (omega arith) in
      let P : List ℕ → Type 0 = λ xs. RisesFrom low xs in
      subst P (sym (edges_of-append first rest))
      (rises_apart low (index_point f start (a + 1) 0) (edges_of first) (edges_of rest) (omega (arith, from, later))
      (frame_rises f start a (es a) low from) (frame_under f start a (es a) (index_point f start (a + 1) 0) (omega (arith, next)))
      (frames_rise (a + 1) n (index_point f start (a + 1) 0) (omega arith)))

  pub frames_under : (a n high : ℕ) → index_point f start (a + n) 0 ≤ high → Under high (edges_of (frames a n))
  frames_under a zero high to = tt
  frames_under a (suc n) high to =
      let first = frame_pulses f start a (es a) in
      let rest = frames (a + 1) n in
      let same = index_same f start (a + 1 + n) 0 (a + suc n) 0 (omega arith) in
      let within = index_le f start a 100 (a + suc n) 0 (omega arith) in
      let P : List ℕ → Type 0 = λ xs. Under high xs in
      subst P (sym (edges_of-append first rest))
      (Under-append high (edges_of first) (edges_of rest) (frame_under f start a (es a) high (omega (arith, within, to)))
      (frames_under (a + 1) n high (omega (arith, same, to))))

  pub frames_many : (a n : ℕ) → length (frames a n) ≡ 100 * n
  frames_many a zero = refl
  frames_many a (suc n) = omega (arith, length-append (frame_pulses f start a (es a)) (frames (a + 1) n), frame_many f start a (es a), frames_many (a + 1) n)

-- what is in a buffer while a frame is added
abbrev pub WithElements : FormatView → ℕ → ℕ → List Element → GapView Pulse → ℕ → GapView Pulse
WithElements f start k es g n = gap_view (g.items ++ map (element_pulse f start k es) (range_with_len 0 n)) (g.place + n) g.capacity

pub element_is : (f : FormatView) (start k : ℕ) (es : List Element) (e interval width : ℕ) → interval ≡ interval_of f.kind
    → width ≡ nominal_of f (get_or es e Zero)
    → pulse (start + (100 * k + e) * interval) (start + (100 * k + e) * interval + width) ≡ element_pulse f start k es e
element_is f start k es e interval width i w =
    (λ j. pulse (start + (100 * k + e) * i j) (start + (100 * k + e) * i j + w j))

pub elements_room : (f : FormatView) (start k : ℕ) (es : List Element) (g h : GapView Pulse) (n : ℕ) → h ≡ WithElements f start k es g n
    → n < 100 → length g.items + 100 ≤ g.capacity → length h.items < h.capacity
elements_room f start k es g h n is few room =
    let P : GapView Pulse → Type 0 = λ w. length w.items < w.capacity in
    subst P (sym is) (omega (arith, length-append g.items (map (element_pulse f start k es) (range_with_len 0 n)), elements_many f start k es 0 n, few, room))

pub elements_step : (f : FormatView) (start k : ℕ) (es : List Element) (g h h2 : GapView Pulse) (n : ℕ) (p : Pulse) → h ≡ WithElements f start k es g n
    → g.place ≡ length g.items → h2 ≡ gap_view (insert h.items h.place p) (h.place + 1) h.capacity → p ≡ element_pulse f start k es n
    → h2 ≡ WithElements f start k es g (n + 1)
elements_step f start k es g h h2 n p is last put same =
    let made = map (element_pulse f start k es) (range_with_len 0 n) in
    let end : length (g.items ++ made) ≡ g.place + n = omega (arith, length-append g.items made, elements_many f start k es 0 n, last) in
    let up : g.place + n + 1 ≡ g.place + (n + 1) = omega arith in
    let more : insert (g.items ++ made) (g.place + n) p ≡ g.items ++ map (element_pulse f start k es) (range_with_len 0 (n + 1)) =
    ap (λ i. insert (g.items ++ made) i p) (sym end) ∙ insert_end (g.items ++ made) p ∙ append_assoc g.items made (p ∷ [])
    ∙ ap (λ (q : Pulse). g.items ++ (made ++ q ∷ [])) same ∙ ap (λ (qs : List Pulse). g.items ++ qs)
    (sym (map-range_with_len_more (element_pulse f start k es) 0 n n (omega arith))) in
    put ∙ ap (λ (w : GapView Pulse). gap_view (insert w.items w.place p) (w.place + 1) w.capacity) is ∙ (λ j. gap_view (more j) (up j) g.capacity)

pub elements_all : (f : FormatView) (start k : ℕ) (es : List Element) (g h : GapView Pulse) (n : ℕ) → h ≡ WithElements f start k es g n
    → n ≡ 100 → h ≡ gap_view (g.items ++ frame_pulses f start k es) (g.place + 100) g.capacity
unfolding frame_pulses
elements_all f start k es g h n is all = is ∙ ap (WithElements f start k es g) all

-- the pulses of one more frame
pub frames_more : (f : FormatView) (start : ℕ) (es : ℕ → List Element) (k : ℕ)
    → frames f start es 0 (k + 1) ≡ frames f start es 0 k ++ frame_pulses f start k (es k)
frames_more f start es k =
    ap (λ ks. flat_map (λ n. frame_pulses f start n (es n)) ks) (range-more k)
    ∙ sym (flat_map_more (λ n. frame_pulses f start n (es n)) [] (range_with_len 0 k) k)

-- what is in a buffer when this many frames are added
abbrev pub WithFrames : FormatView → ℕ → (ℕ → List Element) → ℕ → ℕ → GapView Pulse
WithFrames f start es k capacity = gap_view (frames f start es 0 k) (100 * k) capacity

pub frames_last : (f : FormatView) (start : ℕ) (es : ℕ → List Element) (k : ℕ) (h : GapView Pulse) → h ≡ WithFrames f start es k h.capacity
    → h.place ≡ length h.items
frames_last f start es k h is =
    let P : GapView Pulse → Type 0 = λ w. w.place ≡ length w.items in
    subst P (sym is) (sym (frames_many f start es 0 k))

pub frames_room : (f : FormatView) (start : ℕ) (es : ℕ → List Element) (k : ℕ) (h : GapView Pulse) → h ≡ WithFrames f start es k h.capacity
    → length h.items ≡ 100 * k
frames_room f start es k h is = ap (λ (w : GapView Pulse). length w.items) is ∙ frames_many f start es 0 k

pub frames_step : (f : FormatView) (start : ℕ) (es : ℕ → List Element) (k : ℕ) (h h2 : GapView Pulse) (made : List Element)
    → h ≡ WithFrames f start es k h.capacity → made ≡ es k
    → h2 ≡ gap_view (h.items ++ frame_pulses f start k made) (h.place + 100) h.capacity → h2 ≡ WithFrames f start es (k + 1) h2.capacity
frames_step f start es k h h2 made is same put =
    let up : 100 * k + 100 ≡ 100 * (k + 1) = omega arith in
    let capacity : h.capacity ≡ h2.capacity = sym (ap (λ (w : GapView Pulse). w.capacity) put) in
    put ∙ (λ j. gap_view ((is j).items ++ frame_pulses f start k (same j)) ((is j).place + 100) h.capacity)
    ∙ (λ j. gap_view (sym (frames_more f start es k) j) (up j) (capacity j))
