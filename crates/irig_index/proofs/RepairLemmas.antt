-- A repaired index has the frames of the track as it is.
use Rattle.std.proofs.Common.{◌≡◌, ℕ, ◌+◌, ◌-◌, ◌%◌, ◌^◌, ◌<◌, ◌≤◌, List, [], ◌∷◌, ◌++◌, length, take, drop, map, min, refl, sym, ap, subst, ◌∙◌, inl, inr}
use Rattle.std.proofs.Common.{arith, append_assoc, length-append, length-drop}
use Rattle.std.proofs.lemmas.{Bool.cases_lt, List.take-append-drop, List.length-take-le}
use Rattle.irig_codes.specs.Format.{FormatView}
use Rattle.std.proofs.Math.Seq.{take-append_seam, drop-append_seam}
use Rattle.irig_gap.specs.Items.{GapView, gap_view}
use Rattle.irig_recording.specs.declared.pulse.Pulse.{Pulse}
use Rattle.irig_track.proofs.{Carried.length-piece, Laws.parts}
use Rattle.irig_index.specs.Sides.{from_other_end, turned, left_of, kept_right, right_of, shown, EndsUpTo, BeginsAfter, AllUpTo, AllAfter}
use Rattle.irig_index.specs.{declared.record.Record.Record, Frames.frames, Frames.record_after, Frames.records_in, Index.IndexView, Index.WereFrames}
use Rattle.irig_index.specs.{Index.index_view, Laws.moved, Cuts.Parts, Stale.LastMayBeStale, Stale.last_retold}
use Rattle.irig_index.proofs.FrameLemmas.{record_after-last, records_in-none, window_same}
use Rattle.irig_index.proofs.MarkerBounds.{AllAfter-append, AllAfter-less, AllAfter-moved, AllUpTo-more, parted_same, records_in-after, records_in-up_to}
use Rattle.irig_index.proofs.SideLemmas.{from_other_end-moved, length-shown, length-sides}
use Rattle.irig_index.proofs.{PlaceLemmas.window_none, StaleLemmas.start_retold, Window.frames_parted, Window.records_in-append}

-- a window from its first marker on
pub window_skipped : (f : FormatView) (ps : List Pulse) (from place to : ℕ) → from ≤ place → place ≤ to
    → ((k : ℕ) → from ≤ k → k < place → record_after f ps k ≡ []) → records_in f ps place (to - place) ≡ records_in f ps from (to - from)
window_skipped f ps from place to past inside none =
    let all : place - from + (to - place) ≡ to - from = omega (arith, past, inside) in
    let here : from + (place - from) ≡ place = omega (arith, past) in
    let start : from - from ≡ 0 = omega arith in
    let before : records_in f ps from (place - from) ≡ [] =
    window_none f ps from from place (omega arith) past none ∙ (ap (records_in f ps from) start ∙ records_in-none f ps from) in
    (λ i. sym before i ++ records_in f ps (sym here i) (to - place))
    ∙ (sym (records_in-append f ps from (place - from) (to - place)) ∙ ap (records_in f ps from) all)

-- a window that ends with the track
pub window_end : (f : FormatView) (ps : List Pulse) (from last : ℕ) → from ≤ last → from ≤ length ps - 1 → last ≤ length ps
    → records_in f ps from (min (length ps - 1) last - from) ≡ records_in f ps from (last - from)
window_end f ps from last order inside within = elim (cases_lt (length ps - 1) last) [
  | inl lt ↦
      let shorter : min (length ps - 1) last ≡ length ps - 1 = omega arith in
      let all : length ps - 1 + 1 ≡ last = omega arith in
      ap (λ n. records_in f ps from (n - from)) shorter
      ∙ (sym (window_same f ps from (length ps - 1) inside (record_after-last f ps (length ps - 1) (omega arith)))
      ∙ ap (λ n. records_in f ps from (n - from)) all)
  | inr ge ↦ (let same : min (length ps - 1) last ≡ last = omega arith in ap (λ n. records_in f ps from (n - from)) same)
]

-- records counted from the back of this many pulses, after an edit of their number
turned_moved : (pulses at gone come bound : ℕ) → gone < 2 ^ 64 → bound + at + come < 2 ^ 64 → (ks ss : List Record)
    → AllUpTo bound ss → map (turned pulses) ks ≡ map (moved (at + gone)) ss
    → map (turned (((pulses + (2 ^ 64 - gone)) % 2 ^ 64 + come) % 2 ^ 64)) ks ≡ map (moved (at + come)) ss
turned_moved pulses at gone come bound few fits [] [] up e = refl
turned_moved pulses at gone come bound few fits [] (s ∷ ss) up e = cc
turned_moved pulses at gone come bound few fits (k ∷ ks) [] up e = cc
turned_moved pulses at gone come bound few fits (k ∷ ks) (s ∷ ss) up e =
    let first : turned pulses k ≡ moved (at + gone) s = cc in
    let rest : map (turned pulses) ks ≡ map (moved (at + gone)) ss = cc in
    let number : from_other_end pulses k.marker ≡ s.marker + at + gone = omega (arith, ap (λ r. r.marker) first) in
    let now = from_other_end-moved pulses k.marker (s.marker + at) gone come few (omega (arith, up.0)) number in
    let place : from_other_end (((pulses + (2 ^ 64 - gone)) % 2 ^ 64 + come) % 2 ^ 64) k.marker ≡ s.marker + (at + come) = omega (arith, now) in
    let words : k.verdict ≡ s.verdict = ap (λ r. r.verdict) first in
    let later = turned_moved pulses at gone come bound few fits ks ss up.1 rest in
    λ i. record { marker = place i; verdict = words i } ∷ later i

-- the parts of the track before and after an edit
module _ (f : FormatView) (a x y b : List Pulse) (m count : ℕ) (order : m ≤ length a - 1) (all : List Record)
    (were : all ≡ frames f (a ++ (x ++ b)))
    (ends : EndsUpTo m (take count all))
    (begins : BeginsAfter m (drop count all)) where
  start : List Record
  start = records_in f (a ++ (x ++ b)) 0 m

  touched : List Record
  touched = records_in f (a ++ (x ++ b)) m (length a + length x - m)

  rest : List Record
  rest = map (moved (length a + length x)) (frames f b)

  rest_after : AllAfter (length a + length x) rest
  unfolding rest
  rest_after = AllAfter-moved (length a + length x) (frames f b) (records_in-after f b 0 (length b - 1))

  touched_up_to : AllUpTo (length a + length x) touched
  unfolding touched
  touched_up_to =
      AllUpTo-more (m + (length a + length x - m)) (length a + length x) touched (omega (arith, order))
      (records_in-up_to f (a ++ (x ++ b)) m (length a + length x - m))

  starts_up_to : (z : List Pulse) → AllUpTo m (records_in f z 0 m)
  starts_up_to z = AllUpTo-more (0 + m) m (records_in f z 0 m) (omega arith) (records_in-up_to f z 0 m)

  touched_after : AllAfter m touched
  unfolding touched
  touched_after = records_in-after f (a ++ (x ++ b)) m (length a + length x - m)

  -- the first records are those before the edit
  parted_first : (start ≡ take count all) × (touched ++ rest ≡ drop count all)
  unfolding start touched rest
  parted_first =
      parted_same m start (touched ++ rest) (take count all) (drop count all)
      (sym (frames_parted f a x b m (omega (arith, order))) ∙ (sym were ∙ sym (take-append-drop count all)))
      (starts_up_to (a ++ (x ++ b)))
      (AllAfter-append m touched rest touched_after (AllAfter-less (length a + length x) m rest (omega (arith, order)) rest_after))
      ends begins

  -- and read again they are those of the edited track
  pub told_parts : (last_retold f (a ++ (y ++ b)) (take count all) ≡ records_in f (a ++ (y ++ b)) 0 m)
      × LastMayBeStale f (a ++ (y ++ b)) (length a - 100) (take count all)
  unfolding start
  told_parts =
      subst (λ rs. (last_retold f (a ++ (y ++ b)) rs ≡ records_in f (a ++ (y ++ b)) 0 m) × LastMayBeStale f (a ++ (y ++ b)) (length a - 100) rs)
      parted_first.0 (start_retold f a (x ++ b) (y ++ b) m order)

  module _ (told : List Record) (now : told ≡ last_retold f (a ++ (y ++ b)) (take count all) ++ drop count all) where
    told_whole : told ≡ records_in f (a ++ (y ++ b)) 0 m ++ (touched ++ rest)
    told_whole = now ∙ λ i. told_parts.0 i ++ sym parted_first.1 i

    -- no record went or came, and none has a new number
    pub kept_parts : length x ≡ length y → BeginsAfter (length a + length x) (drop count all)
        → records_in f (a ++ (y ++ b)) m (length a + length y - m) ≡ [] → told ≡ frames f (a ++ (y ++ b))
    unfolding rest
    kept_parts same after none =
        let none_went = (parted_same (length a + length x) touched rest [] (drop count all) parted_first.1 touched_up_to rest_after tt after).0 in
        told_whole
        ∙ ((λ i. records_in f (a ++ (y ++ b)) 0 m ++ ((none_went ∙ sym none) i ++ map (moved (length a + same i)) (frames f b)))
        ∙ sym (frames_parted f a y b m (omega (arith, order))))

    module _ (pulses : ℕ) (g : GapView Record)
        (few : length x < 2 ^ 64) (fits : length b + length a + length y < 2 ^ 64)
        (sides : (s w r : List Record) → Parts m (length a + length x) told s w r → (left_of g ≡ s) × (right_of pulses g ≡ r)) where
      -- the gap is in the place of the window
      stood : (left_of g ≡ records_in f (a ++ (y ++ b)) 0 m) × (right_of pulses g ≡ rest)
      stood = sides (records_in f (a ++ (y ++ b)) 0 m) touched rest
          (record { whole = told_whole; early = starts_up_to (a ++ (y ++ b)); after = touched_after; up_to = touched_up_to; late = rest_after })

      module _ (h : GapView Record)
          (left : left_of h ≡ left_of g ++ records_in f (a ++ (y ++ b)) m (length a + length y - m))
          (kept : kept_right h ≡ kept_right g) where
        pub repaired_parts : shown (((pulses + (2 ^ 64 - length x)) % 2 ^ 64 + length y) % 2 ^ 64) h ≡ frames f (a ++ (y ++ b))
        unfolding rest
        repaired_parts =
            let number = ((pulses + (2 ^ 64 - length x)) % 2 ^ 64 + length y) % 2 ^ 64 in
            let window = records_in f (a ++ (y ++ b)) m (length a + length y - m) in
            let front : left_of h ≡ records_in f (a ++ (y ++ b)) 0 m ++ window = left ∙ ap (λ rs. rs ++ window) stood.0 in
            let back : right_of number h ≡ map (moved (length a + length y)) (frames f b) =
            ap (map (turned number)) kept
            ∙ turned_moved pulses (length a) (length x) (length y) (length b) few fits (kept_right g) (frames f b)
            (AllUpTo-more (0 + (length b - 1)) (length b) (frames f b) (omega arith) (records_in-up_to f b 0 (length b - 1))) stood.1 in
            (λ i. front i ++ back i)
            ∙ (append_assoc (records_in f (a ++ (y ++ b)) 0 m) window (map (moved (length a + length y)) (frames f b))
            ∙ sym (frames_parted f a y b m (omega (arith, order))))

pub length-filled : (g h : GapView Record) (rs : List Record) → left_of h ≡ left_of g ++ rs → kept_right h ≡ kept_right g
    → length h.items ≡ length g.items + length rs
length-filled g h rs left right =
    omega (arith, ap length left, length-append (left_of g) rs, ap length right, length-sides g, length-sides h)

-- the records round a gap, with some more in it, are the frames of a track
pub record Filled (f : FormatView) (ps : List Pulse) (number : ℕ) (g : GapView Record) (rs : List Record) : Type 0 where
  pub shows : (h : GapView Record) → left_of h ≡ left_of g ++ rs → kept_right h ≡ kept_right g → shown number h ≡ frames f ps

-- how many frames there then are
pub frames_long : (f : FormatView) (ps : List Pulse) (number : ℕ) (g : GapView Record) (rs : List Record) → Filled f ps number g rs
    → length (frames f ps) ≡ length g.items + length rs
frames_long f ps number g rs filled =
    let front = left_of g ++ rs in
    let h = gap_view (front ++ kept_right g) (length front) 0 in
    let left : left_of h ≡ front = take-append_seam front (kept_right g) in
    let kept : kept_right h ≡ kept_right g = drop-append_seam front (kept_right g) in
    omega (arith, ap length (filled.shows h left kept), length-shown number h, length-filled g h rs left kept)

-- an edited track: the records of the window, between those that stay
module _ (f : FormatView) (at gone come micros : ℕ) (records : List Record) (ps : List Pulse) (were : WereFrames f at gone come records micros ps)
    (few : length ps ≤ 2 ^ 26) (small : gone < 2 ^ 64) (from count : ℕ)
    (first : from ≡ at - 1)
    (ends : EndsUpTo from (take count records))
    (begins : BeginsAfter from (drop count records)) where
  before : List Pulse
  before = take at ps

  went : List Pulse
  went = take gone (drop at were.former)

  came : List Pulse
  came = take come (drop at ps)

  after : List Pulse
  after = drop (at + come) ps

  before_long : length before ≡ at
  unfolding before
  before_long = length-take-le at ps (omega (arith, were.span.came))

  went_long : length went ≡ gone
  unfolding went
  went_long = length-piece were.former at gone were.span.there

  came_long : length came ≡ come
  unfolding came
  came_long = length-piece ps at come were.span.came

  whole : ps ≡ before ++ (came ++ after)
  unfolding before came after
  whole = sym (parts at come ps)

  former : were.former ≡ before ++ (went ++ after)
  unfolding before went after
  former = sym (parts at gone were.former) ∙ (λ i. sym were.span.before i ++ (went ++ sym were.span.after i))

  order : from ≤ length before - 1
  order = omega (arith, before_long, first)

  fits : length after + length before + length came < 2 ^ 64
  unfolding after
  fits = omega (arith, before_long, came_long, length-drop (at + come) ps, were.span.came, few)

  last_gone : at + gone ≡ length before + length went
  last_gone = omega (arith, before_long, went_long)

  stood_so : records ≡ frames f (before ++ (went ++ after))
  stood_so = were.frames ∙ ap (frames f) former

  -- the first records are those before the edit
  pub stale : LastMayBeStale f ps (at - 100) (take count records)
  stale =
      subst (λ qs. LastMayBeStale f qs (at - 100) (take count records)) (sym whole)
      (subst (λ n. LastMayBeStale f (before ++ (came ++ after)) (n - 100) (take count records)) before_long
      (told_parts f before went came after from count order records stood_so ends begins).1)

  module _ (to place : ℕ) (last : to ≡ min (length ps - 1) (at + come)) (past : from ≤ place) (inside : place ≤ to)
      (none : (k : ℕ) → from ≤ k → k < place → record_after f ps k ≡ [])
      (told : List Record) (now : told ≡ last_retold f ps (take count records) ++ drop count records) where
    -- the window from its first marker on
    window : records_in f ps place (to - place) ≡ records_in f (before ++ (came ++ after)) from (length before + length came - from)
    window =
        window_skipped f ps from place to past inside none
        ∙ ((λ i. records_in f ps from (last i - from))
        ∙ (window_end f ps from (at + come) (omega (arith, first)) (omega (arith, first, were.span.came)) were.span.came
        ∙ λ i. records_in f (whole i) from (sym before_long i + sym came_long i - from)))

    told_so : told ≡ last_retold f (before ++ (came ++ after)) (take count records) ++ drop count records
    told_so = now ∙ ap (λ qs. last_retold f qs (take count records) ++ drop count records) whole

    -- no record went or came
    pub kept_in_place : gone ≡ come → place ≡ to → BeginsAfter (at + gone) (drop count records) → told ≡ frames f ps
    kept_in_place same done behind =
        let empty : to - place ≡ 0 = omega (arith, done) in
        kept_parts f before went came after from count order records stood_so ends begins told told_so
        (omega (arith, went_long, came_long, same)) (subst (λ n. BeginsAfter n (drop count records)) last_gone behind)
        (sym window ∙ (ap (records_in f ps place) empty ∙ records_in-none f ps place))
        ∙ ap (frames f) (sym whole)

    module _ (pulses : ℕ) (g : GapView Record)
        (sides : (s w r : List Record) → Parts from (at + gone) told s w r → (left_of g ≡ s) × (right_of pulses g ≡ r)) where
      sides_so : (s w r : List Record) → Parts from (length before + length went) told s w r → (left_of g ≡ s) × (right_of pulses g ≡ r)
      sides_so = subst (λ (n : ℕ). (s w r : List Record) → Parts from n told s w r → (left_of g ≡ s) × (right_of pulses g ≡ r)) last_gone sides

      -- the records that stay, with those of the window between them, are the frames
      pub repaired : Filled f ps (((pulses + (2 ^ 64 - gone)) % 2 ^ 64 + come) % 2 ^ 64) g (records_in f ps place (to - place))
      repaired = record {
        shows = λ h left kept. (λ i. shown (((pulses + (2 ^ 64 - sym went_long i)) % 2 ^ 64 + sym came_long i) % 2 ^ 64) h)
            ∙ (repaired_parts f before went came after from count order records stood_so ends begins told told_so
            pulses g (omega (arith, went_long, small)) fits sides_so
            h (left ∙ ap (λ rs. left_of g ++ rs) window) kept
            ∙ ap (frames f) (sym whole));
      }

-- the records of an index, as they are kept, were frames
pub were_kept : (f : FormatView) (at gone come micros : ℕ) (ps : List Pulse) (g : GapView Record) (pulses looks : ℕ) (v : IndexView)
    → index_view g pulses looks ≡ v → WereFrames f at gone come v.records micros ps → WereFrames f at gone come (shown pulses g) micros ps
were_kept f at gone come micros ps g pulses looks v is were = subst (λ (w : IndexView). WereFrames f at gone come w.records micros ps) (sym is) were

-- the room of an index
pub all_room : (g : GapView Record) (pulses looks : ℕ) (v : IndexView) → index_view g pulses looks ≡ v → length g.items ≤ g.capacity
    → length v.records + v.room ≡ g.capacity
all_room g pulses looks v is within = omega (arith, ap (λ w. length w.records) is, ap (λ w. w.room) is, length-shown pulses g)
