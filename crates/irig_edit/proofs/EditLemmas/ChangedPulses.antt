-- Pulses that are split, joined and forced.
use Rattle.std.proofs.Common.{◌≡◌, ◌≤◌, ◌<◌, ◌+◌, ◌-◌, ◌^◌, ◌==◌, ◌||◌, ◌&&◌, not, ℕ, suc, zero, Bool, true, false, List, [], ◌∷◌, ◌++◌, length, take, drop}
use Rattle.std.proofs.Common.{slice_get, get_or, Some, refl, ap, ap₂, sym, ◌∙◌, subst, arith, if◌then◌else◌}
use Rattle.std.proofs.{Math.Bool.or-true, Math.Seq.drop-nil}
use Rattle.std.proofs.lemmas.{Option.slice_get_within, Option.get_or_from_slice_get, Bool.Decides.nat_tests}
use Rattle.irig_recording.specs.{Recording.RisesFrom, declared.pulse.Pulse.Pulse}
use Rattle.irig_codes.specs.{declared.width.Element.Element, Width.nominal_of}
use Rattle.irig_track.specs.Edges.{edges_of, pulse, is_edge, has, replaced, without_between}
use Rattle.irig_track.specs.Splices.{spliced, piece, CanSplice}
use Rattle.irig_track.proofs.Laws.{edges_of-parts, is_edge-spliced, is_edge-joined}
use Rattle.irig_track.proofs.{RisingLists.rises_right, Sets.has-append, Places.pulse_within, Carried.length-spliced, Items.take-item}
use Rattle.irig_edit.specs.{State.State.State, State.State.IsState, State.State.with_pulses, Edits.Edits.pulse_of, Edits.Conditions.meets_next}
use Rattle.irig_edit.specs.{Edits.Becoming.Becomes, Session.Calls.Edit.Split, Session.Calls.Edit.Join, Session.Calls.Edit.Force}
use Rattle.irig_edit.proofs.{StateLemmas.TouchedStretches.pulse_after, EditLemmas.Replacements.IsTrack-replaced, EditLemmas.Replacements.piece-one}

-- an edge of a piece is an edge of the whole
pub member : (t at count : ℕ) (ps : List Pulse) → has t (edges_of (piece at count ps)) ≡ true → is_edge t ps ≡ true
member t at count ps here =
    let before = edges_of (take at ps) in
    let after = edges_of (drop (at + count) ps) in
    let mid = edges_of (piece at count ps) in
    ap (has t) (edges_of-parts at count ps) ∙ has-append t before (mid ++ after)
    ∙ ap (λ v. has t before || v) (has-append t mid after ∙ ap (λ v. v || has t after) here) ∙ or-true (has t before)

-- one time: two more edges between a rise and a fall
split_bit : (v r a b f : Bool) → ((r ≡ true → v ≡ true)) → (f ≡ true → v ≡ true)
    → ((v && not (if r then true else (if f then true else false))) ||
    (if r then true else (if a then true else (if b then true else (if f then true else false))))) ≡ (v || (a || b))
split_bit true true a b f rise fall = refl
split_bit true false a b false rise fall = refl
split_bit true false true b true rise fall = refl
split_bit true false false true true rise fall = refl
split_bit true false false false true rise fall = refl
split_bit false true a b f rise fall = let bad : false ≡ true = rise refl in cc
split_bit false false a b true rise fall = let bad : false ≡ true = fall refl in cc
split_bit false false true b false rise fall = refl
split_bit false false false true false rise fall = refl
split_bit false false false false false rise fall = refl

-- one time: one edge instead of a fall
force_bit : (v r f n : Bool) → (r ≡ true → v ≡ true) → (r ≡ true → f ≡ false)
    → ((v && not (if r then true else (if f then true else false))) || (if r then true else (if n then true else false)))
    ≡ ((v && not (if f then true else false)) || (if n then true else false))
force_bit true true true n rise apart = let bad : true ≡ false = apart refl in cc
force_bit true true false n rise apart = refl
force_bit true false f n rise apart = refl
force_bit false true f n rise apart = let bad : false ≡ true = rise refl in cc
force_bit false false f n rise apart = refl

pulse_of-is : (i : ℕ) (p : Pulse) (s : State) → slice_get s.pulses (i - 1) ≡ Some p → pulse_of i s ≡ p
pulse_of-is i p s is = get_or_from_slice_get s.pulses (i - 1) p (pulse 0 0) is

-- the rise of the one pulse of a piece is an edge, and so is its fall
rise_is_edge : (t at : ℕ) (p : Pulse) (ps : List Pulse) → piece at 1 ps ≡ p ∷ [] → (p.rise == t) ≡ true → is_edge t ps ≡ true
rise_is_edge t at p ps one here = member t at 1 ps (ap (λ (xs : List Pulse). has t (edges_of xs)) one ∙ rw here refl)

fall_is_edge : (t at : ℕ) (p : Pulse) (ps : List Pulse) → piece at 1 ps ≡ p ∷ [] → (p.fall == t) ≡ true → is_edge t ps ≡ true
fall_is_edge t at p ps one here = member t at 1 ps (ap (λ (xs : List Pulse). has t (edges_of xs)) one ∙ either (p.rise == t) here) where
  either : (v : Bool) {w : Bool} → w ≡ true → (if v then true else (if w then true else false)) ≡ true
  either true is = refl
  either false is = rw is refl

pub split_up : (s : State) (i a b : ℕ) (p : Pulse) → IsState s → 1 ≤ i → i ≤ length s.pulses → a < b → p.rise < a → b < p.fall
    → length s.pulses < 2 ^ 22 → slice_get s.pulses (i - 1) ≡ Some p
    → CanSplice s.micros (i - 1) 1 (pulse p.rise a ∷ pulse b p.fall ∷ []) s.pulses
    × Becomes (Split i a b) s (with_pulses (spliced (i - 1) 1 (pulse p.rise a ∷ pulse b p.fall ∷ []) s.pulses) s) (i + 1)
split_up s i a b p lawful first last order left right few is =
    let put : List Pulse = pulse p.rise a ∷ pulse b p.fall ∷ [] in
    let there : (i - 1) + 1 ≤ length s.pulses = omega arith in
    let one = piece-one (i - 1) p s.pulses is in
    let after = edges_of (drop (i - 1 + 1) s.pulses) in
    let top = pulse_within s.micros (i - 1) p s.pulses lawful.track.within is in
    let track = IsTrack-replaced s.micros (i - 1) 1 put s.pulses lawful.track there (omega arith)
    (λ k rises.
    let P : List Pulse → Type 0 = λ xs. RisesFrom k (edges_of xs ++ after) in
    let old = subst P one rises in
    (old.0, (omega arith, (omega arith, (omega arith, old.1.1)))))
    (omega arith, (omega arith, (omega arith, (top, tt)))) in (
      record { there = there; track = track },
      record {
        after = record {
          length = refl;
          track = track;
          edges = λ t. is_edge-spliced t (i - 1) 1 put s.pulses lawful.track.rises
              ∙ ap (λ (xs : List Pulse). replaced (edges_of xs) (edges_of put) t (is_edge t s.pulses)) one
              ∙ split_bit (is_edge t s.pulses) (p.rise == t) (a == t) (b == t) (p.fall == t) (rise_is_edge t (i - 1) p s.pulses one)
              (fall_is_edge t (i - 1) p s.pulses one);
          format = refl;
          marks = refl;
        };
        cursor = λ _. refl;
        there = omega (arith, length-spliced s.pulses put (i - 1) 1 there, first, last);
      },
    )

-- what follows rises after a time that is before the next rise
behind_time : (i low time : ℕ) (ps : List Pulse) → RisesFrom low (edges_of (drop i ps))
    → (i < length ps → time < (get_or ps i (pulse 0 0)).rise) → RisesFrom (time + 1) (edges_of (drop i ps))
behind_time i low time [] rises before = let none : drop i [] ≡ [] = drop-nil i in let P : List Pulse → Type 0 = λ xs. RisesFrom (time + 1) (edges_of xs) in
    subst P (sym none) tt
behind_time zero low time (q ∷ qs) rises before = (omega (arith, before (omega arith)), rises.1)
behind_time (suc i) low time (q ∷ qs) rises before = behind_time i low time qs rises (λ h. before (omega (arith, h)))

pub forced : (s : State) (i : ℕ) (e : Element) (p : Pulse) (fall : ℕ) → IsState s → 1 ≤ i → i ≤ length s.pulses
    → slice_get s.pulses (i - 1) ≡ Some p → fall ≡ p.rise + nominal_of s.format e → p.rise < fall → fall ≤ s.micros
    → (i < length s.pulses → fall < (pulse_of (i + 1) s).rise)
    → CanSplice s.micros (i - 1) 1 (pulse p.rise fall ∷ []) s.pulses
    × Becomes (Force i e) s (with_pulses (spliced (i - 1) 1 (pulse p.rise fall ∷ []) s.pulses) s) i
forced s i e p fall lawful first last is width high within free =
    let put : List Pulse = pulse p.rise fall ∷ [] in
    let there : (i - 1) + 1 ≤ length s.pulses = omega arith in
    let one = piece-one (i - 1) p s.pulses is in
    let after = edges_of (drop (i - 1 + 1) s.pulses) in
    let same : i - 1 + 1 ≡ i = omega arith in
    let next : i + 1 - 1 ≡ i = omega arith in
    let high_before : p.rise < p.fall = (pulse_after 0 (i - 1) p s.pulses lawful.track.rises is).1 in
    let before : i < length s.pulses → fall < (get_or s.pulses i (pulse 0 0)).rise =
    λ h. let Q : ℕ → Type 0 = λ n. fall < (get_or s.pulses n (pulse 0 0)).rise in subst Q next (free h) in
    let track = IsTrack-replaced s.micros (i - 1) 1 put s.pulses lawful.track there (omega (arith, lawful.track.few))
    (λ k rises.
    let P : List Pulse → Type 0 = λ xs. RisesFrom k (edges_of xs ++ after) in
    let old = subst P one rises in
    let Q : ℕ → Type 0 = λ n. RisesFrom (fall + 1) (edges_of (drop n s.pulses)) in
    let R : ℕ → Type 0 = λ n. RisesFrom (p.fall + 1) (edges_of (drop n s.pulses)) in
    (old.0, (omega arith, subst Q (sym same) (behind_time i (p.fall + 1) fall s.pulses (subst R same old.1.1) before))))
    (omega arith, (within, tt)) in (
      record { there = there; track = track },
      record {
        after = record {
          length = refl;
          track = track;
          edges = λ t. is_edge-spliced t (i - 1) 1 put s.pulses lawful.track.rises
              ∙ ap (λ (xs : List Pulse). replaced (edges_of xs) (edges_of put) t (is_edge t s.pulses)) one
              ∙ force_bit (is_edge t s.pulses) (p.rise == t) (p.fall == t) (fall == t) (rise_is_edge t (i - 1) p s.pulses one) (λ h. grind (arith, nat_tests))
              ∙ ap (λ n. replaced (p.fall ∷ []) (n ∷ []) t (is_edge t s.pulses)) width
              ∙ ap (λ (r : Pulse). replaced (r.fall ∷ []) ((r.rise + nominal_of s.format e) ∷ []) t (is_edge t s.pulses)) (sym (pulse_of-is i p s is));
          format = refl;
          marks = refl;
        };
        cursor = λ _. refl;
        there = omega (arith, length-spliced s.pulses put (i - 1) 1 there, first, last);
      },
    )

-- the edges between the first rise and the last fall
regroup : (q : Pulse) (mid : List Pulse) (after : List ℕ)
    → edges_of (mid ++ (q ∷ [])) ++ after ≡ (edges_of mid ++ (q.rise ∷ [])) ++ (q.fall ∷ after)
regroup q [] after = refl
regroup q (m ∷ mid) after = ap (λ xs. m.rise ∷ m.fall ∷ xs) (regroup q mid after)

end_taken : (xs : List Pulse) (n : ℕ) (q : Pulse) → slice_get xs n ≡ Some q → take (suc n) xs ≡ take n xs ++ q ∷ []
end_taken xs n q is = let up : suc n ≡ n + 1 = omega arith in ap (λ k. take k xs) up ∙ take-item xs n q is

-- the first and the last of a piece
ends : (ps : List Pulse) (at n : ℕ) (p q : Pulse) → slice_get ps at ≡ Some p → slice_get ps (suc (at + n)) ≡ Some q
    → take (suc (suc n)) (drop at ps) ≡ p ∷ (take n (drop (suc at) ps) ++ (q ∷ []))
ends [] at n p q first last = absurd (let none = slice_get_within [] at p first in omega (arith, none))
ends (x ∷ xs) zero n p q first last =
    let e : x ≡ p = cc in
    let k : zero + n ≡ n = omega arith in
    (λ j. e j ∷ end_taken xs n q (sym (ap (slice_get xs) k) ∙ last) j)
ends (x ∷ xs) (suc at) n p q first last =
    let k : suc at + n ≡ suc (at + n) = omega arith in
    ends xs at n p q first (sym (ap (slice_get xs) k) ∙ last)

pub joined : (s : State) (i j : ℕ) (p q : Pulse) → IsState s → 1 ≤ i → i < j → j ≤ length s.pulses
    → slice_get s.pulses (i - 1) ≡ Some p → slice_get s.pulses (j - 1) ≡ Some q
    → CanSplice s.micros (i - 1) (j + 1 - i) (pulse p.rise q.fall ∷ []) s.pulses
    × Becomes (Join i j) s (with_pulses (spliced (i - 1) (j + 1 - i) (pulse p.rise q.fall ∷ []) s.pulses) s) i
joined s i j p q lawful first order last is_first is_last =
    let put : List Pulse = pulse p.rise q.fall ∷ [] in
    let n = j - i - 1 in
    let there : (i - 1) + (j + 1 - i) ≤ length s.pulses = omega arith in
    let count : j + 1 - i ≡ suc (suc n) = omega arith in
    let end : suc (i - 1 + n) ≡ j - 1 = omega arith in
    let mid = take n (drop (suc (i - 1)) s.pulses) in
    let cut : piece (i - 1) (j + 1 - i) s.pulses ≡ p ∷ (mid ++ (q ∷ [])) =
    ap (λ k. take k (drop (i - 1) s.pulses)) count ∙ ends s.pulses (i - 1) n p q is_first (ap (slice_get s.pulses) end ∙ is_last) in
    let after = edges_of (drop (i - 1 + (j + 1 - i)) s.pulses) in
    let top = pulse_within s.micros (j - 1) q s.pulses lawful.track.within is_last in
    let low = pulse_after 0 (i - 1) p s.pulses lawful.track.rises is_first in
    let first_top = pulse_within s.micros (i - 1) p s.pulses lawful.track.within is_first in
    let track = IsTrack-replaced s.micros (i - 1) (j + 1 - i) put s.pulses lawful.track there (omega (arith, lawful.track.few))
    (λ k rises.
    let P : List Pulse → Type 0 = λ xs. RisesFrom k (edges_of xs ++ after) in
    let old = subst P cut rises in
    let Q : List ℕ → Type 0 = λ xs. RisesFrom (p.rise + 1) (p.fall ∷ xs) in
    let between = subst Q (regroup q mid after) old.1 in
    (old.0, rises_right (p.rise + 1) (p.fall ∷ (edges_of mid ++ (q.rise ∷ []))) (q.fall ∷ after) between))
    (omega (arith, low.1, first_top), (top, tt)) in (
      record { there = there; track = track },
      record {
        after = record {
          length = refl;
          track = track;
          edges = λ t. is_edge-joined t (i - 1) (j + 1 - i) p q mid s.pulses cut lawful.track.rises
              ∙ ap₂ (λ (x y : Pulse). without_between x.fall y.rise t (is_edge t s.pulses)) (sym (pulse_of-is i p s is_first))
              (sym (pulse_of-is j q s is_last));
          format = refl;
          marks = refl;
        };
        cursor = λ _. refl;
        there = omega (arith, length-spliced s.pulses put (i - 1) (j + 1 - i) there, first, order, last);
      },
    )

-- the next pulse is not met
pub next_free : (i time : ℕ) (s : State) → meets_next i time s ≡ false → i < length s.pulses → time < (pulse_of (i + 1) s).rise
next_free i time s none more = grind (arith, nat_tests)
