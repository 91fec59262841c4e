use Rattle.std.proofs.Common.{◌≡◌, ℕ, ◌+◌, ◌-◌, ◌*◌, ◌<◌, ◌≤◌, List, [], ◌∷◌, ◌++◌, length, min, refl, ap, sym, subst, ◌∙◌, arith, append_assoc, length-append}
use Rattle.std.proofs.lemmas.List.{append-nil}
use Rattle.irig_codes.specs.Format.{FormatView}
use Rattle.irig_gap.specs.Items.{GapView}
use Rattle.irig_recording.specs.declared.pulse.Pulse.{Pulse}
use Rattle.irig_index.specs.Frames.{frame_at, record_after, records_in}
use Rattle.irig_index.specs.{declared.record.Record.Record, Kept.IsNarrow, Passed.StandsAfter, Sides.left_of, Sides.kept_right, Verdict.verdict_of}
use Rattle.irig_index.proofs.PlaceLemmas.{checked_in, found_in, found_record, passed_in, same_pulses, window_found, window_none}
use Rattle.irig_index.proofs.{FrameLemmas.records_in-le, FrameLemmas.records_in-none, LookBounds.spent_all, LookBounds.spent_checked, LookBounds.spent_none}
use Rattle.irig_index.proofs.{LookBounds.spent_on, LookBounds.spent_passed, LookLemmas.looked_up, NarrowVerdicts.narrow-verdict_of, SideLemmas.length-sides}
use Rattle.irig_index.proofs.filling.fill.Goals as goal

pub loop-before-init : goal.loop-before-init
loop-before-init c =
    let none : c.args.from - c.args.from ≡ 0 = omega arith in
    record {
      spent = spent_none _ _ _ _ _;
      within = c.requires.order;
      left = sym (ap (λ rs. left_of c.args.records.now ++ rs) (ap (records_in c.args.format c.args.lens.now.track.pulses c.args.from) none
          ∙ records_in-none c.args.format c.args.lens.now.track.pulses c.args.from) ∙ append-nil (left_of c.args.records.now));
      right = refl;
      room = λ _. refl;
      bounded = omega arith;
    }

-- a marker that was found has a record
some_after : (f : FormatView) (ps : List Pulse) (before : ℕ) (p : Pulse) → StandsAfter f ps before p → record_after f ps before ≡ [] → ⊥
some_after f ps before p found none = let no : found_record f ps before ∷ [] ≡ [] = sym found.record_is ∙ none in absurd (cc no)

-- the records so far and the next one fit if all do
fits : (f : FormatView) (ps : List Pulse) (from place before to : ℕ) (old now : GapView Record) (p : Pulse) → from ≤ place → place ≤ before → before < to
    → ((k : ℕ) → place ≤ k → k < before → record_after f ps k ≡ []) → StandsAfter f ps before p
    → left_of now ≡ left_of old ++ records_in f ps from (place - from) → kept_right now ≡ kept_right old
    → length old.items + length (records_in f ps from (to - from)) ≤ old.capacity → now.capacity ≡ old.capacity
    → length now.items + 1 ≤ now.capacity
fits f ps from place before to old now p order more lt none found left right room same =
    let next = ap length (window_found f ps from place before p order more none found) in
    let long = length-append (records_in f ps from (place - from)) (found_record f ps before ∷ []) in
    let enough = records_in-le f ps from (before + 1 - from) (to - from) (omega (arith, lt)) in
    let sides = ap length left ∙ length-append (left_of old) (records_in f ps from (place - from)) in
    omega (arith, next, long, enough, sides, ap length right, length-sides old, length-sides now)

pub new-requires : goal.new-requires
new-requires c = subst IsNarrow (sym c.verdict-verdict.ensures.verdict) (narrow-verdict_of c.args.format _)

pub loop-before-preserved : goal.loop-before-preserved
loop-before-preserved c =
    let f = c.args.format in
    let ps = c.args.lens.now.track.pulses in
    let place = c.loop-before.place in
    let before = c.in-Some.before in
    let first = c.in-Some.first in
    let so_far = c.loop-before.invariant in
    let passed = passed_in so_far.spent.looked c.in-Some.ensures.passed in
    let found = found_in so_far.spent.looked c.in-Some.ensures.found.1 in
    let check = checked_in so_far.spent.looked (checked_in passed.looked c.verdict-verdict.ensures.looked) in
    let seen = same_pulses passed.looked ∙ same_pulses so_far.spent.looked in
    let verdict = c.verdict-verdict.ensures.verdict ∙ ap (λ qs. verdict_of f (frame_at qs (before + 1))) seen in
    let next = c.next_place-place.result in
    let alone : (k : ℕ) → before + 1 ≤ k → k < next → record_after f ps k ≡ [] =
    λ k from to. ap (λ qs. record_after f qs k) (sym seen) ∙ c.verdict-verdict.ensures.alone k from (c.next_place-place.ensures.near k from to) in
    record {
      spent = spent_on f ps c.args.from (before + 1) next _ _ _ _ c.next_place-place.ensures.order
          (spent_checked f ps c.args.from place before _ _ _ _ _ _ _ _ so_far.spent passed check (some_after f ps before first found));
      within = c.next_place-place.ensures.within;
      left = c.in_ok-put.ensures.left
          ∙ (ap (λ r. left_of c.loop-before.records ++ (r ∷ [])) c.new.ensures
          ∙ ((λ i. so_far.left i ++ (record { marker = before + 1; verdict = verdict i }) ∷ [])
          ∙ (append_assoc (left_of c.args.records.now) (records_in f ps c.args.from (place - c.args.from)) (found_record f ps before ∷ [])
          ∙ ap (λ rs. left_of c.args.records.now ++ rs) (sym (window_found f ps c.args.from place before first so_far.spent.order passed.order passed.none
          found)
          ∙ sym (window_none f ps c.args.from (before + 1) next (omega (arith, so_far.spent.order, passed.order)) c.next_place-place.ensures.order alone)))));
      right = c.in_ok-put.ensures.right ∙ so_far.right;
      room = λ enough. (c.in_ok-put.ensures.room (fits f ps c.args.from place before c.args.to _ _ first so_far.spent.order passed.order
          c.in-Some.ensures.found.0 passed.none found
          so_far.left so_far.right enough (so_far.room enough))).1 ∙ so_far.room enough;
      bounded = omega (arith, so_far.bounded, c.in_ok-put.ensures.bounded, c.in_ok-put.ensures.long);
    }

pub returns-in_err-put-clause-room : goal.returns-in_err-put-clause-room
returns-in_err-put-clause-room c = λ enough.
    let f = c.args.format in
    let ps = c.args.lens.now.track.pulses in
    let before = c.in-Some.before in
    let so_far = c.loop-before.invariant in
    let passed = passed_in so_far.spent.looked c.in-Some.ensures.passed in
    let found = found_in so_far.spent.looked c.in-Some.ensures.found.1 in
    let room = c.in_err-put.ensures.room (fits f ps c.args.from c.loop-before.place before c.args.to _ _ c.in-Some.first so_far.spent.order passed.order
    c.in-Some.ensures.found.0 passed.none found
    so_far.left so_far.right enough (so_far.room enough)) in
    absurd (cc room.0)

pub returns-in_err-put-clause-looked : goal.returns-in_err-put-clause-looked
returns-in_err-put-clause-looked c =
    let f = c.args.format in
    let ps = c.args.lens.now.track.pulses in
    let before = c.in-Some.before in
    let so_far = c.loop-before.invariant in
    let passed = passed_in so_far.spent.looked c.in-Some.ensures.passed in
    let found = found_in so_far.spent.looked c.in-Some.ensures.found.1 in
    let check = checked_in so_far.spent.looked (checked_in passed.looked c.verdict-verdict.ensures.looked) in
    let spent = spent_checked f ps c.args.from c.loop-before.place before _ _ _ _ _ _ _ _ so_far.spent passed check
    (some_after f ps before c.in-Some.first found) in
    let w = c.args.to - c.args.from in
    looked_up _ _ _ _ _ (min (101 * w) (3 * w + 98)) (spent_all f ps c.args.from (before + 1) _ _ _ _ spent) (omega (arith, c.in-Some.ensures.found.0))

pub returns-clause-left : goal.returns-clause-left
returns-clause-left c =
    let f = c.args.format in
    let ps = c.args.lens.now.track.pulses in
    let so_far = c.loop-before.invariant in
    let passed = passed_in so_far.spent.looked c.in_default.ensures.passed in
    so_far.left ∙ ap (λ rs. left_of c.args.records.now ++ rs)
    (sym (window_none f ps c.args.from c.loop-before.place c.args.to so_far.spent.order passed.order passed.none))

pub returns-clause-looked : goal.returns-clause-looked
returns-clause-looked c =
    let f = c.args.format in
    let ps = c.args.lens.now.track.pulses in
    let so_far = c.loop-before.invariant in
    let passed = passed_in so_far.spent.looked c.in_default.ensures.passed in
    spent_all f ps c.args.from c.args.to _ _ _ _ (spent_passed f ps c.args.from c.loop-before.place c.args.to _ _ _ _ _ _ so_far.spent passed)
