use Rattle.std.proofs.Common.{◌≡◌, ◌+◌, ◌*◌, ◌-◌, [], ◌∷◌, length, ap, sym, ◌∙◌, arith, length-append}
use Rattle.irig_index.specs.Frames.{records_in}
use Rattle.irig_index.proofs.PlaceLemmas.{found_in, found_record, passed_in, window_found, window_none}
use Rattle.irig_index.proofs.{FrameLemmas.records_in-none, LookLemmas.looked_more, LookLemmas.looked_none}
use Rattle.irig_index.proofs.filling.count_markers.Goals as goal

pub loop-before-init : goal.loop-before-init
loop-before-init c = record {
  looked = looked_none c.args.lens.now c.args.looks.now;
  within = omega arith;
  few = omega arith;
  count = ap length (sym (records_in-none c.args.format c.args.lens.now.track.pulses 0));
}

pub loop-before-preserved : goal.loop-before-preserved
loop-before-preserved c =
    let f = c.args.format in
    let ps = c.args.lens.now.track.pulses in
    let place = c.loop-before.place in
    let before = c.in-Some.before in
    let so_far = c.loop-before.invariant in
    let passed = passed_in so_far.looked c.in-Some.ensures.passed in
    let found = found_in so_far.looked c.in-Some.ensures.found.1 in
    let next = ap length (window_found f ps 0 place before c.in-Some.field-0-1 (omega arith) passed.order passed.none found) in
    record {
      looked = looked_more _ _ _ _ _ _ (2 * place) (2 * (before - place) + 2) (2 * (before + 1)) so_far.looked passed.looked (omega (arith, passed.order));
      within = omega (arith, c.in-Some.ensures.found.0);
      few = omega (arith, so_far.few, passed.order);
      count = omega (arith, so_far.count, next, length-append (records_in f ps 0 (place - 0)) (found_record f ps before ∷ []));
    }

pub returns-clause-count : goal.returns-clause-count
returns-clause-count c =
    let f = c.args.format in
    let ps = c.args.lens.now.track.pulses in
    let so_far = c.loop-before.invariant in
    let to = c.saturating_sub-to.result in
    let passed = passed_in so_far.looked c.in_default.ensures.passed in
    let all : to - 0 ≡ length ps - 1 = omega (arith, c.saturating_sub-to.ensures, c.len.ensures.len) in
    so_far.count
    ∙ (ap length (sym (window_none f ps 0 c.loop-before.place to (omega arith) passed.order passed.none))
    ∙ ap (λ n. length (records_in f ps 0 n)) all)

pub returns-clause-looked : goal.returns-clause-looked
returns-clause-looked c =
    let so_far = c.loop-before.invariant in
    let passed = c.in_default.ensures.passed in
    let place = c.loop-before.place in
    let to = c.saturating_sub-to.result in
    looked_more _ _ _ _ _ _ (2 * place) (2 * (to - place) + 0) (2 * (length c.args.lens.now.track.pulses - 1)) so_far.looked passed.looked
    (omega (arith, passed.order, c.saturating_sub-to.ensures, c.len.ensures.len))
