use Rattle.std.proofs.Common.{◌+◌, ◌||◌, drop, length, slice_get, false, arith, ap, sym, ◌∙◌}
use Rattle.std.proofs.lemmas.Option.{slice_get-get_or}
use Rattle.irig_timed.specs.Reasons.{has_doubtful}
use Rattle.irig_timed.proofs.Doubts.{all-past, next, skip}
use Rattle.irig_timed.proofs.held.has_doubtful.Goals as goal

pub loop-place-init : goal.loop-place-init
loop-place-init c = record {
  same = c.first_after-place.ensures.same;
  rest = skip c.args.format c.args.from c.args.to c.first_after-place.result c.args.records.now.records c.args.held.now c.first_after-place.ensures.parted;
}

pub record-record-requires : goal.record-record-requires
record-record-requires c =
    let many = ap (λ l. length l) c.loop-place.invariant.same in
    let first = ap (λ l. length l) c.first_after-place.ensures.same in
    omega (arith, c.loop-place-test.true, many, first, c.len-place-end.ensures)

pub returns-then-not-is_before-clause-doubt : goal.returns-then-not-is_before-clause-doubt
returns-then-not-is_before-clause-doubt c =
    let rs = c.args.records.now.records in
    let place = c.loop-place.place in
    let here = ap (λ l. slice_get l place) (sym c.loop-place.invariant.same) ∙ c.record-record.ensures.value in
    let off = sym c.is_before.ensures ∙ c.if-not-is_before.true in
    sym (c.loop-place.invariant.rest
    ∙ all-past c.args.format c.args.from c.args.to rs c.args.held.now c.requires.order place c.record-record.result here off)

pub returns-then-is_doubtful-clause-doubt : goal.returns-then-is_doubtful-clause-doubt
returns-then-is_doubtful-clause-doubt c =
    let rs = c.args.records.now.records in
    let place = c.loop-place.place in
    let here = ap (λ l. slice_get l place) (sym c.loop-place.invariant.same) ∙ c.record-record.ensures.value in
    let first = ap (λ l. length l) c.first_after-place.ensures.same in
    let held = slice_get-get_or c.args.held.now place false (omega (arith, c.loop-place-test.true, first, c.len-place-end.ensures, c.requires.held)) in
    let on = sym c.is_doubtful.ensures ∙ c.if-is_doubtful.true in
    sym (c.loop-place.invariant.rest
    ∙ (next c.args.format c.args.from c.args.to rs c.args.held.now place c.record-record.result _ here held
    ∙ ap (λ b. b || has_doubtful c.args.format c.args.from c.args.to (drop (place + 1) rs) (drop (place + 1) c.args.held.now)) on))

pub loop-place-preserved : goal.loop-place-preserved
loop-place-preserved c =
    let rs = c.args.records.now.records in
    let place = c.loop-place.place in
    let here = ap (λ l. slice_get l place) (sym c.loop-place.invariant.same) ∙ c.record-record.ensures.value in
    let first = ap (λ l. length l) c.first_after-place.ensures.same in
    let held = slice_get-get_or c.args.held.now place false (omega (arith, c.loop-place-test.true, first, c.len-place-end.ensures, c.requires.held)) in
    let off = sym c.is_doubtful.ensures ∙ c.if-is_doubtful.false in
    record {
      same = ap (λ v. v.records) c.record-record.ensures.counted ∙ c.loop-place.invariant.same;
      rest = c.loop-place.invariant.rest
          ∙ (next c.args.format c.args.from c.args.to rs c.args.held.now place c.record-record.result _ here held
          ∙ ap (λ b. b || has_doubtful c.args.format c.args.from c.args.to (drop (place + 1) rs) (drop (place + 1) c.args.held.now)) off);
    }
