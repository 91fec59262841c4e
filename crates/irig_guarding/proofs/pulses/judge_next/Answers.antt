use Rattle.std.proofs.Common.{◌≡◌, ◌∙◌, None, Some, arith, false, slice_get, sym, true}
use Rattle.std.proofs.lemmas.Option.{slice_get_within}
use Rattle.irig_safety.specs.Original.{with_frames}
use Rattle.irig_guarding.proofs.ControlLemmas.{after_all, before_next}
use Rattle.irig_guarding.proofs.PulseLemmas.{comes_before, lost_at, passes_err, passes_ok, stands_at, strays_at}
use Rattle.irig_guarding.proofs.pulses.judge_next.Goals as goal

pub returns-in_default-clause-stand : goal.returns-in_default-clause-stand
returns-in_default-clause-stand c = λ rest found.
    let none : slice_get c.args.former.now c.args.passed ≡ None = sym c.frame_at.ensures ∙ c.in_default.is in
    passes_ok (with_frames c.args.former.now c.args.opened.now) c.args.session.now.state c.args.passed c.args.frame.now c.judge_new_frame.result rest found
    (comes_before (with_frames c.args.former.now c.args.opened.now) c.args.session.now.state c.args.passed _ c.args.frame.now c.judge_new_frame.result rest
    (after_all (with_frames c.args.former.now c.args.opened.now) c.args.passed c.args.frame.now none) c.near_in-near.ensures c.judge_new_frame.ensures)

pub returns-in_default-clause-fault : goal.returns-in_default-clause-fault
returns-in_default-clause-fault c = λ rest.
    let none : slice_get c.args.former.now c.args.passed ≡ None = sym c.frame_at.ensures ∙ c.in_default.is in
    passes_err (with_frames c.args.former.now c.args.opened.now) c.args.session.now.state c.args.passed c.args.frame.now c.judge_new_frame.result rest
    (comes_before (with_frames c.args.former.now c.args.opened.now) c.args.session.now.state c.args.passed _ c.args.frame.now c.judge_new_frame.result rest
    (after_all (with_frames c.args.former.now c.args.opened.now) c.args.passed c.args.frame.now none) c.near_in-near.ensures c.judge_new_frame.ensures)

pub returns-then-frame-next-clause-stand : goal.returns-then-frame-next-clause-stand
returns-then-frame-next-clause-stand c = λ rest found.
    let here : slice_get c.args.former.now c.args.passed ≡ Some c.in-Some.next = sym c.frame_at.ensures ∙ c.in-Some.is in
    passes_ok (with_frames c.args.former.now c.args.opened.now) c.args.session.now.state c.args.passed c.args.frame.now
    c.judge_new_frame-then-frame-next.result rest found
    (comes_before (with_frames c.args.former.now c.args.opened.now) c.args.session.now.state c.args.passed _ c.args.frame.now
    c.judge_new_frame-then-frame-next.result rest
    (before_next (with_frames c.args.former.now c.args.opened.now) c.args.passed c.in-Some.next c.args.frame.now here (omega (arith, c.if-frame-next.true)))
    c.near_in-near-then-frame-next.ensures c.judge_new_frame-then-frame-next.ensures)

pub returns-then-frame-next-clause-fault : goal.returns-then-frame-next-clause-fault
returns-then-frame-next-clause-fault c = λ rest.
    let here : slice_get c.args.former.now c.args.passed ≡ Some c.in-Some.next = sym c.frame_at.ensures ∙ c.in-Some.is in
    passes_err (with_frames c.args.former.now c.args.opened.now) c.args.session.now.state c.args.passed c.args.frame.now
    c.judge_new_frame-then-frame-next.result rest
    (comes_before (with_frames c.args.former.now c.args.opened.now) c.args.session.now.state c.args.passed _ c.args.frame.now
    c.judge_new_frame-then-frame-next.result rest
    (before_next (with_frames c.args.former.now c.args.opened.now) c.args.passed c.in-Some.next c.args.frame.now here (omega (arith, c.if-frame-next.true)))
    c.near_in-near-then-frame-next.ensures c.judge_new_frame-then-frame-next.ensures)

pub returns-then-next-frame-clause-fault : goal.returns-then-next-frame-clause-fault
returns-then-next-frame-clause-fault c = λ rest.
    let here : slice_get c.args.former.now c.args.passed ≡ Some c.in-Some.next = sym c.frame_at.ensures ∙ c.in-Some.is in
    lost_at (with_frames c.args.former.now c.args.opened.now) c.args.session.now.state c.args.passed c.in-Some.next c.args.frame.now rest here
    (omega (arith, c.if-next-frame.true))

pub returns-then-rises_as_former-clause-within : goal.returns-then-rises_as_former-clause-within
returns-then-rises_as_former-clause-within c =
    let here : slice_get c.args.former.now c.args.passed ≡ Some c.in-Some.next = sym c.frame_at.ensures ∙ c.in-Some.is in
    let less = slice_get_within c.args.former.now c.args.passed c.in-Some.next here in
    omega (arith, less)

pub returns-then-rises_as_former-clause-stand : goal.returns-then-rises_as_former-clause-stand
returns-then-rises_as_former-clause-stand c = λ rest found h.
    let here : slice_get c.args.former.now c.args.passed ≡ Some c.in-Some.next = sym c.frame_at.ensures ∙ c.in-Some.is in
    stands_at (with_frames c.args.former.now c.args.opened.now) c.args.session.now.state c.args.passed c.in-Some.next c.args.frame.now rest found here
    (omega (arith, c.if-frame-next.false, c.if-next-frame.false)) (c.rises_as_former.ensures.0 c.if-rises_as_former.true) h

pub returns-else-rises_as_former-clause-fault : goal.returns-else-rises_as_former-clause-fault
returns-else-rises_as_former-clause-fault c = λ rest.
    let here : slice_get c.args.former.now c.args.passed ≡ Some c.in-Some.next = sym c.frame_at.ensures ∙ c.in-Some.is in
    strays_at (with_frames c.args.former.now c.args.opened.now) c.args.session.now.state c.args.passed c.in-Some.next c.args.frame.now rest here
    (omega (arith, c.if-frame-next.false, c.if-next-frame.false))
    (λ same. let bad : false ≡ true = sym c.if-rises_as_former.false ∙ c.rises_as_former.ensures.1 same in absurd (cc))
