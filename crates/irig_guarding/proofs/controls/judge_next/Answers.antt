use Rattle.std.proofs.Common.{◌≡◌, ◌∙◌, None, Some, arith, false, inl, slice_get, sym, true}
use Rattle.std.proofs.lemmas.Option.{slice_get_within}
use Rattle.irig_safety.specs.Original.{with_frames}
use Rattle.irig_guarding.proofs.ControlLemmas.{after_all, as_at, before_next, judged_at, judged_before, judged_within, passed_by, passes_err, passes_ok}
use Rattle.irig_guarding.proofs.controls.judge_next.Goals as goal

pub returns-in_default-clause-borne : goal.returns-in_default-clause-borne
returns-in_default-clause-borne c = λ rest found.
    let none : slice_get c.args.former.now c.args.passed ≡ None = sym c.frame_at.ensures ∙ c.in_default.is in
    passes_ok (with_frames c.args.former.now c.args.opened.now) c.args.session.now.state c.args.passed c.args.frame.now c.judge_functions.result rest found
    (judged_before (with_frames c.args.former.now c.args.opened.now) c.args.session.now.state c.args.passed _ c.args.frame.now c.judge_functions.result rest
    (after_all (with_frames c.args.former.now c.args.opened.now) c.args.passed c.args.frame.now none) c.near_in-near.ensures c.judge_functions.ensures)

pub returns-in_default-clause-fault : goal.returns-in_default-clause-fault
returns-in_default-clause-fault c = λ rest.
    let none : slice_get c.args.former.now c.args.passed ≡ None = sym c.frame_at.ensures ∙ c.in_default.is in
    passes_err (with_frames c.args.former.now c.args.opened.now) c.args.session.now.state c.args.passed c.args.frame.now c.judge_functions.result rest
    (judged_before (with_frames c.args.former.now c.args.opened.now) c.args.session.now.state c.args.passed _ c.args.frame.now c.judge_functions.result rest
    (after_all (with_frames c.args.former.now c.args.opened.now) c.args.passed c.args.frame.now none) c.near_in-near.ensures c.judge_functions.ensures)

pub returns-then-frame-next-clause-borne : goal.returns-then-frame-next-clause-borne
returns-then-frame-next-clause-borne c = λ rest found.
    let here : slice_get c.args.former.now c.args.passed ≡ Some c.in-Some.next = sym c.frame_at.ensures ∙ c.in-Some.is in
    passes_ok (with_frames c.args.former.now c.args.opened.now) c.args.session.now.state c.args.passed c.args.frame.now
    c.judge_functions-then-frame-next.result rest found
    (judged_before (with_frames c.args.former.now c.args.opened.now) c.args.session.now.state c.args.passed _ c.args.frame.now
    c.judge_functions-then-frame-next.result rest
    (before_next (with_frames c.args.former.now c.args.opened.now) c.args.passed c.in-Some.next c.args.frame.now here
    (omega (arith, c.if-frame-next.true))) c.near_in-near-then-frame-next.ensures c.judge_functions-then-frame-next.ensures)

pub returns-then-frame-next-clause-fault : goal.returns-then-frame-next-clause-fault
returns-then-frame-next-clause-fault c = λ rest.
    let here : slice_get c.args.former.now c.args.passed ≡ Some c.in-Some.next = sym c.frame_at.ensures ∙ c.in-Some.is in
    passes_err (with_frames c.args.former.now c.args.opened.now) c.args.session.now.state c.args.passed c.args.frame.now
    c.judge_functions-then-frame-next.result rest
    (judged_before (with_frames c.args.former.now c.args.opened.now) c.args.session.now.state c.args.passed _ c.args.frame.now
    c.judge_functions-then-frame-next.result rest
    (before_next (with_frames c.args.former.now c.args.opened.now) c.args.passed c.in-Some.next c.args.frame.now here
    (omega (arith, c.if-frame-next.true))) c.near_in-near-then-frame-next.ensures c.judge_functions-then-frame-next.ensures)

pub returns-then-next-frame-clause-fault : goal.returns-then-next-frame-clause-fault
returns-then-next-frame-clause-fault c = λ rest.
    let here : slice_get c.args.former.now c.args.passed ≡ Some c.in-Some.next = sym c.frame_at.ensures ∙ c.in-Some.is in
    passed_by (with_frames c.args.former.now c.args.opened.now) c.args.session.now.state c.args.passed c.in-Some.next c.args.frame.now rest here
    (omega (arith, c.if-next-frame.true))

pub returns-then-is_same-clause-within : goal.returns-then-is_same-clause-within
returns-then-is_same-clause-within c =
    let here : slice_get c.args.former.now c.args.passed ≡ Some c.in-Some.next = sym c.frame_at.ensures ∙ c.in-Some.is in
    let less = slice_get_within c.args.former.now c.args.passed c.in-Some.next here in
    omega (arith, less)

pub returns-then-is_same-clause-borne : goal.returns-then-is_same-clause-borne
returns-then-is_same-clause-borne c = λ rest found.
    let here : slice_get c.args.former.now c.args.passed ≡ Some c.in-Some.next = sym c.frame_at.ensures ∙ c.in-Some.is in
    as_at (with_frames c.args.former.now c.args.opened.now) c.args.session.now.state c.args.passed c.in-Some.next c.args.frame.now rest found here
    (omega (arith, c.if-frame-next.false, c.if-next-frame.false)) (inl (c.is_same.ensures.0 c.if-is_same.true))

pub near_in-around-requires : goal.near_in-around-requires
near_in-around-requires c =
    let here : slice_get c.args.former.now c.args.passed ≡ Some c.in-Some.next = sym c.frame_at.ensures ∙ c.in-Some.is in
    let less = slice_get_within c.args.former.now c.args.passed c.in-Some.next here in
    (c.requires, omega (arith, less))

pub returns-clause-within : goal.returns-clause-within
returns-clause-within c =
    let here : slice_get c.args.former.now c.args.passed ≡ Some c.in-Some.next = sym c.frame_at.ensures ∙ c.in-Some.is in
    let less = slice_get_within c.args.former.now c.args.passed c.in-Some.next here in
    judged_within (with_frames c.args.former.now c.args.opened.now) c.args.session.now.state _ c.args.frame.now _ _ c.judge_functions-2.result
    (omega (arith, less)) c.judge_functions-2.ensures

pub returns-clause-borne : goal.returns-clause-borne
returns-clause-borne c = λ rest found.
    let here : slice_get c.args.former.now c.args.passed ≡ Some c.in-Some.next = sym c.frame_at.ensures ∙ c.in-Some.is in
    passes_ok (with_frames c.args.former.now c.args.opened.now) c.args.session.now.state c.args.passed c.args.frame.now c.judge_functions-2.result rest found
    (judged_at (with_frames c.args.former.now c.args.opened.now) c.args.session.now.state c.args.passed c.in-Some.next _ c.args.frame.now
    c.judge_functions-2.result rest here (omega (arith, c.if-frame-next.false, c.if-next-frame.false))
    (λ same. let bad : false ≡ true = sym c.if-is_same.false ∙ c.is_same.ensures.1 same in absurd (cc))
    c.near_in-around.ensures c.judge_functions-2.ensures)

pub returns-clause-fault : goal.returns-clause-fault
returns-clause-fault c = λ rest.
    let here : slice_get c.args.former.now c.args.passed ≡ Some c.in-Some.next = sym c.frame_at.ensures ∙ c.in-Some.is in
    passes_err (with_frames c.args.former.now c.args.opened.now) c.args.session.now.state c.args.passed c.args.frame.now c.judge_functions-2.result rest
    (judged_at (with_frames c.args.former.now c.args.opened.now) c.args.session.now.state c.args.passed c.in-Some.next _ c.args.frame.now
    c.judge_functions-2.result rest here (omega (arith, c.if-frame-next.false, c.if-next-frame.false))
    (λ same. let bad : false ≡ true = sym c.if-is_same.false ∙ c.is_same.ensures.1 same in absurd (cc))
    c.near_in-around.ensures c.judge_functions-2.ensures)
