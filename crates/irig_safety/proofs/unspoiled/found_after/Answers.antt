use Rattle.std.proofs.Common.{◌≡◌, ◌∙◌, ◌<◌, Some, None, sym, slice_get, arith}
use Rattle.std.proofs.lemmas.Option.{slice_get_within}
use Rattle.irig_safety.proofs.SafetyLemmas.{found_here, found_later, none_before, not_found, some_before}
use Rattle.irig_safety.proofs.unspoiled.found_after.Goals as goal

pub returns-in_default-clause-kept : goal.returns-in_default-clause-kept
returns-in_default-clause-kept c = λ rest why.
    let none : slice_get c.args.last.now c.args.found ≡ None = sym c.frame_at.ensures ∙ c.in_default.is in
    found_later c.args.last.now c.args.found c.args.frame.now rest why (none_before c.args.last.now c.args.found c.args.frame.now none)

pub returns-then-frame-former-clause-kept : goal.returns-then-frame-former-clause-kept
returns-then-frame-former-clause-kept c = λ rest why.
    let here : slice_get c.args.last.now c.args.found ≡ Some c.in-Some.former = sym c.frame_at.ensures ∙ c.in-Some.is in
    let less : c.args.frame.now.rise < c.in-Some.former.rise = omega (arith, c.if-frame-former.true) in
    found_later c.args.last.now c.args.found c.args.frame.now rest why (some_before c.args.last.now c.args.found c.args.frame.now c.in-Some.former here less)

pub returns-else-former-frame-clause-within : goal.returns-else-former-frame-clause-within
returns-else-former-frame-clause-within c =
    let here : slice_get c.args.last.now c.args.found ≡ Some c.in-Some.former = sym c.frame_at.ensures ∙ c.in-Some.is in
    let less = slice_get_within c.args.last.now c.args.found c.in-Some.former here in
    omega (arith, less)

pub returns-else-former-frame-clause-kept : goal.returns-else-former-frame-clause-kept
returns-else-former-frame-clause-kept c = λ rest why.
    let here : slice_get c.args.last.now c.args.found ≡ Some c.in-Some.former = sym c.frame_at.ensures ∙ c.in-Some.is in
    found_here c.args.last.now c.args.found c.in-Some.former c.args.frame.now rest why here (omega (arith, c.if-frame-former.false, c.if-former-frame.false))

pub returns-then-former-frame-clause-fault : goal.returns-then-former-frame-clause-fault
returns-then-former-frame-clause-fault c = λ rest.
    let here : slice_get c.args.last.now c.args.found ≡ Some c.in-Some.former = sym c.frame_at.ensures ∙ c.in-Some.is in
    not_found c.args.last.now c.args.found c.in-Some.former c.args.frame.now rest here (omega (arith, c.if-former-frame.true))
