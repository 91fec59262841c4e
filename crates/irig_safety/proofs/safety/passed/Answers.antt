use Rattle.std.proofs.Common.{◌≡◌, ◌∙◌, ◌<◌, true, false, Some, None, refl, sym, slice_get, arith}
use Rattle.std.proofs.lemmas.Option.{slice_get_within}
use Rattle.irig_safety.proofs.SafetyLemmas.{at_lost, at_stay, comes_on, come_within, none_before, not_stay, passes_err, passes_ok, some_before}
use Rattle.irig_safety.proofs.safety.passed.Goals as goal

pub returns-in_default-clause-within : goal.returns-in_default-clause-within
returns-in_default-clause-within c = come_within c.args.old.now c.args.kept _ c.args.frame.now c.passed_between.result c.requires c.passed_between.ensures

pub returns-in_default-clause-safe : goal.returns-in_default-clause-safe
returns-in_default-clause-safe c = λ rest found.
    let none : slice_get c.args.old.now c.args.kept ≡ None = sym c.frame_at.ensures ∙ c.in_default.is in
    passes_ok c.args.format c.args.others.now c.args.old.now c.args.kept c.args.frame.now c.passed_between.result rest found
    (comes_on c.args.format c.args.others.now c.args.old.now c.args.kept c.args.frame.now c.passed_between.result rest
    (none_before c.args.old.now c.args.kept c.args.frame.now none) _ refl c.passed_between.ensures)

pub returns-in_default-clause-fault : goal.returns-in_default-clause-fault
returns-in_default-clause-fault c = λ rest.
    let none : slice_get c.args.old.now c.args.kept ≡ None = sym c.frame_at.ensures ∙ c.in_default.is in
    passes_err c.args.format c.args.others.now c.args.old.now c.args.kept c.args.frame.now c.passed_between.result rest
    (comes_on c.args.format c.args.others.now c.args.old.now c.args.kept c.args.frame.now c.passed_between.result rest
    (none_before c.args.old.now c.args.kept c.args.frame.now none) _ refl c.passed_between.ensures)

pub returns-then-frame-former-clause-within : goal.returns-then-frame-former-clause-within
returns-then-frame-former-clause-within c =
    come_within c.args.old.now c.args.kept _ c.args.frame.now c.passed_between-then-frame-former.result c.requires c.passed_between-then-frame-former.ensures

pub returns-then-frame-former-clause-safe : goal.returns-then-frame-former-clause-safe
returns-then-frame-former-clause-safe c = λ rest found.
    let here : slice_get c.args.old.now c.args.kept ≡ Some c.in-Some.former = sym c.frame_at.ensures ∙ c.in-Some.is in
    let less : c.args.frame.now.rise < c.in-Some.former.rise = omega (arith, c.if-frame-former.true) in
    passes_ok c.args.format c.args.others.now c.args.old.now c.args.kept c.args.frame.now c.passed_between-then-frame-former.result rest found
    (comes_on c.args.format c.args.others.now c.args.old.now c.args.kept c.args.frame.now c.passed_between-then-frame-former.result rest
    (some_before c.args.old.now c.args.kept c.args.frame.now c.in-Some.former here less) _ refl c.passed_between-then-frame-former.ensures)

pub returns-then-frame-former-clause-fault : goal.returns-then-frame-former-clause-fault
returns-then-frame-former-clause-fault c = λ rest.
    let here : slice_get c.args.old.now c.args.kept ≡ Some c.in-Some.former = sym c.frame_at.ensures ∙ c.in-Some.is in
    let less : c.args.frame.now.rise < c.in-Some.former.rise = omega (arith, c.if-frame-former.true) in
    passes_err c.args.format c.args.others.now c.args.old.now c.args.kept c.args.frame.now c.passed_between-then-frame-former.result rest
    (comes_on c.args.format c.args.others.now c.args.old.now c.args.kept c.args.frame.now c.passed_between-then-frame-former.result rest
    (some_before c.args.old.now c.args.kept c.args.frame.now c.in-Some.former here less) _ refl c.passed_between-then-frame-former.ensures)

pub returns-then-former-frame-clause-fault : goal.returns-then-former-frame-clause-fault
returns-then-former-frame-clause-fault c = λ rest.
    let here : slice_get c.args.old.now c.args.kept ≡ Some c.in-Some.former = sym c.frame_at.ensures ∙ c.in-Some.is in
    at_lost c.args.format c.args.others.now c.args.old.now c.args.kept c.in-Some.former c.args.frame.now rest here (omega (arith, c.if-former-frame.true))

pub returns-then-stays-clause-within : goal.returns-then-stays-clause-within
returns-then-stays-clause-within c =
    let here : slice_get c.args.old.now c.args.kept ≡ Some c.in-Some.former = sym c.frame_at.ensures ∙ c.in-Some.is in
    let less = slice_get_within c.args.old.now c.args.kept c.in-Some.former here in
    omega (arith, less)

pub returns-then-stays-clause-safe : goal.returns-then-stays-clause-safe
returns-then-stays-clause-safe c = λ rest found.
    let here : slice_get c.args.old.now c.args.kept ≡ Some c.in-Some.former = sym c.frame_at.ensures ∙ c.in-Some.is in
    at_stay c.args.format c.args.others.now c.args.old.now c.args.kept c.in-Some.former c.args.frame.now rest found here
    (omega (arith, c.if-frame-former.false, c.if-former-frame.false)) (c.stays.ensures.0 c.if-stays.true)

pub returns-else-stays-clause-fault : goal.returns-else-stays-clause-fault
returns-else-stays-clause-fault c = λ rest.
    let here : slice_get c.args.old.now c.args.kept ≡ Some c.in-Some.former = sym c.frame_at.ensures ∙ c.in-Some.is in
    not_stay c.args.format c.args.others.now c.args.old.now c.args.kept c.in-Some.former c.args.frame.now rest here
    (omega (arith, c.if-frame-former.false, c.if-former-frame.false))
    (λ s. let bad : false ≡ true = sym c.if-stays.false ∙ c.stays.ensures.1 s in absurd (cc))
