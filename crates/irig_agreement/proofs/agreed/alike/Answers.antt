use Rattle.std.proofs.Common.{◌≡◌, inl, inr, ◌+◌, length, slice_get, arith, refl, sym, ap, ◌∙◌}
use Rattle.std.proofs.lemmas.Bool.{cases_lt}
use Rattle.std.proofs.lemmas.Option.{same_Some}
use Rattle.irig_recording.specs.declared.pulse.Pulse.{Pulse}
use Rattle.irig_agreement.proofs.agreed.alike.Goals as goal

pub loop-many-init : goal.loop-many-init
loop-many-init c = record { before = refl; after = refl; alike = λ i p q less at at-too. absurd (omega (arith, less)) }

pub overflow_add-one : goal.overflow_add-one
overflow_add-one c = omega (arith, c.requires.low.0, c.loop-many-test.true)

pub pulse-requires : goal.pulse-requires
pulse-requires c = omega (arith, c.requires.inside.0, c.loop-many-test.true, ap (λ t. length t.pulses) c.loop-many.invariant.before)

pub overflow_add-other : goal.overflow_add-other
overflow_add-other c = omega (arith, c.requires.low.1, c.loop-many-test.true)

pub pulse-requires-in-loop-many : goal.pulse-requires-in-loop-many
pulse-requires-in-loop-many c = omega (arith, c.requires.inside.1, c.loop-many-test.true, ap (λ t. length t.pulses) c.loop-many.invariant.after)

pub returns-then-pulse-clause-alike : goal.returns-then-pulse-clause-alike
returns-then-pulse-clause-alike c = c.loop-many.invariant.alike

pub returns-then-pulse-clause-before : goal.returns-then-pulse-clause-before
returns-then-pulse-clause-before c = ap (λ v. v.track) c.pulse.ensures.counted ∙ c.loop-many.invariant.before

pub returns-then-pulse-clause-after : goal.returns-then-pulse-clause-after
returns-then-pulse-clause-after c = ap (λ v. v.track) c.pulse-in-loop-many.ensures.counted ∙ c.loop-many.invariant.after

pub loop-many-preserved : goal.loop-many-preserved
loop-many-preserved c =
    let inv = c.loop-many.invariant in
    let k = c.loop-many.many in
    record {
      before = ap (λ v. v.track) c.pulse.ensures.counted ∙ inv.before;
      after = ap (λ v. v.track) c.pulse-in-loop-many.ensures.counted ∙ inv.after;
      alike = λ i p q less at at-too. elim (cases_lt i k) [
        | inl lower ↦ inv.alike i p q lower at at-too
        | inr high ↦ (let here : k ≡ i = omega (arith, less, high) in
            let one = ap (λ t. slice_get t.pulses (c.args.one + k)) (sym inv.before) ∙ c.pulse.ensures.value in
            let other = ap (λ t. slice_get t.pulses (c.args.other + k)) (sym inv.after) ∙ c.pulse-in-loop-many.ensures.value in
            let first : p ≡ c.pulse.result =
            same_Some p c.pulse.result (sym at ∙ (ap (λ j. slice_get c.args.before.now.track.pulses (c.args.one + j)) (sym here) ∙ one)) in
            let second : q ≡ c.pulse-in-loop-many.result = same_Some q c.pulse-in-loop-many.result
            (sym at-too ∙ (ap (λ j. slice_get c.args.after.now.track.pulses (c.args.other + j)) (sym here) ∙ other)) in
            let rises = ap (λ (z : Pulse). z.rise) first in
            let rises-too = ap (λ (z : Pulse). z.rise) second in
            omega (arith, rises, rises-too, c.if-pulse.false))
      ];
    }

pub returns-clause-alike : goal.returns-clause-alike
returns-clause-alike c = λ i p q less. c.loop-many.invariant.alike i p q (omega (arith, less, c.loop-many-test.false))

pub returns-clause-before : goal.returns-clause-before
returns-clause-before c = c.loop-many.invariant.before

pub returns-clause-after : goal.returns-clause-after
returns-clause-after c = c.loop-many.invariant.after
