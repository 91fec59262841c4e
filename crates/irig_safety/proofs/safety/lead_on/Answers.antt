use Rattle.std.proofs.Common.{◌∙◌, ◌-◌, arith, drop, refl, sym}
use Rattle.std.proofs.lemmas.Option.{slice_get-get_or}
use Rattle.irig_safety.specs.Safety.{LeadOn}
use Rattle.irig_safety.proofs.SafetyLemmas.{lead_at, lead_last}
use Rattle.irig_safety.proofs.safety.lead_on.Goals as goal

pub loop-place-preserved : goal.loop-place-preserved
loop-place-preserved c =
    let xs = c.args.frames.now in
    let p = c.loop-place.place in
    let first = slice_get-get_or xs (p - 1) _ (omega (arith, c.loop-place-test.true, c.loop-place.auto.place)) in
    let second = slice_get-get_or xs p _ (omega (arith, c.loop-place-test.true)) in
    let on = lead_at c.args.format xs p _ _ (omega (arith, c.loop-place.auto.place)) first second (sym c.leads.ensures ∙ c.if-not-leads.false) in
    (λ s. on.0 (c.loop-place.invariant.0 s), λ s. c.loop-place.invariant.1 (on.1 s))

pub returns : goal.returns
returns c =
    let last : LeadOn c.args.format (drop (c.loop-place.place - 1) c.args.frames.now) =
    lead_last c.args.format c.args.frames.now (c.loop-place.place - 1) (omega (arith, c.loop-place-test.false)) in
    (λ t. c.loop-place.invariant.1 last, λ s. refl)
