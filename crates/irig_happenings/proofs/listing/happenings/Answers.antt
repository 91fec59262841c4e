use Rattle.std.proofs.Common.{◌*◌, ◌∙◌, Bool, ap, arith, length, subst, sym}
use Rattle.std.proofs.lemmas.Result.{IfOk-weaker}
use Rattle.irig_codes.specs.Format.{interval_of}
use Rattle.irig_explaining.specs.Clocks.{IsClock}
use Rattle.irig_happenings.specs.Listings.{IsExplained}
use Rattle.irig_happenings.proofs.{Listed.is_listing, Named.length-roles}
use Rattle.irig_happenings.proofs.listing.happenings.Goals as goal

pub new-prices-requires-clause-sized : goal.new-prices-requires-clause-sized
new-prices-requires-clause-sized c =
    let n = ap length (c.as_slice-3.ensures.value ∙ c.in_ok-roles.ensures) ∙ length-roles c.args.format in (omega (arith, n), omega (arith, n))

pub returns-then-quick : goal.returns-then-quick
returns-then-quick c =
    let f = c.args.format in
    let p = c.new-prices.result in
    let pulses = c.in_ok-pulses.pulses.items in
    let clock = subst (IsClock (256 * interval_of f.kind) pulses) (sym c.new-prices.ensures.clock)
    (rw (c.interval.ensures.value, c.as_slice.ensures.value) at c.in_ok-clock.ensures.exact) in
    IfOk-weaker c.explained.result _ _ (λ parts h. is_listing f c.args.recording.edges c.args.quick pulses c.in_ok-roles.roles.items p
    c.in_ok-pulses.ensures.exact c.in_ok-roles.ensures (c.new-prices.ensures.pulses ∙ c.as_slice-2.ensures.value)
    (c.new-prices.ensures.roles ∙ c.as_slice-3.ensures.value) clock parts.items
    (subst (λ (quick : Bool). IsExplained p quick parts.items) (sym c.if-quick.true) h))
    c.explained.ensures

pub returns : goal.returns
returns c =
    let f = c.args.format in
    let p = c.new-prices.result in
    let pulses = c.in_ok-pulses.pulses.items in
    let clock = subst (IsClock (256 * interval_of f.kind) pulses) (sym c.new-prices.ensures.clock)
    (rw (c.interval.ensures.value, c.as_slice.ensures.value) at c.in_ok-clock.ensures.exact) in
    IfOk-weaker c.explained_surely.result _ _ (λ parts h. is_listing f c.args.recording.edges c.args.quick pulses c.in_ok-roles.roles.items p
    c.in_ok-pulses.ensures.exact c.in_ok-roles.ensures (c.new-prices.ensures.pulses ∙ c.as_slice-2.ensures.value)
    (c.new-prices.ensures.roles ∙ c.as_slice-3.ensures.value) clock parts.items
    (subst (λ (quick : Bool). IsExplained p quick parts.items) (sym c.if-quick.false) h))
    c.explained_surely.ensures
