use Rattle.std.proofs.Common.{◌<◌, ◌≤◌, ℕ, length, get_or, subst, arith, below_more}
use Rattle.std.proofs.lemmas.Option.{get_or_from_slice_get, slice_get-get_or}
use Rattle.irig_explaining.specs.declared.pulse.Pulse.{Pulse}
use Rattle.irig_explaining.proofs.Passed.{count_from, no_pulse}
use Rattle.irig_explaining.proofs.wires.count_after.Goals as goal

pub loop-index-preserved : goal.loop-index-preserved
loop-index-preserved c = λ j d lt in_it.
    let ps = c.args.pulses.now in let m = c.args.moment in let i = c.loop-index.index in
    let P : ℕ → Type 0 = λ j. (d : Pulse) → j < length ps → (get_or ps j d).rise < m in
    below_more P i
    (λ j lt d in_it. c.loop-index.invariant j d lt in_it)
    (λ d in_it.
    let here : (get_or ps i no_pulse).rise < m = omega (arith, c.if-moment-pulses.false) in
    subst (λ (x : Pulse). x.rise < m) (get_or_from_slice_get ps i (get_or ps i d) no_pulse (slice_get-get_or ps i d in_it)) here)
    j lt d in_it

pub returns-then-moment-pulses-clause-exact : goal.returns-then-moment-pulses-clause-exact
returns-then-moment-pulses-clause-exact c =
    let ps = c.args.pulses.now in let m = c.args.moment in let i = c.loop-index.index in
    let is =
    count_from m i ps c.loop-index.invariant
    (λ j d le lt.
    let order : (get_or ps i no_pulse).rise ≤ (get_or ps j no_pulse).rise = c.requires i j no_pulse le lt in
    let there : m ≤ (get_or ps j no_pulse).rise = omega (arith, c.if-moment-pulses.true, order) in
    subst (λ (x : Pulse). m ≤ x.rise) (get_or_from_slice_get ps j (get_or ps j d) no_pulse (slice_get-get_or ps j d lt)) there)
    in omega (arith, is)

pub returns-clause-exact : goal.returns-clause-exact
returns-clause-exact c =
    let ps = c.args.pulses.now in let end = c.loop-index-test.false in
    let none = count_from c.args.moment (length ps) ps (λ j d lt in_it. c.loop-index.invariant j d (omega arith) in_it) (λ j d le lt. absurd (omega arith)) in
    omega (arith, none)
