use Rattle.std.proofs.Common.{◌≡◌, ◌∷◌, ◌∙◌, [], ℕ, IfOk, subst, sym}
use Rattle.std.proofs.lemmas.Bool.{eqb-true}
use Rattle.irig_vcd.specs.{Code.Scanned.IsTraced, Code.Scanned.Passes, Scan.Scan, Scan.closed, declared.time.Clock.Clock}
use Rattle.irig_vcd.proofs.PulseSteps.{step_micros}
use Rattle.irig_vcd.proofs.pulses.take_pulses.Goals as goal

pub returns-then-is_microsecond-clause-passes : goal.returns-then-is_microsecond-clause-passes
returns-then-is_microsecond-clause-passes c = λ s none.
    step_micros (c.args.code ∷ []) c.args.unit c.args.from c.in_ok-whole.whole s c.args.trace.now c.take_in_micros.new.trace
    c.args.tokens.now c.take_in_micros.new.tokens
    (eqb-true c.args.unit 9 (sym c.is_microsecond.ensures ∙ c.if-is_microsecond.true)) (c.in_ok-whole.ensures.passes s none)

pub returns-then-is_nanosecond-clause-passes : goal.returns-then-is_nanosecond-clause-passes
returns-then-is_nanosecond-clause-passes c =
    let six = eqb-true c.args.unit 6 (sym c.is_nanosecond.ensures ∙ c.if-is_nanosecond.true) in
    let is : c.new.result ≡ c.args.unit = c.new.ensures ∙ sym six in
    subst
    (λ (u : ℕ). IfOk c.take_in_unit.result (λ (now : Clock). (s : Scan) → s.opened ≡ closed → IsTraced u s c.args.trace.now c.args.from
    → Passes (c.args.code ∷ []) u s c.args.tokens.now c.take_in_unit.new.trace now c.take_in_unit.new.tokens)) is c.take_in_unit.ensures.passes
