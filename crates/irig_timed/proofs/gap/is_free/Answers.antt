use Rattle.std.proofs.Common.{◌≡◌, not, true, false, ap, sym, ◌∙◌}
use Rattle.irig_law.specs.{Rows.is_clean}
use Rattle.irig_law.proofs.AnyFrom.{any-here, any-next, any-none}
use Rattle.irig_timed.proofs.gap.is_free.Goals as goal

pub loop-number-preserved : goal.loop-number-preserved
loop-number-preserved c =
    let test = is_clean c.args.format c.args.pulses.now.track.pulses in
    let same = ap (λ t. is_clean c.args.format t.pulses c.loop-number.number) c.loop-number.invariant.track in
    let off : test c.loop-number.number ≡ false = sym same ∙ (sym c.is_clean.ensures.clean ∙ c.if-is_clean.false) in
    record {
      track = c.is_clean.ensures.pulses ∙ c.loop-number.invariant.track;
      rest = c.loop-number.invariant.rest ∙ any-next test c.loop-number.number c.args.other c.loop-number-test.true off;
    }

pub returns-then-is_clean-clause-free : goal.returns-then-is_clean-clause-free
returns-then-is_clean-clause-free c =
    let test = is_clean c.args.format c.args.pulses.now.track.pulses in
    let same = ap (λ t. is_clean c.args.format t.pulses c.loop-number.number) c.loop-number.invariant.track in
    let on : test c.loop-number.number ≡ true = sym same ∙ (sym c.is_clean.ensures.clean ∙ c.if-is_clean.true) in
    sym (ap not (c.loop-number.invariant.rest ∙ any-here test c.loop-number.number c.args.other c.loop-number-test.true on))

pub returns-then-is_clean-clause-pulses : goal.returns-then-is_clean-clause-pulses
returns-then-is_clean-clause-pulses c = c.is_clean.ensures.pulses ∙ c.loop-number.invariant.track

pub returns-clause-free : goal.returns-clause-free
returns-clause-free c =
    let test = is_clean c.args.format c.args.pulses.now.track.pulses in
    sym (ap not (c.loop-number.invariant.rest ∙ any-none test c.loop-number.number c.args.other c.loop-number-test.false))

pub returns-clause-pulses : goal.returns-clause-pulses
returns-clause-pulses c = c.loop-number.invariant.track
