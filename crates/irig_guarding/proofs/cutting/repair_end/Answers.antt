use Rattle.std.proofs.Common.{◌≡◌, ◌∙◌, ◌+◌, ◌-◌, true, false, arith, length, refl, sym}
use Rattle.irig_guarding.proofs.TrialLemmas.{cut_closed, cut_line, cut_open, unclosed_more, unclosed_none}
use Rattle.irig_guarding.proofs.cutting.repair_end.Goals as goal

pub returns-then-not-begins-clause-cut : goal.returns-then-not-begins-clause-cut
returns-then-not-begins-clause-cut c =
    cut_line c.args.lines.now c.args.at (c.args.at + 1 - c.args.at) _ _ c.requires (omega arith) c.index-lines-at.is
    (λ begins. let bad : true ≡ false = sym (c.begins.ensures.1 begins) ∙ c.if-not-begins.true in cc)

pub loop-place-init : goal.loop-place-init
loop-place-init c = unclosed_none c.args.lines.now (c.args.at + 1) (c.args.at + 1 - (c.args.at + 1)) (omega arith)

pub returns-then-closes-clause-cut : goal.returns-then-closes-clause-cut
returns-then-closes-clause-cut c =
    cut_closed c.args.lines.now c.args.at c.loop-place.place _ _ _ _ c.loop-place.auto.place c.loop-place-test.true refl c.index-lines-at.is
    c.index-lines-place.is
    (c.begins.ensures.0 c.if-not-begins.false) (c.closes.ensures.0 c.if-closes.true) c.loop-place.invariant

pub loop-place-preserved : goal.loop-place-preserved
loop-place-preserved c =
    unclosed_more c.args.lines.now c.args.at c.loop-place.place _ c.loop-place.auto.place c.loop-place-test.true c.index-lines-place.is
    (λ closes. let bad : true ≡ false = sym (c.closes.ensures.1 closes) ∙ c.if-closes.false in cc) c.loop-place.invariant

pub returns-clause-cut : goal.returns-clause-cut
returns-clause-cut c =
    let end : c.loop-place.place ≡ length c.args.lines.now = omega (arith, c.loop-place-test.false, c.loop-place.auto.place-end, c.requires) in
    cut_open c.args.lines.now c.args.at c.loop-place.place _ c.requires end c.index-lines-at.is
    (c.begins.ensures.0 c.if-not-begins.false) c.loop-place.invariant
