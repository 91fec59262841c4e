use Rattle.std.proofs.Common.{◌≡◌, ◌-◌, ℕ, suc, subst, arith}
use Rattle.irig_guarding.proofs.BackLemmas.{IsOver, one_back, over_start, undone_to}
use Rattle.irig_guarding.proofs.undoing.undo_to.Goals as goal

pub loop-left-init : goal.loop-left-init
loop-left-init c = λ first closed steps back.
    over_start first c.args.session.now _ c.args.steps steps c.requires (omega (arith, c.steps_back.ensures)) back

pub loop-left-preserved : goal.loop-left-preserved
loop-left-preserved c = λ first closed steps back.
    let more = c.loop-left-test.true in
    let is : c.loop-left.left ≡ suc (c.loop-left.left - 1) = omega (arith, more) in
    one_back first c.loop-left.session c.undo.new.self (c.loop-left.left - 1) c.undo.result
    (subst (λ (n : ℕ). IsOver first n c.loop-left.session) is (c.loop-left.invariant first closed steps back)) c.undo.ensures.step

pub returns : goal.returns
returns c = λ first closed steps back.
    let none = c.loop-left-test.false in
    let is : c.loop-left.left ≡ 0 = omega (arith, none) in
    undone_to first c.loop-left.session c.begin.new.self c.abort.new.self c.begin.result c.abort.result closed
    (subst (λ (n : ℕ). IsOver first n c.loop-left.session) is (c.loop-left.invariant first closed steps back)) c.begin.ensures.step c.abort.ensures.step
