use Rattle.std.proofs.Common.{◌∙◌, sym, arith}
use Rattle.irig_difference.proofs.Passed.{common_passed, rises_past, before_next, before_last, after_next, after_last, both_passed, none_left}
use Rattle.irig_difference.proofs.differences.next_edge.Goals as goal

pub returns-then-was-now-clause-before : goal.returns-then-was-now-clause-before
returns-then-was-now-clause-before c = rw c.pass.ensures (rises_past c.loop-was.before c.loop-was.invariant.before)

pub returns-then-was-now-clause-next : goal.returns-then-was-now-clause-next
returns-then-was-now-clause-next c =
    rw c.pass.ensures (sym c.loop-was.invariant.same
    ∙ before_next _ _ c.loop-was.before c.loop-was.after (sym c.in-Some-Some.ensures)
    (sym c.in-Some-Some.ensures') c.if-was-now.true c.loop-was.invariant.after)

pub returns-then-now-was-clause-after : goal.returns-then-now-was-clause-after
returns-then-now-was-clause-after c = rw c.pass-in-Some-Some.ensures (rises_past c.loop-was.after c.loop-was.invariant.after)

pub returns-then-now-was-clause-next : goal.returns-then-now-was-clause-next
returns-then-now-was-clause-next c =
    rw c.pass-in-Some-Some.ensures (sym c.loop-was.invariant.same
    ∙ after_next _ _ c.loop-was.before c.loop-was.after (sym c.in-Some-Some.ensures) (sym c.in-Some-Some.ensures') c.if-now-was.true c.loop-was.invariant.before
    c.loop-was.invariant.after)

pub loop-was-preserved : goal.loop-was-preserved
loop-was-preserved c =
    rw (c.pass-in-Some-Some.ensures, c.pass-in-Some-Some-2.ensures) (record {
      before = rises_past c.loop-was.before c.loop-was.invariant.before;
      after = rises_past c.loop-was.after c.loop-was.invariant.after;
      same = both_passed c.in-Some-Some.was c.in-Some-Some.now c.loop-was.before c.loop-was.after (sym c.in-Some-Some.ensures) (sym c.in-Some-Some.ensures')
          (omega arith)
          ∙ c.loop-was.invariant.same;
    })

pub returns-in-Some-None-clause-before : goal.returns-in-Some-None-clause-before
returns-in-Some-None-clause-before c = rw c.pass-in-Some-None.ensures (rises_past c.loop-was.before c.loop-was.invariant.before)

pub returns-in-Some-None-clause-next : goal.returns-in-Some-None-clause-next
returns-in-Some-None-clause-next c =
    rw c.pass-in-Some-None.ensures (sym c.loop-was.invariant.same
    ∙ before_last _ c.loop-was.before c.loop-was.after (sym c.in-Some-None.ensures) (sym c.in-Some-None.ensures'))

pub returns-in-None-Some-clause-after : goal.returns-in-None-Some-clause-after
returns-in-None-Some-clause-after c = rw c.pass-in-None-Some.ensures (rises_past c.loop-was.after c.loop-was.invariant.after)

pub returns-in-None-Some-clause-next : goal.returns-in-None-Some-clause-next
returns-in-None-Some-clause-next c =
    rw c.pass-in-None-Some.ensures (sym c.loop-was.invariant.same
    ∙ after_last _ c.loop-was.before c.loop-was.after (sym c.first.ensures ∙ c.in-None-Some.is-0) (sym c.in-None-Some.ensures) c.loop-was.invariant.after)

pub returns-in-None-None-clause-next : goal.returns-in-None-None-clause-next
returns-in-None-None-clause-next c =
    sym c.loop-was.invariant.same ∙ none_left c.loop-was.before c.loop-was.after (sym c.first.ensures ∙ c.in-None-None.is-0) (sym c.in-None-None.ensures)

pub returns-in-None-None-clause-last : goal.returns-in-None-None-clause-last
returns-in-None-None-clause-last c =
    λ _. none_left c.loop-was.before c.loop-was.after (sym c.first.ensures ∙ c.in-None-None.is-0) (sym c.in-None-None.ensures)

pub loop-was-init : goal.loop-was-init
loop-was-init c =
    let passed = common_passed c.args.before.now c.pass_common.new.self c.args.after.now c.pass_common.new.other c.pass_common.ensures c.requires.before
    c.requires.after in
    record { before = passed.first; after = passed.second; same = passed.same }
