use Rattle.std.proofs.Common.{ap, subst}
use Rattle.irig_safety.specs.{Original.OriginalView, Terms.TermsView}
use Rattle.irig_guarding.specs.Agreeing.{AgreesAfter}
use Rattle.irig_guarding.proofs.{GuardLemmas.stands_guarded, TrialLemmas.tried_whole}
use Rattle.irig_guarding.proofs.rounds.guard.Goals as goal

pub returns-clause-guarded : goal.returns-clause-guarded
returns-clause-guarded c =
    stands_guarded c.args.terms _ _ _ _ (ap (λ (o : OriginalView). o.terms) c.in_ok-opened.ensures) c.requires c.in_ok-done.ensures.closed
    c.in_ok-done.ensures.reaches c.in_ok-done.ensures.safe

pub returns-clause-tried : goal.returns-clause-tried
returns-clause-tried c =
    tried_whole c.args.terms _ c.args.session.now c.in_ok-lines.lines.items _ c.args.script.now _ _ _
    (ap (λ (o : OriginalView). o.terms) c.in_ok-opened.ensures)
    c.deref.ensures.value c.in_ok-lines.ensures c.in_ok-done.ensures.tried

pub returns-clause-agrees : goal.returns-clause-agrees
returns-clause-agrees c =
    subst (λ (t : TermsView). AgreesAfter t c.args.session.now.state c.guard_until_agreed.new.session.state)
    (ap (λ (o : OriginalView). o.terms) c.in_ok-opened.ensures) c.in_ok-done.ensures.agrees
