use Rattle.irig_guarding.proofs.ControlLemmas.{found_fault, found_stays, found_sways, unmoved_at, unmoved_last}
use Rattle.irig_guarding.proofs.judging.check_unmoved.Goals as goal

pub returns-in-Ok-clause-stays : goal.returns-in-Ok-clause-stays
returns-in-Ok-clause-stays c =
    found_stays c.args.opened.now c.args.before.now _ _ c.args.session.now.state (unmoved_at c.args.opened.now _ _ c.requires.unmoved c.frames-former.ensures)
    (unmoved_last c.args.opened.now _ _ c.requires.unmoved) c.in-Ok.ensures.stays

pub returns-in-Err-clause-sways : goal.returns-in-Err-clause-sways
returns-in-Err-clause-sways c = (
  found_sways c.args.opened.now c.args.before.now _ _ c.args.session.now.state (unmoved_at c.args.opened.now _ _ c.requires.unmoved c.frames-former.ensures)
      (unmoved_last c.args.opened.now _ _ c.requires.unmoved) c.in-Err.ensures.unsafe_so,
  found_fault c.args.opened.now c.args.before.now _ _ c.args.session.now.state c.in-Err.why
      (unmoved_at c.args.opened.now _ _ c.requires.unmoved c.frames-former.ensures)
      (unmoved_last c.args.opened.now _ _ c.requires.unmoved) c.in-Err.ensures.fault,
)
