use Rattle.irig_guarding.proofs.bars.bar_by.Goals as goal

pub returns : goal.returns
returns c = c.bar_between.ensures
