use Rattle.irig_law.proofs.doubting.doubted_in.Goals as goal

pub returns-clause-doubted : goal.returns-clause-doubted
returns-clause-doubted c = c.in_ok-list.ensures.doubted c.args.century c.args.pulses.now.track.pulses c.in_ok-told.ensures.told
