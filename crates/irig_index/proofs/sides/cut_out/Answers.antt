use Rattle.irig_index.proofs.CutLemmas.{cut_out}
use Rattle.irig_index.specs.Sides.{shown}
use Rattle.irig_index.proofs.sides.cut_out.Goals as goal

pub returns-clause-sides : goal.returns-clause-sides
returns-clause-sides c =
    cut_out c.args.first c.args.last c.args.pulses c.requires (shown c.args.pulses c.args.records.now)
    c.drop_back_to.new.records c.part.new.records c.drop_up_to.new.records
    c.drop_back_to.ensures.cut c.part.ensures.shown c.part.ensures.left c.part.ensures.right c.drop_up_to.ensures.left c.drop_up_to.ensures.right
