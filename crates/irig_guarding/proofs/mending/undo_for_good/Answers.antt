use Rattle.irig_guarding.proofs.UndoneLemmas.{undone_for_good}
use Rattle.irig_guarding.proofs.mending.undo_for_good.Goals as goal

pub returns : goal.returns
returns c = λ edit before is closed made.
    undone_for_good edit before c.args.session.now c.undo.new.self c.begin.new.self c.abort.new.self c.undo.result c.begin.result c.abort.result
    is closed made c.undo.ensures.step c.begin.ensures.step c.abort.ensures.step
