use Rattle.irig_edit.proofs.OpenedLemmas.Parts.{no_journal}
use Rattle.irig_edit.proofs.opened.opening.session_with.Goals as goal

pub returns-in-Ok-clause-opened : goal.returns-in-Ok-clause-opened
returns-in-Ok-clause-opened c = no_journal _ _ _ _ c.in-None.is c.in-Ok.ensures
