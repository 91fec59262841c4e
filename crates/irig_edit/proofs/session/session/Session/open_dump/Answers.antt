use Rattle.std.proofs.lemmas.Result.{IfOk-weaker}
use Rattle.irig_edit.proofs.OpenedLemmas.Parts.{closed_session, parts_opened}
use Rattle.irig_edit.proofs.session.session.Session.open_dump.Goals as goal

pub returns-in-Ok-clause-opened : goal.returns-in-Ok-clause-opened
returns-in-Ok-clause-opened c = IfOk-weaker _ _ _ (λ s is. parts_opened _ _ _ _ _ s c.in-Ok.ensures.parts is) c.session_with.ensures.opened

pub returns-in-Ok-clause-closed : goal.returns-in-Ok-clause-closed
returns-in-Ok-clause-closed c = IfOk-weaker _ _ _ (λ s is. closed_session _ _ _ s is) c.session_with.ensures.opened
