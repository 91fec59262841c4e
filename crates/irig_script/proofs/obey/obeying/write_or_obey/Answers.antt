use Rattle.irig_edit.specs.{Saved.SavedSession.saved_text, Session.Session.work_in}
use Rattle.irig_script.specs.{Obey.Answer.texts_of, Obey.Replies.dump_text}
use Rattle.irig_script.proofs.ObeyLemmas.Steps.{one_number, quiet_number, quiet_puts}
use Rattle.irig_script.proofs.obey.obeying.write_or_obey.Goals as goal

pub returns-in_default-clause-put : goal.returns-in_default-clause-put
returns-in_default-clause-put g c = quiet_puts _ (texts_of c.args.command c.args.session.now) _ c.obey.ensures.quiet

pub returns-in_default-clause-count : goal.returns-in_default-clause-count
returns-in_default-clause-count g c = quiet_number (texts_of c.args.command c.args.session.now) _ c.obey.ensures.quiet

pub returns-in-Write-clause-count : goal.returns-in-Write-clause-count
returns-in-Write-clause-count g c = rw c.in-Write.is (one_number (dump_text c.args.session.now) c.write_dump.result)

pub returns-in-Save-clause-count : goal.returns-in-Save-clause-count
returns-in-Save-clause-count g c = rw c.in-Save.is (one_number (saved_text (work_in c.args.session.now)) c.write_saved.result)
