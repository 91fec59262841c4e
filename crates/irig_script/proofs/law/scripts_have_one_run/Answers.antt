use Rattle.irig_script.proofs.{LawLemmas.SameDumpRun.one_dump_run, LawLemmas.SameRun.one_run}
use Rattle.irig_script.proofs.law.scripts_have_one_run.Goals as goal

pub returns-clause-same : goal.returns-clause-same
returns-clause-same c = one_run c.calls_give_back.ensures.outcome

pub returns-clause-on_dumps : goal.returns-clause-on_dumps
returns-clause-on_dumps c = one_dump_run c.calls_give_back.ensures.outcome
