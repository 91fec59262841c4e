use Rattle.irig_script.proofs.LawLemmas.SameSavedRun.{runs_on}
use Rattle.irig_script.proofs.law.saved_sessions_run_on.Goals as goal

pub returns : goal.returns
returns c = record { same = λ short. runs_on c.calls_give_back.ensures.outcome c.args.session.now (c.saved_goes_on.ensures.same short) }
