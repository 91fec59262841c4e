use Rattle.irig_script.specs.Obey.Desk.{desk_at}
use Rattle.irig_script.proofs.ObeyLemmas.DumpRuns.{never_dump, ran_on_dump}
use Rattle.irig_script.proofs.obey.dump_run.run_opened.Goals as goal

pub returns-clause-ends : goal.returns-clause-ends
returns-clause-ends g c wire bytes format opened =
    ran_on_dump wire format bytes (g.R.Read.remaining c.args.script.now) (g.R.Read.remaining c.run.new.script)
    (desk_at c.args.screen.now (g.S.Shelf.known c.args.shelf.now)) (desk_at c.run.new.screen (g.S.Shelf.known c.run.new.shelf))
    c.run.result c.as_run.result c.as_run.ensures record { first = c.args.session; last = c.run.new.session; opened = opened; ran = c.run.ensures.ends }

pub returns-clause-opened : goal.returns-clause-opened
returns-clause-opened g c = never_dump c.run.result c.as_run.result c.as_run.ensures
