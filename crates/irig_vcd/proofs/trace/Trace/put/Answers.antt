use Rattle.std.proofs.Common.{refl}
use Rattle.irig_vcd.specs.Level.{change}
use Rattle.irig_vcd.proofs.Followed.{followed_change}
use Rattle.irig_vcd.proofs.trace.Trace.put.Goals as goal

pub returns-clause-ok : goal.returns-clause-ok
returns-clause-ok c = λ changes h. followed_change changes (change c.args.time c.args.high) c.advance.new.self _ refl c.in_ok-advance.ensures.time
    c.in_ok-advance.ensures.time refl refl refl (c.in_ok-advance.ensures.ok changes h)
