use Rattle.std.proofs.Common.{◌++◌, ◌∙◌}
use Rattle.std.proofs.KnownBytes.{Consumes-trans}
use Rattle.irig_files.proofs.Intakes.{takes_both}
use Rattle.irig_files.proofs.dump_file.take_all.Goals as goal

pub returns-in-Ok-false-clause-taken : goal.returns-in-Ok-false-clause-taken
returns-in-Ok-false-clause-taken g c =
    let inv = c.loop.invariant.taken in
    let done = c.in-Ok-false.ensures.taken in
    (inv.0 ++ done.0, takes_both inv.0 done.0 _ _ _ inv.1 done.1, Consumes-trans _ _ _ inv.0 _ inv.2 done.2)

pub loop-preserved : goal.loop-preserved
loop-preserved g c =
    let inv = c.loop.invariant.taken in
    let done = c.in-Ok-true.ensures.taken in
    record {
      part = c.in-Ok-true.ensures.part ∙ c.loop.invariant.part;
      taken = (inv.0 ++ done.0, takes_both inv.0 done.0 _ _ _ inv.1 done.1, Consumes-trans _ _ _ inv.0 _ inv.2 done.2);
      counted = c.in-Ok-true.ensures.counted;
      extent = c.take_part.ensures.extent ∙ c.loop.invariant.extent;
    }
