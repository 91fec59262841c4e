use Rattle.std.specs.Prelude.{IsTrue}
use Rattle.irig_guard.proofs.OtherLemmas.{ApartUpTo}
use Rattle.irig_guard.proofs.others.over_other.Given as goal

abbrev pub invariant-loop-place : goal.invariant-loop-place
invariant-loop-place g l = IsTrue g.D.Disk.is_told → ApartUpTo (g.D.Disk.disk l.disk) l.chosen.others.items l.out l.place
