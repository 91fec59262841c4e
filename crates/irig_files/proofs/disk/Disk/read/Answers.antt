use Rattle.std.proofs.Common.{None}
use Rattle.irig_vcd.specs.{Answer.name_of, Extent.short}
use Rattle.irig_files.proofs.{Few.few_read, Intakes.is_read_whole}
use Rattle.irig_files.proofs.disk.Disk.read.Goals as goal

pub shorter-requires : goal.shorter-requires
shorter-requires g c =
    record {
      few = few_read (short None) (g.Self.Disk.held c.args.self.now c.args.path.now) (name_of c.args.wire) c.in-Ok.read
          (rw c.short.ensures at c.in-Ok.ensures.read);
    }

pub returns-in-Ok-clause-read : goal.returns-in-Ok-clause-read
returns-in-Ok-clause-read g c =
    let held = g.Self.Disk.held c.args.self.now c.args.path.now in
    rw c.shorter.ensures (is_read_whole held (name_of c.args.wire) c.in-Ok.read (rw c.short.ensures at c.in-Ok.ensures.read))
