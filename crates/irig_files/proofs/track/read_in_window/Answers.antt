use Rattle.irig_files.specs.{Tracks.name_in}
use Rattle.irig_vcd.specs.Extent.{short}
use Rattle.irig_files.proofs.{Few.few_read}
use Rattle.irig_files.proofs.track.read_in_window.Goals as goal

pub shorter-requires : goal.shorter-requires
shorter-requires g c =
    record {
      few = few_read (short c.args.window) (g.D.Disk.held c.args.disk.now c.args.path.now) (name_in c.args.wire) c.in-Ok.read
          (rw (c.short.ensures, c.bytes_of.ensures) at c.in-Ok.ensures.read);
    }
