use Rattle.irig_vcd.specs.Answer.{bytes_of}
use Rattle.irig_files.proofs.track.read_long_track.Goals as goal

pub returns-in-Ok-Ok : goal.returns-in-Ok-Ok
returns-in-Ok-Ok g c =
    let read = rw (c.long.ensures, c.bytes_of.ensures) at c.in-Ok-Ok.ensures.read in
    record {
      source = read.source;
      journal = bytes_of c.in-Ok-Ok.field-0-0-1;
      whole = read.whole;
      dump = rw c.in-Ok-Ok.field-0-is at read.parts;
    }

pub returns-in-Ok-Err : goal.returns-in-Ok-Err
returns-in-Ok-Err g c =
    let read = rw (c.long.ensures, c.bytes_of.ensures) at c.in-Ok-Err.ensures.read in
    (read.source, read.whole, rw c.in-Ok-Err.field-0-is at read.parts)
