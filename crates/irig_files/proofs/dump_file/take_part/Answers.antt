use Rattle.std.proofs.Common.{[], ◌≤◌, length, take}
use Rattle.std.proofs.KnownBytes.{Consumes-kept}
use Rattle.std.proofs.lemmas.List.{take-append-le}
use Rattle.irig_disk.proofs.Results.{on_ok}
use Rattle.irig_files.proofs.Intakes.{consumes_none, takes_none}
use Rattle.irig_files.proofs.dump_file.take_part.Goals as goal

pub returns-in-Ok-put-clause-taken : goal.returns-in-Ok-put-clause-taken
returns-in-Ok-put-clause-taken g c =
    let within : c.in-Ok.count ≤ length c.read.new.buf = c.in-Ok.ensures.bound.0 in
    (take c.in-Ok.count c.read.new.buf, rw take-append-le at c.in-Ok-put.ensures.taken, c.in-Ok.ensures.bytes.0)

pub returns-in-Err-clause-taken : goal.returns-in-Err-clause-taken
returns-in-Err-clause-taken g c =
    on_ok c.after_error.result ([], takes_none _, Consumes-kept _ _ _ [] (consumes_none _) c.in-Err.ensures.bytes)
