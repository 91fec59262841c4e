use Rattle.irig_vcd.specs.{Answer.name_of, Dump.scan_of, Dump.scanned}
use Rattle.irig_vcd.proofs.WholeDump.{fails_now, no_dump, with_journal, many_journals}
use Rattle.irig_vcd.proofs.reader.read_parts.Goals as goal

pub returns-in-Err-clause-fault : goal.returns-in-Err-clause-fault
returns-in-Err-clause-fault c = no_dump (name_of c.args.wire) c.args.source.now c.in-Err.fault c.in-Err.ensures.fault

pub returns-in-Ok-text-clause-read : goal.returns-in-Ok-text-clause-read
returns-in-Ok-text-clause-read c =
    with_journal (name_of c.args.wire) c.args.source.now _ _ c.in-Ok.ensures.read
    (c.in-Ok-text.ensures.one (scanned (scan_of (name_of c.args.wire) c.args.source.now)).journals c.in-Ok.ensures.journals)

pub returns-in-Err-text-clause-fault : goal.returns-in-Err-text-clause-fault
returns-in-Err-text-clause-fault c =
    fails_now c.in-Err-text.fault _ (many_journals (name_of c.args.wire) c.args.source.now _ _ c.in-Ok.ensures.read
    (c.in-Err-text.ensures.one (scanned (scan_of (name_of c.args.wire) c.args.source.now)).journals c.in-Ok.ensures.journals))
