use Rattle.std.proofs.Common.{refl}
use Rattle.irig_vcd.specs.declared.fault.VcdFault.TheVariants.{OutOfMemory}
use Rattle.irig_script.proofs.{ObeyLemmas.Reading.reads_none, ObeyLemmas.DumpRuns.read_heading}
use Rattle.irig_script.proofs.obey.dump_run.run_on_parts.Goals as goal

pub returns-in-Err-clause-reads : goal.returns-in-Err-clause-reads
returns-in-Err-clause-reads g c = reads_none _

pub returns-in-Err-clause-ends : goal.returns-in-Err-clause-ends
returns-in-Err-clause-ends g c wire bytes read =
    (c.in-Err.ensures.fault wire bytes read, read_heading wire bytes _ _ read, refl, refl)

pub returns-in-Ok-clause-ends : goal.returns-in-Ok-clause-ends
returns-in-Ok-clause-ends g c wire bytes read = c.run_opened.ensures.ends wire bytes _ (c.in-Ok.ensures.opened wire bytes read)

pub returns-in-Ok-clause-memory : goal.returns-in-Ok-clause-memory
returns-in-Ok-clause-memory g c = λ memory. absurd (c.run_opened.ensures.opened OutOfMemory memory)

pub returns-in-Err-clause-memory : goal.returns-in-Err-clause-memory
returns-in-Err-clause-memory g c = λ memory. c.in-Err.ensures.memory (cc memory)
