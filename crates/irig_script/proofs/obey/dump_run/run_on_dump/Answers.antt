use Rattle.std.proofs.Common.{refl}
use Rattle.irig_vcd.specs.declared.fault.VcdFault.TheVariants.{OutOfMemory}
use Rattle.irig_script.proofs.ObeyLemmas.Reading.{reads_none}
use Rattle.irig_script.proofs.obey.dump_run.run_on_dump.Goals as goal

pub returns-in-Err-clause-reads : goal.returns-in-Err-clause-reads
returns-in-Err-clause-reads g c = reads_none _

pub returns-in-Err-clause-ends : goal.returns-in-Err-clause-ends
returns-in-Err-clause-ends g c = (c.in-Err.ensures.fault, (λ e d. cc (c.in-Err.ensures.heading e d)), refl, refl)

pub returns-in-Ok-clause-ends : goal.returns-in-Ok-clause-ends
returns-in-Ok-clause-ends g c = c.run_opened.ensures.ends _ _ _ c.in-Ok.ensures.opened

pub returns-in-Ok-clause-memory : goal.returns-in-Ok-clause-memory
returns-in-Ok-clause-memory g c = λ memory. absurd (c.run_opened.ensures.opened OutOfMemory memory)

pub returns-in-Err-clause-memory : goal.returns-in-Err-clause-memory
returns-in-Err-clause-memory g c = λ memory. c.in-Err.ensures.memory (cc memory)
