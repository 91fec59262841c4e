use Rattle.std.proofs.Common.{Option, ℕ, subst}
use Rattle.irig_vcd.specs.{Answer.bytes_of, Code.DumpReader.Stage}
use Rattle.irig_vcd.proofs.PartSteps.{next_fault, next_words}
use Rattle.irig_vcd.proofs.progress.Progress.read_to.Goals as goal

pub returns-in-Err-clause-fault : goal.returns-in-Err-clause-fault
returns-in-Err-clause-fault c = λ words stage zero.
    let s = c.args.self.now in
    rw c.in-Some.is (next_fault (bytes_of s.wire) words s.gone c.args.whole c.deref.result.now s.held.items c.in-Some.unit
    c.as_slice-code.result.now s.code.items s.reading c.in-Err.fault c.deref.ensures.value c.as_slice-code.ensures.value
    (c.in-Err.ensures.fault (bytes_of s.wire))
    (subst (λ (u : Option ℕ). Stage (bytes_of s.wire) words u s.code.items s.reading) c.in-Some.is stage))

pub returns-in-Ok-clause-read : goal.returns-in-Ok-clause-read
returns-in-Ok-clause-read c = λ words stage zero.
    let s = c.args.self.now in
    next_words (bytes_of s.wire) words s.gone c.args.whole c.deref.result.now s.held.items c.in-Some.unit
    c.as_slice-code.result.now s.code.items s.reading c.go_on.new.reading c.deref.ensures.value c.as_slice-code.ensures.value
    (c.in-Ok.ensures.read (bytes_of s.wire))
    (subst (λ (u : Option ℕ). Stage (bytes_of s.wire) words u s.code.items s.reading) c.in-Some.is stage)
