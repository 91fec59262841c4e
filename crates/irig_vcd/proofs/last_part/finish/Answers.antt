use Rattle.std.proofs.Common.{◌≡◌, ◌∙◌, List, None, Ok, Err, Option, ℕ, Some, IfSome, length, ap, subst, sym}
use Rattle.std.proofs.lemmas.Result.{err_from_is_err_and}
use Rattle.irig_vcd.specs.declared.fault.VcdFault.TheVariants.{OutOfMemory}
use Rattle.irig_vcd.specs.{Code.DumpReader.HasReadWords, Code.Gathered.gathered, Code.Journals.Holds, Code.Journals.text_at, Dump.recorded_up_to, Extent.most_pulses, Dump.scan_of, Window.extent_dump, Window.within}
use Rattle.irig_vcd.specs.{Dump.scanned, Journals.Comment, Level.HasEdge, Words.words_of, declared.journals.Journals.Journals}
use Rattle.irig_vcd.proofs.{PartSteps.before_scanned, PartSteps.dump_kept, PartSteps.end_fault, PartSteps.told_in, WholeDump.fails_now, WholeDump.many_journals_in}
use Rattle.irig_vcd.proofs.{WholeDump.no_dump_in, WholeDump.with_journal_in, Gathered.whole_gathered, last_part.finish.Goals.After-gathered_text}
use Rattle.irig_vcd.proofs.last_part.finish.Goals as goal

-- what the dump is, its journals, and the bytes of the first one
read_up : (c : After-gathered_text) (wire : Option (List ℕ)) (bytes code : List ℕ) → HasReadWords wire (words_of bytes) c.args.unit code c.args.reading
    → c.args.journal.items ≡ gathered c.args.reading bytes
    → (extent_dump c.args.reading.trace.extent wire bytes ≡ Ok c.in-Ok.recording) × Holds (scanned (scan_of wire bytes)).journals c.in_ok-end.field-0.journals
    × IfSome c.in_ok-end.field-0.journals.first (λ p. text_at bytes (Some p) ≡ Some c.args.journal.items)
read_up c wire bytes code h gathers =
    let unit = c.args.unit in
    let v = c.args.reading.trace.extent in
    let k = c.in_ok-end.ensures.exact h.0 h.2 in (
      dump_kept v wire bytes unit code c.args.reading k.0 k.1 h k.2 ∙ (ap (recorded_up_to (most_pulses v) (within v.window k.0)) (sym k.3)
          ∙ (rw c.most_pulses-most.ensures.value at (c.in-Ok.ensures.exact (within v.window k.0))) k.4),
      subst (λ (all : List Comment). Holds all c.in_ok-end.field-0.journals) (told_in wire bytes unit code c.args.reading h)
          (c.in_ok-end.ensures.journals h.0 h.2),
      subst (λ (j : Journals). IfSome j.first (λ p. text_at bytes (Some p) ≡ Some c.args.journal.items)) (sym c.in_ok-end.ensures.same)
          (whole_gathered c.args.reading.journals.first c.args.reading.pending (length bytes) bytes c.args.journal.items gathers),
    )

pub returns-in_err-end-clause-fault : goal.returns-in_err-end-clause-fault
returns-in_err-end-clause-fault c =
    let p = err_from_is_err_and c.from_residual.result c.from_residual.ensures.1 in
    rw (p.1, p.2) (λ wire bytes code h gathers. end_fault c.args.reading.trace.extent wire bytes c.args.unit code c.args.reading c.in_err-end.field-0.0 h
    (c.in_err-end.ensures.exact h.0 h.2))

pub returns-in_err-end-clause-memory : goal.returns-in_err-end-clause-memory
returns-in_err-end-clause-memory c = λ memory wire bytes code h.
    let p = err_from_is_err_and c.from_residual.result c.from_residual.ensures.1 in
    let is : c.in_err-end.field-0.0 ≡ OutOfMemory = cc (rw (p.1, p.2) at memory) in
    subst HasEdge (sym (before_scanned wire bytes c.args.unit code (h.0, None) h.1)) (c.in_err-end.ensures.memory (ap Err is) h.0 h.2)

pub recording_of-requires-clause-kept : goal.recording_of-requires-clause-kept
recording_of-requires-clause-kept c = rw c.most_pulses-most.ensures.value c.in_ok-end.ensures.kept

pub returns-in-Err-clause-fault : goal.returns-in-Err-clause-fault
returns-in-Err-clause-fault c = λ wire bytes code h gathers.
    let k = c.in_ok-end.ensures.exact h.0 h.2 in
    let v = c.args.reading.trace.extent in
    no_dump_in v wire bytes c.in-Err.fault (fails_now c.in-Err.fault _ (dump_kept v wire bytes c.args.unit code c.args.reading k.0 k.1 h k.2
    ∙ (ap (recorded_up_to (most_pulses v) (within v.window k.0)) (sym k.3) ∙ (rw c.most_pulses-most.ensures.value at (c.in-Err.ensures.exact
    (within v.window k.0))) k.4)))

pub returns-in-Ok-gathered_text-clause-read : goal.returns-in-Ok-gathered_text-clause-read
returns-in-Ok-gathered_text-clause-read c = λ wire bytes code h gathers.
    let known = read_up (goal.at.returns-in-Ok-gathered_text-clause-read c).After-gathered_text wire bytes code h gathers in
    with_journal_in c.args.reading.trace.extent wire bytes c.in-Ok.recording _ known.0 (c.in-Ok-gathered_text.ensures.one (scanned
    (scan_of wire bytes)).journals bytes known.1 known.2)

pub returns-in-Err-gathered_text-clause-fault : goal.returns-in-Err-gathered_text-clause-fault
returns-in-Err-gathered_text-clause-fault c = λ wire bytes code h gathers.
    let known = read_up (goal.at.returns-in-Err-gathered_text-clause-fault c).After-gathered_text wire bytes code h gathers in
    fails_now c.in-Err-gathered_text.fault _ (many_journals_in c.args.reading.trace.extent wire bytes c.in-Ok.recording c.in-Err-gathered_text.fault known.0
    (c.in-Err-gathered_text.ensures.one (scanned (scan_of wire bytes)).journals bytes known.1 known.2))
