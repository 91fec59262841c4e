use Rattle.std.proofs.Common.{◌≡◌, ◌∙◌, ◌+◌, ◌++◌, [], inr, refl, length, take, arith, sym, subst}
use Rattle.std.proofs.lemmas.List.{append-nil, take_all}
use Rattle.irig_vcd.specs.Code.Gathered.{gathered, part_at, so_far}
use Rattle.irig_vcd.specs.{Code.Journals.place_view, Code.DumpReader.StopsAt, Words.words_of, declared.fault.VcdFault.TheVariants.OutOfMemory}
use Rattle.irig_vcd.proofs.PartSteps.{gathers_same, last_early, last_fault, last_gathered, last_read, memory_at, memory_journal, no_room, stops_at}
use Rattle.irig_vcd.proofs.{Sound.never_declared, WholeDump.fails_now, WholeDump.no_parts_in, last_part.read_rest.Goals.After-len-all}
use Rattle.irig_vcd.proofs.last_part.read_rest.Goals as goal

-- all bytes that are held
all_held : (c : After-len-all) → take c.len-all.result c.args.progress.now.held.items ≡ c.args.progress.now.held.items
all_held c = let s = c.args.progress.now in take_all c.len-all.result s.held.items (omega (arith, c.len-all.ensures, s.held.ok.0))

pub returns-in-Err-clause-fault : goal.returns-in-Err-clause-fault
returns-in-Err-clause-fault c = λ wire bytes r.
    let s = c.args.progress.now in
    stops_at s.reading.trace.extent s.unit s.code wire bytes (words_of bytes) [] c.in-Err.fault (sym (append-nil (words_of bytes)))
    (last_fault wire bytes s c.len-all.result c.in-Err.fault (all_held (goal.at.returns-in-Err-clause-fault c).After-len-all) c.in-Err.ensures.fault r)

pub returns-in-Err-clause-memory : goal.returns-in-Err-clause-memory
returns-in-Err-clause-memory c = λ memory wire bytes r.
    let s = c.args.progress.now in
    let is : c.in-Err.fault ≡ OutOfMemory = cc memory in
    memory_at s.unit s.code s.journal wire bytes bytes [] [] (sym (append-nil bytes)) (inr refl) (sym (append-nil (words_of bytes)))
    (subst (λ e. StopsAt s.unit s.code wire (words_of bytes) e) is (last_fault wire bytes s c.len-all.result c.in-Err.fault
    (all_held (goal.at.returns-in-Err-clause-memory c).After-len-all) c.in-Err.ensures.fault r))

pub returns-in-Ok-Err-clause-fault : goal.returns-in-Ok-Err-clause-fault
returns-in-Ok-Err-clause-fault c = λ wire bytes r.
    let s = c.args.progress.now in
    let early = rw c.in-Ok-Err.field-0-is at c.in-Ok-Err.ensures.early in
    fails_now c.in-Ok-Err.fault _ (no_parts_in s.reading.trace.extent wire bytes c.in-Ok-Err.fault (last_early wire bytes s c.len-all.result c.in-Ok-Err.fault
    (all_held (goal.at.returns-in-Ok-Err-clause-fault c).After-len-all) early.0 early.1 r))

pub returns-in-Ok-Err-clause-memory : goal.returns-in-Ok-Err-clause-memory
returns-in-Ok-Err-clause-memory c = λ memory wire bytes r.
    let s = c.args.progress.now in
    let early = rw c.in-Ok-Err.field-0-is at c.in-Ok-Err.ensures.early in
    absurd (never_declared wire (words_of bytes) c.in-Ok-Err.fault (last_early wire bytes s c.len-all.result c.in-Ok-Err.fault
    (all_held (goal.at.returns-in-Ok-Err-clause-memory c).After-len-all) early.0 early.1 r) (cc memory))

pub returns-in_err-gather-in-Ok-Ok-clause-memory : goal.returns-in_err-gather-in-Ok-Ok-clause-memory
returns-in_err-gather-in-Ok-Ok-clause-memory c = λ memory wire bytes r.
    let s = c.args.progress.now in
    let mid = c.read_to.new.self in
    let n = c.len-all.result in
    let unit = c.in-Ok-Ok.unit in
    let long : n ≡ length s.held.items = omega (arith, c.len-all.ensures, s.held.ok.0) in
    let all = all_held (goal.at.returns-in_err-gather-in-Ok-Ok-clause-memory c).After-len-all in
    let reads = rw c.in-Ok-Ok.field-0-is at c.in-Ok-Ok.ensures.read in
    let kept = c.in-Ok-Ok.ensures.kept in
    let place = so_far (place_view mid.reading.journals.first) mid.reading.pending in
    memory_journal s.unit s.code s.journal wire bytes bytes [] unit mid.code.items mid.reading (sym (append-nil bytes)) (inr refl)
    (last_read wire bytes s n unit mid.code.items mid.reading all reads r)
    (no_room s mid place n (gathered mid.reading bytes) kept.0 kept.1 kept.3
    (last_gathered wire bytes s n unit mid.code.items (s.journal.items ++ part_at (place (s.gone + n)) s.gone (take n s.held.items)) mid.reading long all refl
    reads r) c.in_err-gather-in-Ok-Ok.ensures.full)

pub returns-in_ok-gather-in-Ok-Ok-clause-read : goal.returns-in_ok-gather-in-Ok-Ok-clause-read
returns-in_ok-gather-in-Ok-Ok-clause-read c = λ wire bytes r.
    let s = c.args.progress.now in
    let mid = c.read_to.new.self in
    let n = c.len-all.result in
    let unit = c.in-Ok-Ok.unit in
    let long : n ≡ length s.held.items = omega (arith, c.len-all.ensures, s.held.ok.0) in
    let all : take n s.held.items ≡ s.held.items = take_all n s.held.items (omega (arith, long)) in
    let reads = rw c.in-Ok-Ok.field-0-is at c.in-Ok-Ok.ensures.read in
    let kept = c.in-Ok-Ok.ensures.kept in
    let g = c.in_ok-gather-in-Ok-Ok.ensures in
    let journal = c.gather.new.self.journal.items in
    let gathers = g.bytes ∙ gathers_same s mid (so_far (place_view mid.reading.journals.first) mid.reading.pending) n kept.0 kept.1 kept.3 in
    rw (g.rest.2, g.rest.3) (
      last_read wire bytes s n unit mid.code.items mid.reading all reads r,
      last_gathered wire bytes s n unit mid.code.items journal mid.reading long all gathers reads r,
    )
