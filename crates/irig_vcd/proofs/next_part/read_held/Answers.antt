use Rattle.std.proofs.Common.{◌≡◌, ◌≤◌, ◌++◌, ◌+◌, ◌∙◌, false, inl, List, Option, Some, ℕ, length, take, drop, ap, sym, subst}
use Rattle.irig_vcd.specs.Code.DumpReader.{HasRead, HasReadWords, Stage, StopsAt}
use Rattle.irig_vcd.specs.declared.fault.VcdFault.TheVariants.{OutOfMemory}
use Rattle.irig_vcd.specs.{Answer.IsFaultOf, Code.Gathered.gathered, Code.Gathered.so_far, Code.Joins.ends_inside, Code.Journals.place_view}
use Rattle.irig_vcd.specs.{Code.NextPart.IsDark, Code.NextPart.IsReadUp, Window.extent_parts, Words.Word, Words.words_from, Words.words_of}
use Rattle.irig_vcd.proofs.PartSteps.{gathers_next, gathers_same, memory_at, memory_journal, next_bytes, no_room, part_words, put_read, stops_at}
use Rattle.irig_vcd.proofs.next_part.read_held.Goals.{After-whole_len-whole, In-Err}
use Rattle.irig_vcd.proofs.next_part.read_held.Goals as goal

-- what is read ends outside a word
outside : (c : After-whole_len-whole) → ends_inside false (take c.whole_len-whole.result c.args.progress.now.held.items) ≡ false
outside c = ap (λ (l : List ℕ). ends_inside false (take c.whole_len-whole.result l)) (sym c.as_slice.ensures.value) ∙ c.whole_len-whole.ensures.outside

-- what stops the reading
stops : (c : In-Err) (wire : Option (List ℕ)) (bytes : List ℕ) → (r : HasRead wire bytes c.args.progress.now)
    → StopsAt c.args.progress.now.unit c.args.progress.now.code wire (words_of r.front ++ words_from c.args.progress.now.gone false
    (take c.whole_len-whole.result c.args.progress.now.held.items)) c.in-Err.fault
stops c wire bytes r =
    let s = c.args.progress.now in
    let stage = subst (λ (w : Option (List ℕ)). Stage w (words_of r.front) s.unit s.code.items s.reading) (sym r.name) r.stage in
    subst (λ (w : Option (List ℕ)). StopsAt s.unit s.code w
    (words_of r.front ++ words_from s.gone false (take c.whole_len-whole.result s.held.items)) c.in-Err.fault)
    r.name (c.in-Err.ensures.fault (words_of r.front) stage r.none)

pub returns-in-Err-clause-fault : goal.returns-in-Err-clause-fault
returns-in-Err-clause-fault c = λ wire bytes more r.
    let s = c.args.progress.now in
    let n = c.whole_len-whole.result in
    let cut = outside (goal.at.returns-in-Err-clause-fault c).After-whole_len-whole in
    subst (λ (l : List ℕ). IsFaultOf c.in-Err.fault (extent_parts s.reading.trace.extent wire (l ++ more))) (sym r.whole)
    (stops_at s.reading.trace.extent s.unit s.code wire ((r.front ++ s.held.items) ++ more) _ _ c.in-Err.fault
    (part_words r.front s.held.items more n s.gone r.place r.closed cut)
    (stops (goal.at.returns-in-Err-clause-fault c).In-Err wire bytes r))

pub returns-in_ok-gather-in-Ok-Ok-clause-read : goal.returns-in_ok-gather-in-Ok-Ok-clause-read
returns-in_ok-gather-in-Ok-Ok-clause-read c = λ wire bytes r.
    let n = c.whole_len-whole.result in
    let s = c.args.progress.now in
    let held = s.held.items in
    let mid = c.read_to.new.self in
    let cut = outside (goal.at.returns-in_ok-gather-in-Ok-Ok-clause-read c).After-whole_len-whole in
    let within : n ≤ length held = subst (λ (l : List ℕ). n ≤ length l) c.as_slice.ensures.value c.whole_len-whole.ensures.within in
    let kept = c.in-Ok-Ok.ensures.kept in
    let g = c.in_ok-gather-in-Ok-Ok.ensures in
    let gathers = g.bytes ∙ gathers_same s mid (so_far (place_view mid.reading.journals.first) mid.reading.pending) n kept.0 kept.1 kept.3 in
    let rest = c.let_go.ensures.rest in
    put_read wire bytes s mid c.let_go.new.self n c.in-Ok-Ok.field-0-0 within cut kept.0 kept.1 kept.2
    (c.let_go.ensures.held ∙ ap (λ v. drop n v.items) g.rest.5) (c.let_go.ensures.gone ∙ ap (λ k. k + n) g.rest.4)
    (rest.0 ∙ g.rest.0) (rest.1 ∙ g.rest.1) (rest.2 ∙ g.rest.2) (rest.3 ∙ g.rest.3) (ap (λ v. v.items) rest.4 ∙ gathers)
    (rw c.in-Ok-Ok.field-0-is at c.in-Ok-Ok.ensures.unit) (rw c.in-Ok-Ok.field-0-is at c.in-Ok-Ok.ensures.read) r

pub returns-in_ok-gather-in-Ok-Ok-clause-held : goal.returns-in_ok-gather-in-Ok-Ok-clause-held
returns-in_ok-gather-in-Ok-Ok-clause-held c =
    let n = c.whole_len-whole.result in
    let now = c.let_go.new.self in
    let g = c.in_ok-gather-in-Ok-Ok.ensures in
    let known : now.unit ≡ Some c.in-Ok-Ok.field-0-0 = c.let_go.ensures.rest.1 ∙ (g.rest.1 ∙ (rw c.in-Ok-Ok.field-0-is at c.in-Ok-Ok.ensures.unit)) in
    let held : now.held.items ≡ drop n c.as_slice.result.now =
    c.let_go.ensures.held ∙ (ap (λ v. drop n v.items) (g.rest.5 ∙ c.in-Ok-Ok.ensures.kept.0) ∙ ap (λ (l : List ℕ). drop n l) (sym c.as_slice.ensures.value)) in
    subst (λ (u : Option ℕ). IsReadUp u now) (sym known) (subst IsDark (sym held) c.whole_len-whole.ensures.dark)

pub returns-in-Err-clause-memory : goal.returns-in-Err-clause-memory
returns-in-Err-clause-memory c = λ memory wire bytes r.
    let s = c.args.progress.now in
    let n = c.whole_len-whole.result in
    let is : c.in-Err.fault ≡ OutOfMemory = cc memory in
    let next = next_bytes wire bytes s n (outside (goal.at.returns-in-Err-clause-memory c).After-whole_len-whole) r in
    memory_at s.unit s.code s.journal wire bytes (r.front ++ take n s.held.items) (drop n s.held.items) next.more next.bytes_so (inl next.closed) next.all
    (subst (λ (l : List Word). StopsAt s.unit s.code wire l OutOfMemory) (sym next.words_so)
    (subst (λ e. StopsAt s.unit s.code wire (words_of r.front ++ words_from s.gone false (take n s.held.items)) e) is
    (stops (goal.at.returns-in-Err-clause-memory c).In-Err wire bytes r)))

pub returns-in_err-gather-in-Ok-Ok-clause-memory : goal.returns-in_err-gather-in-Ok-Ok-clause-memory
returns-in_err-gather-in-Ok-Ok-clause-memory c = λ memory wire bytes r.
    let s = c.args.progress.now in
    let mid = c.read_to.new.self in
    let n = c.whole_len-whole.result in
    let unit = c.in-Ok-Ok.field-0-0 in
    let front = r.front ++ take n s.held.items in
    let next = next_bytes wire bytes s n (outside (goal.at.returns-in_err-gather-in-Ok-Ok-clause-memory c).After-whole_len-whole) r in
    let stage = subst (λ (w : Option (List ℕ)). Stage w (words_of r.front) s.unit s.code.items s.reading) (sym r.name) r.stage in
    let got =
    subst (λ (w : Option (List ℕ)). HasReadWords w (words_of r.front ++ words_from s.gone false (take n s.held.items)) unit mid.code.items mid.reading)
    r.name ((rw c.in-Ok-Ok.field-0-is at c.in-Ok-Ok.ensures.read) (words_of r.front) stage r.none) in
    let within : n ≤ length s.held.items = subst (λ (l : List ℕ). n ≤ length l) c.as_slice.ensures.value c.whole_len-whole.ensures.within in
    let kept = c.in-Ok-Ok.ensures.kept in
    memory_journal s.unit s.code s.journal wire bytes front (drop n s.held.items) unit mid.code.items mid.reading next.bytes_so (inl next.closed)
    (subst (λ (l : List Word). HasReadWords wire l unit mid.code.items mid.reading) (sym next.words_so) got)
    (no_room s mid (so_far (place_view mid.reading.journals.first) mid.reading.pending) n (gathered mid.reading front) kept.0 kept.1 kept.3
    (gathers_next wire bytes s n unit mid.code.items mid.reading within r got) c.in_err-gather-in-Ok-Ok.ensures.full)
