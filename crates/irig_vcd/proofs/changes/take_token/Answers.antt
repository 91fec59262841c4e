use Rattle.std.proofs.Common.{◌≡◌, ◌∙◌, ◌∷◌, Option, Bool, None, Some, true, ap, subst, rules}
use Rattle.std.proofs.lemmas.Result.{err_from_is_err_and}
use Rattle.irig_vcd.specs.{Code.Event.is_hash, Code.Scanned.Reaches, Code.Token.word_of, Times.micros_of}
use Rattle.irig_vcd.proofs.ScanSteps.{at_word, fails_in, hash_kind, leads_level, leads_none, leads_short, leads_time, on_put, on_read}
use Rattle.irig_vcd.proofs.changes.take_token.Goals as goal

pub returns-then-is_hash-clause-time : goal.returns-then-is_hash-clause-time
returns-then-is_hash-clause-time c =
    on_read c.time_of_digits.result c.args.unit c.args.trace.now c.args.clock c.requires.time c.time_of_digits.ensures.time c.time_of_digits.ensures.forward

pub returns-then-is_hash-clause-scans : goal.returns-then-is_hash-clause-scans
returns-then-is_hash-clause-scans c =
    let w = word_of c.args.token in
    let sets : is_hash w.kind ≡ true = search rules in
    λ end l. leads_time c.time_of_digits.result c.args.code.now c.args.unit end c.args.trace.now c.args.clock c.args.journals.now c.args.pending.now w
    c.args.tokens.now (hash_kind w.kind sets) (rw (← c.digits_of.ensures) c.time_of_digits.ensures.exact)
    c.time_of_digits.ensures.time c.time_of_digits.ensures.forward l

pub returns-in_err-high-clause-scans : goal.returns-in_err-high-clause-scans
returns-in_err-high-clause-scans c =
    let p = err_from_is_err_and c.from_residual.result c.from_residual.ensures.1 in
    let w = word_of c.args.token in
    rw (p.1, p.2) (λ end l.
    let none = at_word c.args.code.now c.args.unit end c.args.trace.now c.args.clock c.args.journals.now c.args.pending.now w c.args.tokens.now l in
    fails_in c.args.code.now c.args.unit l.s (w ∷ c.args.tokens.now) end c.in_err-high.field-0.0 l.left
    (c.in_err-high.ensures.takes c.args.unit l.s none l.here.keeps))

pub returns-in_err-put-clause-scans : goal.returns-in_err-put-clause-scans
returns-in_err-put-clause-scans c =
    let p = err_from_is_err_and c.from_residual-in_err-put.result c.from_residual-in_err-put.ensures.1 in
    rw (p.1, p.2) (λ end l. leads_short c.args.code.now c.args.unit end l.s (word_of c.args.token ∷ c.args.tokens.now)
    c.micros.result
    (c.micros.ensures.value ∙ ap (micros_of c.args.unit) l.here.traced.last) (c.in_err-put.ensures.memory l.s.changes l.here.traced.follows) l.left)

pub returns-in_ok-put-clause-time : goal.returns-in_ok-put-clause-time
returns-in_ok-put-clause-time c =
    on_put c.args.unit c.args.trace.now c.put.new.self c.args.clock c.micros.result c.in-Some.high c.requires.time c.micros.ensures.value
    c.in_ok-put.ensures.time c.in_ok-put.ensures.ok

pub returns-in_ok-put-clause-scans : goal.returns-in_ok-put-clause-scans
returns-in_ok-put-clause-scans c = λ end l.
    let w = word_of c.args.token in
    let none = at_word c.args.code.now c.args.unit end c.args.trace.now c.args.clock c.args.journals.now c.args.pending.now w c.args.tokens.now l in
    let is : c.in_ok-high.field-0 ≡ Some c.in-Some.high = search rules in
    let r = subst (λ (x : Option Bool). Reaches c.args.code.now c.args.unit l.s (w ∷ c.args.tokens.now) x c.take_level.new.tokens
    c.take_level.new.journals c.take_level.new.pending) is (c.in_ok-high.ensures.takes c.args.unit l.s none l.here.keeps) in
    leads_level c.args.code.now c.args.unit end l.s c.args.trace.now c.put.new.self c.args.clock c.args.journals.now c.take_level.new.journals
    c.args.pending.now c.take_level.new.pending (w ∷ c.args.tokens.now) c.take_level.new.tokens c.in-Some.high c.micros.result r c.micros.ensures.value
    c.in_ok-put.ensures.time c.in_ok-put.ensures.ok l.here l.left

pub returns-in_default-clause-scans : goal.returns-in_default-clause-scans
returns-in_default-clause-scans c = λ end l.
    let w = word_of c.args.token in
    let none = at_word c.args.code.now c.args.unit end c.args.trace.now c.args.clock c.args.journals.now c.args.pending.now w c.args.tokens.now l in
    let is : c.in_ok-high.field-0 ≡ None = search rules in
    let r = subst (λ (x : Option Bool). Reaches c.args.code.now c.args.unit l.s (w ∷ c.args.tokens.now) x c.take_level.new.tokens
    c.take_level.new.journals c.take_level.new.pending) is (c.in_ok-high.ensures.takes c.args.unit l.s none l.here.keeps) in
    leads_none c.args.code.now c.args.unit end l.s c.args.trace.now c.args.clock c.args.journals.now c.take_level.new.journals
    c.args.pending.now c.take_level.new.pending (w ∷ c.args.tokens.now) c.take_level.new.tokens r l.here l.left
