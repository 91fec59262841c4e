use Rattle.std.proofs.Common.{◌≡◌, ◌∙◌, ap, Bool, Option, None, Some, refl, subst, rules}
use Rattle.std.proofs.lemmas.Result.{err_from_is_err_and}
use Rattle.irig_vcd.specs.{Code.Scanned.Reaches, Times.micros_of}
use Rattle.irig_vcd.proofs.ScanSteps.{fails_at, leads_level, leads_none, leads_short, on_put}
use Rattle.irig_vcd.proofs.changes.resume.Goals as goal

pub returns-in_err-high-clause-scans : goal.returns-in_err-high-clause-scans
returns-in_err-high-clause-scans c =
    let p = err_from_is_err_and c.from_residual.result c.from_residual.ensures.1 in
    rw (
      p.1,
      p.2,
    ) (λ s at. fails_at c.args.code.now c.args.unit s c.args.tokens.now c.in_err-high.field-0.0 (c.in_err-high.ensures.takes c.args.unit s at.keeps))

pub returns-in_err-put-clause-scans : goal.returns-in_err-put-clause-scans
returns-in_err-put-clause-scans c =
    let p = err_from_is_err_and c.from_residual-in_err-put.result c.from_residual-in_err-put.ensures.1 in
    rw (p.1, p.2) (λ s at. leads_short c.args.code.now c.args.unit _ s c.args.tokens.now c.micros.result
    (c.micros.ensures.value ∙ ap (micros_of c.args.unit) at.traced.last) (c.in_err-put.ensures.memory s.changes at.traced.follows) refl)

pub returns-in_ok-put-clause-time : goal.returns-in_ok-put-clause-time
returns-in_ok-put-clause-time c =
    on_put c.args.unit c.args.trace.now c.put.new.self c.args.clock c.micros.result c.in-Some.high c.requires.time c.micros.ensures.value
    c.in_ok-put.ensures.time c.in_ok-put.ensures.ok

pub returns-in_ok-put-clause-scans : goal.returns-in_ok-put-clause-scans
returns-in_ok-put-clause-scans c = λ s at.
    let is : c.in_ok-high.field-0 ≡ Some c.in-Some.high = search rules in
    let r = subst (λ (x : Option Bool). Reaches c.args.code.now c.args.unit s c.args.tokens.now x c.take_open.new.tokens
    c.take_open.new.journals c.take_open.new.pending) is (c.in_ok-high.ensures.takes c.args.unit s at.keeps) in
    leads_level c.args.code.now c.args.unit _ s c.args.trace.now c.put.new.self c.args.clock c.args.journals.now c.take_open.new.journals
    c.args.pending.now c.take_open.new.pending c.args.tokens.now c.take_open.new.tokens c.in-Some.high c.micros.result r c.micros.ensures.value
    c.in_ok-put.ensures.time c.in_ok-put.ensures.ok at refl

pub returns-in_default-clause-scans : goal.returns-in_default-clause-scans
returns-in_default-clause-scans c = λ s at.
    let is : c.in_ok-high.field-0 ≡ None = search rules in
    let r = subst (λ (x : Option Bool). Reaches c.args.code.now c.args.unit s c.args.tokens.now x c.take_open.new.tokens
    c.take_open.new.journals c.take_open.new.pending) is (c.in_ok-high.ensures.takes c.args.unit s at.keeps) in
    leads_none c.args.code.now c.args.unit _ s c.args.trace.now c.args.clock c.args.journals.now c.take_open.new.journals
    c.args.pending.now c.take_open.new.pending c.args.tokens.now c.take_open.new.tokens r at refl
