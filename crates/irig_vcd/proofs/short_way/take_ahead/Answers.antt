use Rattle.std.proofs.Common.{◌≡◌, ℕ, List, refl, subst}
use Rattle.std.proofs.lemmas.Result.{err_from_is_err_and}
use Rattle.irig_vcd.specs.{Code.Scanned.IsTraced, Code.Scanned.Passes, Scan.Scan, Scan.closed}
use Rattle.irig_vcd.proofs.{PulseSteps.late_fine, PulseSteps.one_byte, Followed.high_in}
use Rattle.irig_vcd.proofs.short_way.take_ahead.Goals as goal

pub take_pulses-requires-clause-late : goal.take_pulses-requires-clause-late
take_pulses-requires-clause-late c =
    late_fine c.args.unit c.args.clock c.args.trace.now.time (c.requires.unit c.if-is_quick.true) c.requires.time c.requires.late

pub returns-then-has_sign-clause-passes : goal.returns-then-has_sign-clause-passes
returns-then-has_sign-clause-passes c =
    subst
    (λ (code : List ℕ). (s : Scan) → s.opened ≡ closed → IsTraced c.args.unit s c.args.trace.now c.args.clock
    → Passes code c.args.unit s c.args.tokens.now c.take_pulses.new.trace c.in_ok-now.now c.take_pulses.new.tokens)
    (one_byte c.args.code.now (c.requires.one c.if-is_quick.true)) c.in_ok-now.ensures.passes

pub returns-clause-passes : goal.returns-clause-passes
returns-clause-passes c = λ s none traced. record { now = s; same = refl; traced = traced; journals = refl; opened = refl }

pub returns-in_err-now-clause-memory : goal.returns-in_err-now-clause-memory
returns-in_err-now-clause-memory c =
    let p = err_from_is_err_and c.from_residual.result c.from_residual.ensures.1 in
    let kept = c.in-Some.ensures.kept c.in_err-now.ensures.kept in
    rw p.1 (λ changes h. high_in changes c.args.trace.now _ h c.requires.late kept.0.before)
