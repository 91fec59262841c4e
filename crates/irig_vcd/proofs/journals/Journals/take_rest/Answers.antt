use Rattle.std.proofs.Common.{inr, refl, sym, subst}
use Rattle.irig_vcd.specs.{Code.Pending.Begins, Journals.comment}
use Rattle.irig_vcd.proofs.ScanSteps.{ends_at, goes_on, holds_shut, reaches_shut}
use Rattle.irig_vcd.proofs.journals.Journals.take_rest.Goals as goal

pub returns-in-Err-clause-read : goal.returns-in-Err-clause-read
returns-in-Err-clause-read c = λ code unit s k.
    let w = k.means.0 in
    rw c.in-Err.ensures.none (record {
      t = s;
      same = goes_on code unit s w c.args.tokens.now _ k.means.1 c.in-Err.ensures.exact;
      last = refl;
      changes = refl;
      keeps = k;
      ends = inr refl;
    })

pub returns-in-Some-clause-read : goal.returns-in-Some-clause-read
returns-in-Some-clause-read c = λ code unit s k.
    let w = k.means.0 in
    let b = subst (λ j. Begins j w) c.in-Some.is k.means.2 in
    reaches_shut code unit s c.args.tokens.now c.end_at.new.tokens (comment w c.in-Ok.end) _
    (ends_at code unit s w c.args.tokens.now c.end_at.new.tokens c.in-Ok.end k.means.1 c.in-Ok.ensures.exact)
    (rw b.0 (c.put.ensures s.journals (comment w c.in-Ok.end) (sym b.1) refl k.holds))

pub returns-in_default-clause-read : goal.returns-in_default-clause-read
returns-in_default-clause-read c = λ code unit s k.
    let w = k.means.0 in
    let b = subst (λ j. Begins j w) c.in_default.is k.means.2 in
    reaches_shut code unit s c.args.tokens.now c.end_at.new.tokens (comment w c.in-Ok.end) _
    (ends_at code unit s w c.args.tokens.now c.end_at.new.tokens c.in-Ok.end k.means.1 c.in-Ok.ensures.exact)
    (holds_shut c.args.self.now s (comment w c.in-Ok.end) b k.holds)
