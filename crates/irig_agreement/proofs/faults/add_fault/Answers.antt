use Rattle.std.proofs.Common.{◌∙◌}
use Rattle.irig_law.proofs.Each.{all-more}
use Rattle.irig_agreement.specs.Changes.{IsFault}
use Rattle.irig_agreement.specs.declared.fault.Fault.{Fault}
use Rattle.irig_agreement.proofs.faults.add_fault.Goals as goal

pub returns-then-is_agreed-clause-none : goal.returns-then-is_agreed-clause-none
returns-then-is_agreed-clause-none c e = (let is = c.is_agreed.ensures.0 c.if-is_agreed.true in (e, c.requires.agreed c.args.moment is.0 is.1))

pub returns-then-is_told-clause-none : goal.returns-then-is_told-clause-none
returns-then-is_told-clause-none c e = absurd (let no = c.is_told.ensures (c.deref.ensures.value ∙ e) in cc (no, c.if-is_told.true))

pub returns-in_ok-push-in-Some-clause-faults : goal.returns-in_ok-push-in-Some-clause-faults
returns-in_ok-push-in-Some-clause-faults c =
    let old = c.args.list.now.items in
    let x : Fault = record { moment = c.args.moment; what = c.in-Some.what } in
    let is = IsFault c.args.kept.now.format c.args.kept.now.century c.args.before.now.track.pulses c.args.after.now.track.pulses in
    all-more Fault old c.push.new.self.items x is
    c.in_ok-push-in-Some.ensures.items c.requires.faults (c.requires.asked, c.in-Some.ensures.change)
