use Rattle.std.proofs.Common.{List, subst}
use Rattle.irig_recording.specs.declared.pulse.Pulse.{Pulse}
use Rattle.irig_patch.proofs.Inverts.{Goes, one_made}
use Rattle.irig_patch.proofs.patching.invert_all.Goals as goal

pub loop-stretch-preserved : goal.loop-stretch-preserved
loop-stretch-preserved c =
    one_made c.in-Some.stretch c.args.left.now c.next.new.self c.args.session.now c.loop-stretch.session c.invert.new.self c.in_ok-invert.field-0
    (subst (λ (ps : List Pulse). Goes c.args.left.now ps c.args.session.now c.loop-stretch.session) c.in-Some.ensures c.loop-stretch.invariant)
    c.in_ok-invert.ensures.step
