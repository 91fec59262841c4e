use Rattle.std.proofs.Common.{List, ℕ, ap, subst, sym}
use Rattle.irig_recording.specs.declared.pulse.Pulse.{Pulse}
use Rattle.irig_difference.specs.Stretches.{stretches_between}
use Rattle.irig_patch.specs.Patched.{AreStretches}
use Rattle.irig_patch.proofs.Inverts.{stretches_fit}
use Rattle.irig_patch.proofs.patching.patch.Goals as goal

pub invert_all-requires-clause-left : goal.invert_all-requires-clause-left
invert_all-requires-clause-left c =
    let b = c.args.before.now in let a = c.args.after.now in
    let fit = stretches_fit b a c.length.ensures.lawful c.length-2.ensures.lawful c.requires.covers in
    let here = subst (λ (n : ℕ). AreStretches n (stretches_between b a)) (sym (ap (λ r. r.micros) c.requires.before)) fit in
    subst (λ (ps : List Pulse). AreStretches c.args.session.now.state.micros ps) (sym c.between.ensures.exact) here
