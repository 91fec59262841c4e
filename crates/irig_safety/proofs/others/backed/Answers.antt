use Rattle.std.proofs.Common.{◌∙◌, ap, arith, sym}
use Rattle.std.proofs.lemmas.Option.{slice_get-get_or}
use Rattle.irig_safety.proofs.OtherLemmas.{back_all, back_more, back_none, back_same}
use Rattle.irig_safety.proofs.others.backed.Goals as goal
use Rattle.irig_safety.proofs.others.backed.Goals.{then-is_backed+in_ok-push, else-is_backed}

pub loop-place-init : goal.loop-place-init
loop-place-init c = back_none c.args.format c.args.frames.now _ c.new-kept.ensures.items

pub loop-place-preserved : goal.loop-place-preserved
loop-place-preserved c = elim c.if-is_backed.branch [
  | then-is_backed+in_ok-push w ↦ back_more c.args.format c.args.frames.now c.loop-place.kept.items _ c.loop-place.place _ _ _
      (slice_get-get_or c.args.frames.now c.loop-place.place _ c.loop-place-test.true) c.frame_before.ensures c.frame_at.ensures
      (sym c.is_backed.ensures ∙ w.if-is_backed.true) (ap (λ v. v.items) w.kept-is ∙ w.in_ok-push.ensures.items) c.loop-place.invariant
  | else-is_backed w ↦ back_same c.args.format c.args.frames.now c.loop-place.kept.items _ c.loop-place.place _ _ _
      (slice_get-get_or c.args.frames.now c.loop-place.place _ c.loop-place-test.true) c.frame_before.ensures c.frame_at.ensures
      (sym c.is_backed.ensures ∙ w.if-is_backed.false) (ap (λ v. v.items) w.kept-is) c.loop-place.invariant
]

pub returns : goal.returns
returns c = back_all c.args.format c.args.frames.now _ c.loop-place.place (omega (arith, c.loop-place-test.false)) c.loop-place.invariant
