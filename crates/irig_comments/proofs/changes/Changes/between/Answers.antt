use Rattle.std.proofs.Common.{List, ap, arith, filter, length, subst, sym}
use Rattle.irig_comments.specs.Framed.{shown_frames}
use Rattle.irig_comments.specs.Sides.{AreChanges, differs}
use Rattle.irig_comments.specs.declared.sides.Sides.{Sides}
use Rattle.irig_comments.proofs.{PlaceLaws.changes_are, SidesSteps.few_changes}
use Rattle.irig_comments.proofs.changes.Changes.between.Goals as goal

pub returns-clause-places : goal.returns-clause-places
returns-clause-places c =
    let xs = shown_frames c.args.before.now in
    let ys = shown_frames c.args.after.now in
    subst (λ (l : List Sides). AreChanges xs ys (filter differs l)) (sym c.between.ensures) (changes_are xs ys c.len.ensures.order c.len-2.ensures.order)

pub returns-clause-few : goal.returns-clause-few
returns-clause-few c =
    omega (
      arith,
      few_changes (shown_frames c.args.before.now) (shown_frames c.args.after.now),
      ap (λ (l : List Sides). length (filter differs l)) c.between.ensures,
      c.len.ensures.count,
      c.len.ensures.few,
      c.len-2.ensures.count,
      c.len-2.ensures.few,
    )
