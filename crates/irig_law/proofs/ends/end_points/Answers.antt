use Rattle.std.proofs.Common.{◌≡◌, List, true, refl, arith, ap, ◌∙◌, subst}
use Rattle.std.specs.Prelude.{◌↔◌}
use Rattle.irig_law.specs.{Clocks.end_slack, Seens.AreInStep, Ends.IsSureAfter, Seens.SeenAfter}
use Rattle.irig_law.specs.declared.names.Seen.{Seen}
use Rattle.irig_law.proofs.{EndsSaid.end-says, SeenAtEnds.sure-after, SeenLists.seen-after-moved}
use Rattle.irig_law.proofs.ends.end_points.Goals as goal

pub returns-clause-points : goal.returns-clause-points
returns-clause-points c =
    let f = c.args.format in
    let ps = c.args.pulses.now.track.pulses in
    let a = c.args.frame.now in
    let list = c.in_ok-after.after.items in
    let steps = c.in_step-steps.result in
    let none = c.is_sure-none.result in
    let slack = ap (λ t. t.pulses) c.end_slack-slack.ensures.pulses in
    let after = ap (λ t. t.pulses) c.in_ok-after.ensures.pulses in
    let seen : SeenAfter f ps a (end_slack ps a) list = seen-after-moved f _ ps a _ (end_slack ps a) list list c.in_ok-after.ensures.seen slack
    c.end_slack-slack.ensures.slack refl in
    let stepped : AreInStep list steps = subst (λ (l : List Seen). AreInStep l steps) c.deref.ensures.value c.in_step-steps.ensures in
    let denied : (none ≡ true) ↔ IsSureAfter f ps a =
    sure-after f _ ps a none _ c.is_sure-none.ensures.sure (after ∙ slack) (omega (arith, c.len.ensures.len)) in
    end-says f ps a list steps none seen (omega (arith, c.in_ok-after.ensures.each, c.min-many.ensures, c.len.ensures.len)) stepped denied
    c.in_ok-list.list.items (omega (arith, c.in_ok-list.ensures.each, c.min-many.ensures, c.len.ensures.len)) c.in_ok-list.ensures.points
