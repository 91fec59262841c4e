use Rattle.std.proofs.Common.{◌≡◌, List, true, refl, arith, ap, ◌∙◌, subst}
use Rattle.std.specs.Prelude.{◌↔◌}
use Rattle.irig_recording.specs.declared.pulse.Pulse.{Pulse}
use Rattle.irig_law.specs.{Clocks.end_slack, Seens.AreInStep, Ends.IsSureBefore, Seens.SeenBefore}
use Rattle.irig_law.specs.declared.names.Seen.{Seen}
use Rattle.irig_law.proofs.{EndsSaid.begin-says, SeenLists.seen-before-moved}
use Rattle.irig_law.proofs.ends.begin_points.Goals as goal

pub returns-clause-points : goal.returns-clause-points
returns-clause-points c =
    let f = c.args.format in
    let ps = c.args.pulses.now.track.pulses in
    let a = c.args.frame.now in
    let list = c.in_ok-before.before.items in
    let steps = c.in_step-steps.result in
    let none = c.is_sure-none.result in
    let slack = ap (λ t. t.pulses) c.end_slack-slack.ensures.pulses in
    let after = ap (λ t. t.pulses) c.in_ok-before.ensures.pulses in
    let seen : SeenBefore f ps a (end_slack ps a) list = seen-before-moved f _ ps a _ (end_slack ps a) list list c.in_ok-before.ensures.seen slack
    c.end_slack-slack.ensures.slack refl in
    let stepped : AreInStep list steps = subst (λ (l : List Seen). AreInStep l steps) c.deref.ensures.value c.in_step-steps.ensures in
    let denied : (none ≡ true) ↔ IsSureBefore f ps a =
    subst (λ (q : List Pulse). (none ≡ true) ↔ IsSureBefore f q a) (after ∙ slack) c.is_sure-none.ensures.sure in
    begin-says f ps a list steps none seen (omega (arith, c.in_ok-before.ensures.each, c.saturating_sub-from.ensures)) stepped denied
    c.saturating_sub-from.result c.in_ok-list.list.items c.saturating_sub-from.ensures (omega (arith, c.in_ok-list.ensures.each))
    c.in_ok-list.ensures.points
