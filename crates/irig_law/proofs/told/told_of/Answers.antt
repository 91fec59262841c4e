use Rattle.std.proofs.Common.{List, refl, arith, ap, ◌∙◌, subst}
use Rattle.irig_recording.specs.declared.pulse.Pulse.{Pulse}
use Rattle.irig_law.specs.{Clocks.slack_of, Happened.AreDenials, Happened.HasHappened}
use Rattle.irig_law.proofs.SeenLists.{seen-after-moved, seen-before-moved}
use Rattle.irig_law.proofs.told.told_of.Goals as goal

pub returns-clause-told : goal.returns-clause-told
returns-clause-told c =
    let f = c.args.format in
    let ps = c.args.pulses.now.track.pulses in
    let a = c.args.from.now in
    let b = c.args.to.now in
    let slack = slack_of ps a b in
    let one = ap (λ t. t.pulses) c.slack_of-slack.ensures.pulses in
    let two = ap (λ t. t.pulses) c.in_ok-after.ensures.pulses ∙ one in
    let three = ap (λ t. t.pulses) c.in_ok-before.ensures.pulses ∙ two in
    let four = ap (λ t. t.pulses) c.in_ok-happened.ensures.pulses ∙ three in
    let after = c.in_ok-after.after.items in
    let before = c.in_ok-before.before.items in
    let h = c.in_ok-happened.happened in
    let denials = c.in_ok-denials.denials.items in
    record {
      happened = subst (λ (q : List Pulse). HasHappened f c.args.century q a b h) three c.in_ok-happened.ensures.happened;
      few = c.in_ok-happened.ensures.few;
      denials = subst (λ (q : List Pulse). AreDenials f q a b h denials) four c.in_ok-denials.ensures.denials;
      after = seen-after-moved f _ ps a _ slack after after c.in_ok-after.ensures.seen one c.slack_of-slack.ensures.slack refl;
      before = seen-before-moved f _ ps b _ slack before before c.in_ok-before.ensures.seen two c.slack_of-slack.ensures.slack refl;
      long = c.in_ok-after.ensures.each ∙ c.stretch-many.ensures.many;
      long_too = omega (arith, c.in_ok-before.ensures.each);
    }
