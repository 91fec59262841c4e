use Rattle.std.proofs.Common.{◌≡◌, ℕ, List, slice_get, Option, Some, refl, arith, sym, ap, ◌∙◌, subst}
use Rattle.irig_recording.specs.declared.pulse.Pulse.{Pulse}
use Rattle.irig_law.specs.{Clocks.slack_of, Happened.AreDenials, Happened.HasHappened, Happened.IsPointBy, Seens.SeenAfter, Seens.SeenBefore}
use Rattle.irig_law.specs.declared.{names.Seen.Seen, point.Point.Point}
use Rattle.irig_law.proofs.{SeenLists.seen-after-moved, SeenLists.seen-before-moved, Stretched.stretch-says}
use Rattle.irig_law.proofs.stretch.stretch_points.Goals as goal

pub returns-clause-points : goal.returns-clause-points
returns-clause-points c i x =
    let f = c.args.format in
    let ps = c.args.pulses.now.track.pulses in
    let a = c.args.from.now in
    let b = c.args.to.now in
    let slack = slack_of ps a b in
    let one = ap (λ t. t.pulses) c.slack_of-slack.ensures.pulses in
    let two = ap (λ t. t.pulses) c.in_ok-after.ensures.pulses in
    let three = ap (λ t. t.pulses) c.in_ok-before.ensures.pulses in
    let after = c.in_ok-after.after.items in
    let before = c.in_ok-before.before.items in
    let seen : SeenAfter f ps a slack after =
    seen-after-moved f _ ps a _ slack after after c.in_ok-after.ensures.seen one c.slack_of-slack.ensures.slack refl in
    let seen-too : SeenBefore f ps b slack before =
    seen-before-moved f _ ps b _ slack before before c.in_ok-before.ensures.seen (two ∙ one) c.slack_of-slack.ensures.slack refl in
    let h = c.in_ok-happened.happened in
    let happened : HasHappened f c.args.century ps a b h =
    subst (λ (q : List Pulse). HasHappened f c.args.century q a b h) (three ∙ (two ∙ one)) c.in_ok-happened.ensures.happened in
    let four = ap (λ t. t.pulses) c.in_ok-happened.ensures.pulses in
    let denials = c.in_ok-denials.denials.items in
    let deny : AreDenials f ps a b h denials =
    subst (λ (q : List Pulse). AreDenials f q a b h denials) (four ∙ (three ∙ (two ∙ one))) c.in_ok-denials.ensures.denials in
    let points = c.in_ok-list.list.items in
    let Says = λ (d : List ℕ) (s t : List Seen). (i : ℕ) (y : Option Point) → slice_get points i ≡ Some y → IsPointBy f a b h d s t i y in
    let are : Says denials after before =
    subst (λ (l : List ℕ). Says l after before) c.deref-5.ensures.value
    (subst (λ (l : List Seen). Says c.deref-5.result.now l before) c.deref-6.ensures.value
    (subst (λ (l : List Seen). Says c.deref-5.result.now c.deref-6.result.now l) c.deref-7.ensures.value c.in_ok-list.ensures.points)) in
    stretch-says f c.args.century ps a b h denials after before c.in_ok-list.list.items deny c.requires.order.0 happened seen seen-too
    (c.in_ok-after.ensures.each ∙ c.stretch-many.ensures.many) (omega (arith, c.in_ok-before.ensures.each)) c.in_ok-list.ensures.each
    are i x

pub points_by-requires-clause-low : goal.points_by-requires-clause-low
points_by-requires-clause-low c k e at = c.in_ok-after.ensures.seen.low k e (ap (λ (l : List Seen). slice_get l k) (sym c.deref-6.ensures.value) ∙ at)

pub points_by-requires-clause-low_too : goal.points_by-requires-clause-low_too
points_by-requires-clause-low_too c k e at =
    c.in_ok-before.ensures.seen.low k e (ap (λ (l : List Seen). slice_get l k) (sym c.deref-7.ensures.value) ∙ at)
