use Rattle.std.proofs.Common.{◌≡◌, ◌-◌, ℕ, List, Option, slice_get, arith, sym, ap, ◌∙◌, subst}
use Rattle.irig_law.specs.Points.{AreJoined, points_end}
use Rattle.irig_law.specs.declared.point.Point.{Point}
use Rattle.irig_law.proofs.Joined.{joined-more, joined-none}
use Rattle.irig_law.proofs.part.joined.Goals as goal

pub loop-place-init : goal.loop-place-init
loop-place-init c = record { joined = joined-none c.args.before.now c.args.from c.args.list.items c.args.list.items }

pub loop-place-preserved : goal.loop-place-preserved
loop-place-preserved c =
    let before = c.loop-place.invariant.joined in
    let long = before.long in
    let list = c.loop-place.list.items in
    let there = ap (λ (l : List (Option Point)). slice_get l c.loop-place.place) (sym c.deref.ensures.value) ∙ c.known_at-known.ensures in
    record {
      joined = joined-more c.args.before.now c.args.from c.args.list.items list c.loop-place.place c.known_at-known.result
          c.at-said.result c.said_by_both.result (omega (arith, long, c.loop-place-test.true, c.requires.long, c.end.ensures))
          before there c.at-said.ensures c.said_by_both.ensures;
    }

pub returns-clause-joined : goal.returns-clause-joined
returns-clause-joined c =
    let past : c.loop-place.place ≡ points_end c.args.before.now - c.args.from =
    omega (arith, c.requires.from, c.loop-place.auto.place-end, c.loop-place-test.false, c.end.ensures) in
    subst (λ (n : ℕ). AreJoined c.args.before.now c.args.from c.args.list.items c.loop-place.list.items n) past c.loop-place.invariant.joined
