use Rattle.std.proofs.Common.{◌≡◌, ◌+◌, ◌*◌, ◌<◌, ◌≤◌, subst, arith, inl, inr}
use Rattle.std.proofs.lemmas.Bool.{cases_lt}
use Rattle.irig_explaining.specs.Distances.{apart, gone, rise_at}
use Rattle.irig_explaining.specs.Wires.{element}
use Rattle.irig_explaining.proofs.Counted.{far_many, wire_most}
use Rattle.irig_explaining.proofs.prices.Prices.dearer.Goals as goal

pub loop-later-init : goal.loop-later-init
loop-later-init c =
    let p = c.args.self.now in let r = c.args.rise in let most = c.dearer_to-most.result in record {
      whole = subst (λ end. element p c.args.this r end ≤ element p c.args.other r end + most) c.wire_end.ensures.exact c.dearer_to-most.ensures.exact;
      each = λ q lt less one. absurd (omega arith);
      small = c.dearer_to-most.ensures.small;
    }

pub loop-later-preserved : goal.loop-later-preserved
loop-later-preserved c =
    let p = c.args.self.now in let r = c.args.rise in let this = c.args.this in let other = c.args.other in let i = c.loop-later.later in
    let so_far = c.loop-later.invariant in let new = c.max-most.result in
    record {
      whole = omega (arith, so_far.whole, c.max-most.ensures);
      each = λ q lt less one. elim (cases_lt q i) [
        | inl before ↦ omega (arith, so_far.each q lt before one, c.max-most.ensures)
        | inr le ↦
            let same : i ≡ q = omega arith in
            let there = subst (λ n. gone p r n ≡ 1 → element p this r (rise_at p n) ≤ element p other r (rise_at p n) + c.dearer_at.result)
            same c.dearer_at.ensures.exact in
            omega (arith, there one, c.max-most.ensures)
      ];
      small = omega (arith, so_far.small, c.dearer_at.ensures.small, c.max-most.ensures);
    }

pub returns-then-self-apart-clause-exact : goal.returns-then-self-apart-clause-exact
returns-then-self-apart-clause-exact c = λ q lt there.
    let p = c.args.self.now in let r = c.args.rise in let i = c.loop-later.later in let so_far = c.loop-later.invariant in
    let late : r < i = omega (arith, c.loop-later.auto.later) in
    let far : 3 * p.clock.now.longest ≤ 2 * apart p r i = omega (arith, c.if-self-apart.true, c.apart.ensures.exact) in
    wire_most p c.args.this c.args.other r q (gone p r q) c.loop-later.most so_far.whole
    (λ one. elim (cases_lt q i) [
      | inl before ↦ so_far.each q lt before one
      | inr le ↦ absurd (far_many p r i q late le there far one)
    ])

pub returns-clause-exact : goal.returns-clause-exact
returns-clause-exact c = λ q lt there.
    let p = c.args.self.now in let r = c.args.rise in let so_far = c.loop-later.invariant in let end = c.loop-later-test.false in
    wire_most p c.args.this c.args.other r q (gone p r q) c.loop-later.most so_far.whole (λ one. so_far.each q lt (omega arith) one)
