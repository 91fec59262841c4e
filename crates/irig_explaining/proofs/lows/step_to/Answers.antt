use Rattle.std.proofs.Common.{◌≡◌, ◌<◌, ◌≤◌, ◌⊎◌, length, sym, subst, arith}
use Rattle.std.proofs.lemmas.List.{get_or-set_same, get_or_read}
use Rattle.irig_explaining.specs.declared.claim.Kind.{Kind}
use Rattle.irig_explaining.specs.{Lows.IsUnder, Nodes.going}
use Rattle.irig_explaining.proofs.Lowering.{lower_none, lower_one}
use Rattle.irig_explaining.proofs.lows.step_to.Goals as goal

pub returns-then-len-element-clause-lower : goal.returns-then-len-element-clause-lower
returns-then-len-element-clause-lower g c = lower_none (g.C.Costs.price c.args.costs.now) c.args.node c.args.rise c.args.lows.now.items

pub returns-clause-lower : goal.returns-clause-lower
returns-clause-lower g c =
    let price = g.C.Costs.price c.args.costs.now in let m = c.args.node in let q = c.args.rise in
    let xs = c.args.lows.now.items in let e = c.args.element in let x = c.lower.result in
    let lt : e < length xs = omega arith in
    let was = get_or_read xs e c.index.result.now lt c.index.ensures 0 in
    lower_one price m q xs e x lt (subst (λ v. x ≤ v) was c.lower.ensures.kept)
    (subst (λ v. (x ≡ v) ⊎ ((k : Kind) × (x ≡ going price m q e k))) was c.lower.ensures.origin)

pub returns-clause-under : goal.returns-clause-under
returns-clause-under g c = λ lt.
    subst (λ x. IsUnder (g.C.Costs.price c.args.costs.now) c.args.node c.args.rise c.args.element x)
    (sym (get_or-set_same c.args.lows.now.items c.args.element c.lower.result 0 lt)) c.lower.ensures.under
