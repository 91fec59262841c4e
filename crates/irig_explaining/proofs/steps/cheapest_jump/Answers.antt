use Rattle.std.proofs.Common.{◌≡◌, ◌-◌, ◌*◌, ◌<◌, ◌≤◌, ◌∙◌, ℕ, MatchOption, length, get_or, slice_get, Some, sym, ap, subst, inl, inr, arith}
use Rattle.std.proofs.lemmas.Bool.{cases_eq}
use Rattle.std.proofs.lemmas.Option.{get_or_from_slice_get, slice_get_within}
use Rattle.std.proofs.lemmas.List.Elements.{All-get_or}
use Rattle.irig_explaining.specs.declared.{nodes.Node.Node, opened.Open.Open, ways.Way.Way}
use Rattle.irig_explaining.specs.declared.claim.Kind.TheVariants.{Jump}
use Rattle.irig_explaining.specs.{Nodes.ComesFrom, Nodes.going, Opened.IsOpen}
use Rattle.irig_explaining.proofs.{Members.no_node, Opens.comes, Opens.no_open, Opens.place_of}
use Rattle.irig_explaining.proofs.steps.cheapest_jump.Goals as goal

pub loop-done-init : goal.loop-done-init
loop-done-init g c = record {
  first = omega (arith, c.first-best.ensures.cost);
  jumps = λ f j o m of le at. absurd (omega (arith, le, slice_get_within c.args.opens.now j o at));
  backed = λ f of. rw c.first-best.ensures.from c.first-best.ensures.cost;
}

pub bounds-nodes-from : goal.bounds-nodes-from
bounds-nodes-from g c =
    let price = g.C.Costs.price c.args.costs.now in let nodes = c.args.nodes.now in let opens = c.args.opens.now in
    let i = length opens - 1 - c.loop-done.done in
    let lt : i < length opens = omega arith in
    let is = All-get_or (IsOpen price c.args.rises nodes c.args.rise) opens i no_open lt c.requires.opens in
    slice_get_within nodes (get_or opens i no_open).from is.node is.at

pub loop-done-preserved : goal.loop-done-preserved
loop-done-preserved g c =
    let price = g.C.Costs.price c.args.costs.now in let nodes = c.args.nodes.now in let opens = c.args.opens.now in
    let i = length opens - 1 - c.loop-done.done in let q = c.args.rise in let rises = c.args.rises in let so_far = c.loop-done.invariant in
    let lt : i < length opens = omega arith in
    let is = All-get_or (IsOpen price rises nodes q) opens i no_open lt c.requires.opens in
    let u = (get_or opens i no_open).from in
    let same = get_or_from_slice_get nodes u is.node no_node is.at in
    let w = c.cheaper_jump-best.result in
    let B : ℕ → Way → Type 0 = λ f x. MatchOption x.from (x.cost ≡ rises.skip * q) (λ u. ComesFrom price rises nodes q f x u) in
    record {
      first = omega (arith, c.cheaper_jump-best.ensures.kept, so_far.first);
      jumps = λ f j o m of le at there. elim (cases_eq j i) [
        | inl here ↦
            let one = get_or_from_slice_get opens i o no_open (subst (λ n. slice_get opens n ≡ Some o) here at) in
            let back : slice_get nodes u ≡ Some m = subst (λ (x : Open). slice_get nodes x.from ≡ Some m) (sym one) there in
            subst (λ (x : Node). w.cost ≤ going price x q f Jump) (get_or_from_slice_get nodes u m no_node back)
            (c.cheaper_jump-best.ensures.least f of)
        | inr other ↦ omega (
          arith,
          c.cheaper_jump-best.ensures.kept,
          so_far.jumps f j o m of (omega (arith, le, other, slice_get_within opens j o at)) at there,
        )
      ];
      backed = λ f of. elim c.cheaper_jump-best.ensures.origin [
        | inl e ↦ subst (B f) (sym e) (so_far.backed f of)
        | inr by ↦ comes price rises nodes q f u w is.node is.at is.within by.from
            (subst (λ (x : Node). w.cost ≡ going price x q f w.kind) same
            (by.cost f of ∙ sym (ap (going price (get_or nodes u no_node) q f) by.kind)))
      ];
    }

pub returns : goal.returns
returns g c = λ f of.
    let opens = c.args.opens.now in let so_far = c.loop-done.invariant in let end = c.loop-done-test.false in record {
      first = so_far.first;
      jumps = λ o m there at.
          let place = place_of opens o there in
          so_far.jumps f place.0 o m of (omega arith) place.1 at;
      backed = so_far.backed f of;
    }
