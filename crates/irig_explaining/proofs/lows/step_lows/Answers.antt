use Rattle.std.proofs.Common.{◌≡◌, ◌-◌, ◌<◌, ◌∙◌, Some, length, get_or, slice_get, true, refl, sym, subst, inl, inr, arith}
use Rattle.std.proofs.lemmas.Bool.{cases_eq}
use Rattle.std.proofs.lemmas.Option.{get_or_from_slice_get, slice_get_within}
use Rattle.std.proofs.lemmas.List.Elements.{All-get_or, Contains-get_or}
use Rattle.irig_explaining.specs.declared.{nodes.Node.Node, opened.Open.Open}
use Rattle.irig_explaining.specs.{Lows.IsFrom, Lows.IsUnder, Nodes.going, Opened.IsOpen, Reached.reaches}
use Rattle.irig_explaining.proofs.{Lowering.under_less, Members.no_node, Opens.no_open, Opens.place_of}
use Rattle.irig_explaining.proofs.lows.step_lows.Goals as goal

pub loop-done-init : goal.loop-done-init
loop-done-init g c = record {
  all = refl;
  kept = λ e. omega arith;
  under = λ e j o m lt le at. absurd (omega (arith, le, slice_get_within c.args.opens.now j o at));
  origin = λ e. inl refl;
}

pub bounds-nodes-from : goal.bounds-nodes-from
bounds-nodes-from g c =
    let price = g.C.Costs.price c.args.costs.now in let nodes = c.args.nodes.now in let opens = c.args.opens.now in
    let i = length opens - 1 - c.loop-done.done in
    let lt : i < length opens = omega arith in
    let is = All-get_or (IsOpen price c.args.rises nodes c.args.rise) opens i no_open lt c.requires.opens in
    slice_get_within nodes (get_or opens i no_open).from is.node is.at

pub step_from-requires-clause-fits : goal.step_from-requires-clause-fits
step_from-requires-clause-fits g c =
    let opens = c.args.opens.now in let i = length opens - 1 - c.loop-done.done in let lt : i < length opens = omega arith in
    (All-get_or (IsOpen (g.C.Costs.price c.args.costs.now) c.args.rises c.args.nodes.now c.args.rise) opens i no_open lt c.requires.opens).fits

pub step_from-requires-clause-least : goal.step_from-requires-clause-least
step_from-requires-clause-least g c =
    let price = g.C.Costs.price c.args.costs.now in let nodes = c.args.nodes.now in let opens = c.args.opens.now in
    let i = length opens - 1 - c.loop-done.done in
    let lt : i < length opens = omega arith in
    let is = All-get_or (IsOpen price c.args.rises nodes c.args.rise) opens i no_open lt c.requires.opens in
    let same = get_or_from_slice_get nodes (get_or opens i no_open).from is.node no_node is.at in
    λ f k. rw same (is.least f k)

pub loop-done-preserved : goal.loop-done-preserved
loop-done-preserved g c =
    let price = g.C.Costs.price c.args.costs.now in let nodes = c.args.nodes.now in let opens = c.args.opens.now in let q = c.args.rise in
    let old = c.args.lows.now.items in let now = c.loop-done.lows.items in let new = c.step_from.new.lows.items in
    let i = length opens - 1 - c.loop-done.done in
    let lt : i < length opens = omega arith in
    let one = get_or opens i no_open in
    let is = All-get_or (IsOpen price c.args.rises nodes q) opens i no_open lt c.requires.opens in
    let same = get_or_from_slice_get nodes one.from is.node no_node is.at in
    let so_far = c.loop-done.invariant in let lower = c.step_from.ensures.lower in
    record {
      all = lower.all ∙ so_far.all;
      kept = λ e. omega (arith, lower.kept e, so_far.kept e);
      under = λ e j o m less le at there on. elim (cases_eq j i) [
        | inl here ↦
            let it = get_or_from_slice_get opens i o no_open (subst (λ n. slice_get opens n ≡ Some o) here at) in
            let back : slice_get nodes one.from ≡ Some m = subst (λ (x : Open). slice_get nodes x.from ≡ Some m) (sym it) there in
            subst (λ (x : Node). IsUnder price x q e (get_or new e 0)) (get_or_from_slice_get nodes one.from m no_node back)
            (c.step_from.ensures.under e (omega (arith, less, so_far.all)) (subst (λ (x : Open). reaches x.reach e ≡ true) (sym it) on))
        | inr other ↦ under_less price m q e (get_or now e 0) (get_or new e 0) (lower.kept e)
            (so_far.under e j o m less (omega (arith, le, other, slice_get_within opens j o at)) at there on)
      ];
      origin = λ e. elim (lower.origin e) [
        | inl was ↦ elim (so_far.origin e) [
          | inl first ↦ inl (was ∙ first)
          | inr from ↦ inr (subst (λ x. IsFrom price nodes opens q e x) (sym was) from)
        ]
        | inr by ↦ inr (record {
          one = one;
          there = Contains-get_or opens i no_open lt;
          node = is.node;
          at = is.at;
          kind = by.0;
          exact = subst (λ (x : Node). get_or new e 0 ≡ going price x q e by.0) same by.1;
        })
      ];
    }

pub returns : goal.returns
returns g c =
    let opens = c.args.opens.now in let so_far = c.loop-done.invariant in let end = c.loop-done-test.false in record {
      all = so_far.all;
      kept = so_far.kept;
      under = λ e o m lt there at on.
          let place = place_of opens o there in
          so_far.under e place.0 o m lt (omega arith) place.1 at on;
      origin = so_far.origin;
    }
