use Rattle.std.proofs.Common.{◌≡◌, [], ◌∷◌, length, refl, sym, subst, inl, inr, arith, length-append}
use Rattle.std.proofs.lemmas.Bool.{cases_lt}
use Rattle.std.proofs.lemmas.List.{get_or_append_left, get_or_push}
use Rattle.irig_explaining.specs.declared.ways.Way.{Way}
use Rattle.irig_explaining.specs.{Opened.IsJump, Opened.no_way}
use Rattle.irig_explaining.proofs.steps.jump_ways.Goals as goal

pub loop-class-init : goal.loop-class-init
loop-class-init g c = rw c.new-ways.ensures.items (record {
  all = refl;
  each = λ f lt. absurd (omega arith);
})

pub loop-class-preserved : goal.loop-class-preserved
loop-class-preserved g c =
    let price = g.C.Costs.price c.args.costs.now in let old = c.loop-class.ways.items in let class = c.loop-class.class in
    let w = c.cheapest_jump.result in let so_far = c.loop-class.invariant in
    rw c.in_ok-push.ensures.items (record {
      all = omega (arith, length-append old (w ∷ []), so_far.all);
      each = λ f lt.
          let of = g.C.Costs.to_class c.args.costs.now f in
          elim (cases_lt of class) [
            | inl before ↦
                subst (λ (x : Way). IsJump price c.args.rises c.args.nodes.now c.args.opens.now c.args.rise f x)
                (sym (get_or_append_left old (w ∷ []) no_way of (omega (arith, so_far.all, before)))) (so_far.each f before)
            | inr le ↦
                let same : of ≡ class = omega arith in
                let at : length old ≡ of = omega (arith, so_far.all, same) in
                subst (λ (x : Way). IsJump price c.args.rises c.args.nodes.now c.args.opens.now c.args.rise f x)
                (sym (get_or_push old w no_way of at)) (c.cheapest_jump.ensures f same)
          ];
    })

pub returns : goal.returns
returns g c = λ f lt.
    let end = c.loop-class-test.false in let so_far = c.loop-class.invariant in
    let low = c.to_classes-class-end.ensures f lt in
    (omega (arith, so_far.all, low), so_far.each f (omega (arith, low)))
