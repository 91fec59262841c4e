use Rattle.std.proofs.Common.{◌≡◌, [], ◌∷◌, length, refl, sym, subst, inl, inr, arith, length-append}
use Rattle.std.proofs.lemmas.Bool.{cases_lt}
use Rattle.std.proofs.lemmas.List.{get_or_append_left, get_or_push}
use Rattle.irig_explaining.specs.Rows.{IsMost}
use Rattle.irig_explaining.proofs.nodes.mosts.Goals as goal

pub loop-class-init : goal.loop-class-init
loop-class-init g c = rw c.new-mosts.ensures.items (record {
  all = refl;
  each = λ e lt. absurd (omega arith);
})

pub loop-class-preserved : goal.loop-class-preserved
loop-class-preserved g c =
    let price = g.C.Costs.price c.args.costs.now in let old = c.loop-class.mosts.items in let class = c.loop-class.class in
    let most = c.most_from.result in let so_far = c.loop-class.invariant in
    rw c.in_ok-push.ensures.items (record {
      all = omega (arith, length-append old (most ∷ []), so_far.all);
      each = λ e lt.
          let of = g.C.Costs.from_class c.args.costs.now e in
          elim (cases_lt of class) [
            | inl before ↦
                subst (λ x. IsMost price c.args.rise c.args.this e x)
                (sym (get_or_append_left old (most ∷ []) 0 of (omega (arith, so_far.all, before)))) (so_far.each e before)
            | inr le ↦
                let same : of ≡ class = omega arith in
                let at : length old ≡ of = omega (arith, so_far.all, same) in
                subst (λ x. IsMost price c.args.rise c.args.this e x)
                (sym (get_or_push old most 0 of at)) (λ q f k. c.most_from.ensures e q f k same)
          ];
    })

pub returns : goal.returns
returns g c = λ e lt.
    let end = c.loop-class-test.false in let so_far = c.loop-class.invariant in
    let low = c.from_classes-class-end.ensures e lt in
    (omega (arith, so_far.all, low), so_far.each e (omega (arith, low)))
