use Rattle.std.proofs.Common.{◌≡◌, ◌<◌, ◌⊎◌, ◌++◌, ℕ, [], ◌∷◌, length, get_or, refl, subst, inl, inr, arith, below_more}
use Rattle.std.specs.List.{Contains}
use Rattle.std.proofs.lemmas.{Bool.cases_lt}
use Rattle.std.proofs.lemmas.List.Elements.{All-push, Contains-append_left, Contains-push}
use Rattle.irig_explaining.specs.declared.nodes.Node.{Node}
use Rattle.irig_explaining.specs.Rows.{IsBeaten, IsIn, IsMost, node_of}
use Rattle.irig_explaining.proofs.Growing.{beaten_by}
use Rattle.irig_explaining.proofs.nodes.kept.Goals as goal
use Rattle.irig_explaining.proofs.nodes.kept.Goals.{then-is_needed+in_ok-push, else-is_needed}

pub is_needed-requires-clause-there : goal.is_needed-requires-clause-there
is_needed-requires-clause-there g c = rw c.as_slice-mosts.ensures.value (c.in_ok-found.ensures c.loop-element.element (omega arith)).0

pub loop-element-preserved : goal.loop-element-preserved
loop-element-preserved g c =
    let price = g.C.Costs.price c.args.costs.now in let row = c.args.row.now in let best = c.args.best in let r = c.args.rise in
    let i = c.loop-element.element in let old = c.loop-element.kept.items in let so_far = c.loop-element.invariant in
    let x : Node = node_of r row i in
    let lt : i < length row = omega arith in
    let P : ℕ → Type 0 = λ e. Contains old (node_of r row e) ⊎ IsBeaten price (node_of r row best) (node_of r row e) in
    elim c.if-is_needed.branch [
      | then-is_needed+in_ok-push w ↦
          let new = old ++ x ∷ [] in
          let Q : ℕ → Type 0 = λ e. Contains new (node_of r row e) ⊎ IsBeaten price (node_of r row best) (node_of r row e) in
          rw (w.kept-is, w.in_ok-push.ensures.items) (record {
            those = All-push (IsIn r row) old x so_far.those (refl, lt, refl);
            best_too = λ h. elim (cases_lt best i) [
              | inl less ↦ Contains-append_left old (x ∷ []) (node_of r row best) (so_far.best_too less)
              | inr le ↦ (let same : i ≡ best = omega arith in subst (λ v. Contains new (node_of r row v)) same (Contains-push old x))
            ];
            others = λ e less. below_more Q i
                (λ e less. elim (so_far.others e less) [
                  | inl t ↦ inl (Contains-append_left old (x ∷ []) (node_of r row e) t)
                  | inr b ↦ inr b
                ])
                (inl (Contains-push old x))
                e less;
          })
      | else-is_needed w ↦
          let not = w.if-is_needed.false in
          rw w.kept-is (record {
            those = so_far.those;
            best_too = λ h. elim (cases_lt best i) [
              | inl less ↦ so_far.best_too less
              | inr le ↦ (let same : i ≡ best = omega arith in let needed = c.is_needed.ensures.itself same in absurd (cc))
            ];
            others = λ e less. below_more P i
                (λ e less. so_far.others e less)
                (elim c.is_needed.ensures.beaten [
                  | inl needed ↦ absurd (cc)
                  | inr more ↦
                      let of = g.C.Costs.from_class c.args.costs.now i in
                      let most : IsMost price r best i (get_or c.as_slice-mosts.result.now of 0) =
                      rw c.as_slice-mosts.ensures.value (c.in_ok-found.ensures i (omega arith)).1 in
                      inr (beaten_by price r best i row (get_or c.as_slice-mosts.result.now of 0) most (c.requires.best.low i 0 lt) more)
                ])
                e less;
          })
    ]

pub returns : goal.returns
returns g c =
    let so_far = c.loop-element.invariant in let end = c.loop-element-test.false in record {
      those = so_far.those;
      best_too = λ lt. so_far.best_too (omega arith);
      others = λ e lt. so_far.others e (omega arith);
    }
