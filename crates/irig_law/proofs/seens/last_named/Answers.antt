use Rattle.std.proofs.Common.{◌≡◌, ◌-◌, ℕ, arith, sym, ap, ◌∙◌}
use Rattle.std.proofs.lemmas.Option.{same_Some}
use Rattle.irig_law.specs.Names.{seen, walk}
use Rattle.irig_law.proofs.Walked.{moved-last, seen-next, walk-next}
use Rattle.irig_law.proofs.seens.last_named.Goals as goal

pub loop-place-preserved : goal.loop-place-preserved
loop-place-preserved l =
    let k = l.loop-place.place in
    let w = l.loop-place.walk in
    let s = l.seen_at.result in
    let before = l.loop-place.invariant in
    let next = l.moved-walk.ensures in
    record {
      some = omega arith;
      last = let less = moved-last w k s before.last in let same = ap (λ v. v.last) next in omega (arith, less, same);
      walk = λ c rise runs each. (
          let here = before.walk c rise runs each in
          let is = same_Some s (seen c rise runs k) (sym l.seen_at.ensures ∙ each k l.loop-place-test.true) in
          next ∙ walk-next c rise runs k w s before.some here (is ∙ sym (seen-next c rise runs k w before.some here)));
    }

pub returns-clause-last : goal.returns-clause-last
returns-clause-last l c rise runs each =
    let past : l.loop-place.place ≡ l.args.many = omega (arith, l.loop-place.auto.place-end, l.loop-place-test.false, l.loop-place.invariant.some) in
    l.loop-place.invariant.walk c rise runs each ∙ ap (λ (m : ℕ). walk c rise runs (m - 1)) past
