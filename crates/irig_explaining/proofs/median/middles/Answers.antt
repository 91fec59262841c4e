use Rattle.std.proofs.Common.{◌++◌, ℕ, [], ◌∷◌, get_or, sym, subst, arith, below_more, length-append}
use Rattle.std.proofs.lemmas.List.{get_or_append_left, get_or_push}
use Rattle.irig_explaining.specs.Middles.{IsMiddle, around}
use Rattle.irig_explaining.proofs.median.middles.Goals as goal

pub loop-place-preserved : goal.loop-place-preserved
loop-place-preserved c =
    let xs = c.args.distances.now in let reach = c.args.reach in let i = c.loop-place.place in
    let ms = c.loop-place.middles.items in let m = c.middle.result in let so_far = c.loop-place.invariant in
    let here : IsMiddle (around reach xs i) m = rw (c.in_ok-around.ensures.items, c.nearest.ensures.exact) at c.middle.ensures in
    let P : ℕ → Type 0 = λ v. IsMiddle (around reach xs v) (get_or (ms ++ m ∷ []) v 0) in
    rw c.in_ok-push.ensures.items (record {
      all = omega (arith, so_far.all, length-append ms (m ∷ []));
      each = λ v lt. below_more P i
          (λ v lt. subst (IsMiddle (around reach xs v)) (sym (get_or_append_left ms (m ∷ []) 0 v (omega (arith, so_far.all)))) (so_far.each v lt))
          (subst (IsMiddle (around reach xs i)) (sym (get_or_push ms m 0 i so_far.all)) here)
          v lt;
    })
