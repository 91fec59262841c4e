use Rattle.std.proofs.Common.{◌+◌, ◌++◌, ◌∷◌, [], Bool, List, drop, slice_get, arith, ap, sym, ◌∙◌}
use Rattle.irig_timed.specs.Held.{held_in}
use Rattle.irig_timed.proofs.HeldLists.{held-next, held-same}
use Rattle.irig_law.proofs.Each.{one-longer}
use Rattle.irig_timed.proofs.held.held_in.Goals as goal
use Rattle.irig_timed.proofs.held.held_in.Goals.{then-held, else-held}

pub loop-place-preserved : goal.loop-place-preserved
loop-place-preserved c =
    let rs = c.args.records.now.records in
    let frames = c.args.frames.now in
    let k = c.loop-place.place in
    let old = c.loop-place.list.items in
    let inv = c.loop-place.invariant in
    let here = ap (λ l. slice_get l k) (sym inv.same) ∙ c.record-marker.ensures.value in
    let h = c.begins_at-held.result in
    let is = c.begins_at-held.ensures in
    let few = inv.few in
    let many = one-longer Bool old c.push.new.self.items h c.in_ok-push.ensures.items in
    let lists = ap (λ (l : List Bool). l ++ held_in (drop c.if-held.next frames) (drop (k + 1) rs)) c.in_ok-push.ensures.items in
    record {
      same = ap (λ v. v.records) c.record-marker.ensures.counted ∙ inv.same;
      few = elim c.if-held.branch [
        | then-held w ↦ omega (arith, w.next-is, few)
        | else-held w ↦ omega (arith, w.next-is, few)
      ];
      many = omega (arith, many, inv.many);
      left = lists ∙ (elim c.if-held.branch [
        | then-held w ↦ (λ i. (old ++ w.if-held.true i ∷ []) ++ held_in (drop (w.next-is i) frames) (drop (k + 1) rs))
            ∙ held-next frames rs k c.record-marker.result here old c.loop-place.next (sym is ∙ w.if-held.true)
        | else-held w ↦ (λ i. (old ++ w.if-held.false i ∷ []) ++ held_in (drop (w.next-is i) frames) (drop (k + 1) rs))
            ∙ held-same frames rs k c.record-marker.result here old c.loop-place.next (sym is ∙ w.if-held.false)
      ] ∙ inv.left);
    }
