use Rattle.std.proofs.Common.{◌+◌, ℕ, slice_get, Option, arith, sym, ap, ◌∙◌, subst}
use Rattle.std.proofs.lemmas.Option.{same_Some}
use Rattle.irig_law.specs.Happened.{IsPointBy, point_by}
use Rattle.irig_law.specs.declared.{names.Seen.Seen, point.Point.Point}
use Rattle.irig_law.proofs.Each.{at-more, one-longer}
use Rattle.irig_law.proofs.stretch.points_by.Goals as goal

pub loop-place-preserved : goal.loop-place-preserved
loop-place-preserved c =
    let f = c.args.format in
    let a = c.args.from.now in
    let b = c.args.to.now in
    let h = c.args.happened.now in
    let denials = c.args.denials.now in
    let after = c.args.after.now in
    let back = c.args.before.now in
    let n = c.loop-place.place in
    let x = c.point_by.result in
    let xs = c.loop-place.list.items in
    let one = c.seen_at-one in
    let other = c.seen_at-other in
    let before = c.loop-place.invariant in
    let here : IsPointBy f a b h denials after back n x = λ s t at at_too. c.point_by.ensures
    ∙ (ap (λ (z : Seen). point_by f a b h denials (a.marker + n) z other.result) (same_Some one.result s (sym one.ensures ∙ at))
    ∙ ap (λ (z : Seen). point_by f a b h denials (a.marker + n) s z)
    (same_Some other.result t (sym other.ensures ∙ (ap (λ (i : ℕ). slice_get back i) c.saturating_sub.ensures ∙ at_too)))) in
    let pushed = c.in_ok-push.ensures.items in
    let longer = one-longer (Option Point) xs c.push.new.self.items x pushed in
    record {
      many = omega (arith, longer, before.many);
      each = at-more (Option Point) xs c.push.new.self.items x (λ (i : ℕ) (y : Option Point). IsPointBy f a b h denials after back i y) pushed before.each
          (subst (λ (m : ℕ). IsPointBy f a b h denials after back m x) (sym before.many) here);
    }
