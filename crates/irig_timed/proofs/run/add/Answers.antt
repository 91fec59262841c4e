use Rattle.std.proofs.Common.{◌≡◌, ◌<◌, ◌-◌, List, length, slice_get, slice_set, arith, refl, sym, ap, ◌∙◌, subst}
use Rattle.std.specs.Prelude.{IfSome}
use Rattle.std.proofs.lemmas.Option.{same_Some, slice_get-get_or, slice_get_within}
use Rattle.irig_law.specs.declared.point.Point.{Point}
use Rattle.irig_timed.specs.Elements.{GoesOn, IsWith, longer}
use Rattle.irig_timed.specs.declared.run.Run.{Run}
use Rattle.irig_timed.proofs.RunLists.{with-push, with-set}
use Rattle.irig_timed.proofs.run.add.Goals as goal

pub returns-then-goes_on-clause-with : goal.returns-then-goes_on-clause-with
returns-then-goes_on-clause-with c =
    let f = c.args.format in
    let ps = c.args.pulses.now.track.pulses in
    let old = c.args.list.now.items in
    let n = c.args.number in
    let x = c.in-Some.point in
    let low = subst (λ o. IfSome o (λ (y : Point). (y.element < 100) × (y.frame.micros < 61000000))) c.in-Some.is c.requires.low in
    let on : GoesOn f ps old n x = subst (λ (l : List Run). GoesOn f ps l n x) c.deref.ensures.value (c.goes_on.ensures.on.0 c.if-goes_on.true) in
    let last : c.len-last.result - 1 ≡ length old - 1 = omega (arith, c.len-last.ensures) in
    let inside = slice_get_within old (length old - 1) on.one on.there in
    let here = slice_get-get_or old (c.len-last.result - 1) c.index.result.now (omega (arith, inside, last)) in
    let one : c.index.result.now ≡ on.one = c.index.ensures ∙ same_Some _ on.one (sym here ∙ (ap (λ j. slice_get old j) last ∙ on.there)) in
    let more : c.longer-more.result ≡ longer on.one = c.longer-more.ensures ∙ ap longer one in
    let set : slice_set old (c.len-last.result - 1) c.longer-more.result ≡ slice_set old (length old - 1) (longer on.one) =
    λ i. slice_set old (last i) (more i) in
    subst (λ (l : List Run). IsWith f ps old l n c.args.known) (sym set)
    (subst (λ o. IsWith f ps old (slice_set old (length old - 1) (longer on.one)) n o) (sym c.in-Some.is)
    (with-set f ps n old c.requires.runs x c.requires.few low on))

pub returns-in_ok-push-clause-with : goal.returns-in_ok-push-clause-with
returns-in_ok-push-clause-with c =
    let f = c.args.format in
    let ps = c.args.pulses.now.track.pulses in
    let old = c.args.list.now.items in
    let x = c.in-Some.point in
    let low = subst (λ o. IfSome o (λ (y : Point). (y.element < 100) × (y.frame.micros < 61000000))) c.in-Some.is c.requires.low in
    subst (λ o. IsWith f ps old c.push.new.self.items c.args.number o) (sym c.in-Some.is)
    (with-push f ps c.args.number old c.push.new.self.items c.requires.runs _ c.in_ok-push.ensures.items x c.requires.few low (refl, refl, refl, refl))
