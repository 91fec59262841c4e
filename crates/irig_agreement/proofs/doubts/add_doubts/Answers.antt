use Rattle.std.proofs.Common.{◌≡◌, ◌⊎◌, inl, inr, ◌+◌, ◌++◌, ℕ, Bool, true, false, List, length, get_or, slice_get, Some, arith, sym, ap, ◌∙◌, subst}
use Rattle.std.specs.Prelude.{◌↔◌}
use Rattle.std.proofs.lemmas.List.{length-append}
use Rattle.irig_law.specs.Doubting.{IsDoubted}
use Rattle.irig_agreement.proofs.DoubtLists.{doubted-inside, joins}
use Rattle.irig_agreement.proofs.doubts.add_doubts.Goals as goal

pub returns-then-to-from-clause-doubts : goal.returns-then-to-from-clause-doubts
returns-then-to-from-clause-doubts c k = (
  λ e. inl e,
  λ o. elim o [
    | inl e ↦ e
    | inr d ↦ (let inside = doubted-inside c.args.format c.args.century c.args.pulses.now.track.pulses c.args.from.now c.args.to.now k d in
        let from = inside.0 in
        let to = inside.1 in
        absurd (omega (arith, from, to)))
  ],
)

pub returns-clause-doubts : goal.returns-clause-doubts
returns-clause-doubts c k =
    let f = c.args.format in
    let ps = c.args.pulses.now.track.pulses in
    let a = c.args.from.now in
    let b = c.args.to.now in
    let old = c.args.list.now.items in
    let xs = c.lengthen.new.list.items in
    let ds = c.in_ok-doubts.doubts.items in
    let new = c.extend_from_slice.new.self.items in
    let added = c.in_ok-extend_from_slice.ensures.items ∙ ap (λ (l : List Bool). xs ++ l) c.deref.ensures.value in
    subst (λ (l : List Bool). (get_or l k false ≡ true) ↔ ((get_or old k false ≡ true) ⊎ IsDoubted f c.args.century ps a b k)) (sym added)
    (joins f c.args.century ps a b old xs ds c.in_ok-lengthen.ensures.long c.requires.short c.in_ok-lengthen.ensures.same
    c.in_ok-doubts.ensures.each c.in_ok-doubts.ensures.doubted k)

pub returns-clause-short : goal.returns-clause-short
returns-clause-short c =
    let xs = c.lengthen.new.list.items in
    let ds = c.in_ok-doubts.doubts.items in
    let added = ap (λ (l : List Bool). length l) (c.in_ok-extend_from_slice.ensures.items ∙ ap (λ (l : List Bool). xs ++ l) c.deref.ensures.value) in
    let many = length-append xs ds in
    omega (arith, added, many, c.in_ok-lengthen.ensures.long, c.in_ok-doubts.ensures.each, c.requires.order)
