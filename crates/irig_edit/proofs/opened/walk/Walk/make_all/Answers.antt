use Rattle.std.proofs.Common.{rules, ◌≡◌, ◌∷◌, [], List, reverse, ap, sym, subst, ◌∙◌, arith}
use Rattle.std.proofs.lemmas.{Bool.MatchBool-at_false, Bool.MatchBool-at_true, List.reverse-append, List.reverse-reverse}
use Rattle.irig_saved.specs.declared.single.Single.{Single}
use Rattle.irig_edit.proofs.OpenedLemmas.TakenGroups.{MadeSoFar, enough_made, group_made, made_first, made_more, made_none, made_stops}
use Rattle.irig_edit.proofs.opened.walk.Walk.make_all.Goals.{In-Some}
use Rattle.irig_edit.proofs.opened.walk.Walk.make_all.Goals as goal

-- the single changes in their order again
pub loop-single-init : goal.loop-single-init
loop-single-init c =
    let h = c.args.self.now in
    let singles = c.args.singles.items in
    subst (λ (l : List Single). MadeSoFar h singles h l) (sym (ap reverse c.reverse.ensures.items ∙ reverse-reverse singles)) (made_none h singles)

-- the changes so far were made, and this one is the next
next : (c : In-Some) → MadeSoFar c.args.self.now c.args.singles.items c.loop-single.self (c.in-Some.single ∷ reverse c.pop.new.self.items)
next c = subst (λ (l : List Single). MadeSoFar c.args.self.now c.args.singles.items c.loop-single.self l)
    (ap reverse c.in-Some.ensures.items ∙ reverse-append c.pop.new.self.items (c.in-Some.single ∷ [])) c.loop-single.invariant

pub returns-in-Ok-false : goal.returns-in-Ok-false
returns-in-Ok-false c =
    made_stops c.args.self.now c.loop-single.self c.args.singles.items (reverse c.pop.new.self.items) c.in-Some.single
    (next (goal.at.returns-in-Ok-false c).In-Some) (MatchBool-at_false _ _ c.in-Ok-false.field-0-test c.in-Ok-false.ensures)

pub returns-in-Err : goal.returns-in-Err
returns-in-Err c =
    made_first c.args.self.now c.loop-single.self c.args.singles.items (reverse c.pop.new.self.items) c.in-Some.single
    (next (goal.at.returns-in-Err c).In-Some) c.in-Err.ensures

pub loop-single-preserved : goal.loop-single-preserved
loop-single-preserved c =
    let made = MatchBool-at_true _ _ c.in-Ok-true.field-0-test c.in-Ok-true.ensures in
    made_more c.args.self.now c.loop-single.self c.make_one.new.self c.args.singles.items (reverse c.pop.new.self.items) c.in-Some.single
    (next (goal.at.loop-single-preserved c).In-Some) made.0 made.1

pub gather-requires : goal.gather-requires
gather-requires c =
    let h = c.args.self.now in
    let singles = c.args.singles.items in
    let none : c.loop-single.singles.items ≡ [] = search rules in
    let so_far = subst (λ (l : List Single). MadeSoFar h singles c.loop-single.self l) (ap reverse none) c.loop-single.invariant in
    omega (arith, enough_made h c.loop-single.self singles c.requires.ahead so_far, c.len-count.ensures)

pub returns-in-Ok : goal.returns-in-Ok
returns-in-Ok c =
    let h = c.args.self.now in
    let singles = c.args.singles.items in
    let none : c.loop-single.singles.items ≡ [] = search rules in
    let so_far = subst (λ (l : List Single). MadeSoFar h singles c.loop-single.self l) (ap reverse none) c.loop-single.invariant in
    group_made h c.loop-single.self c.gather.new.self singles c.len-count.result c.requires.ahead (omega (arith, c.len-count.ensures)) so_far c.in-Ok.ensures
