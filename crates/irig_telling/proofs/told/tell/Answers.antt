use Rattle.std.proofs.Common.{◌≡◌, ◌∙◌, arith, length, sym}
use Rattle.irig_telling.proofs.Sures.{choice_back, choice_of, costs_same}
use Rattle.irig_telling.proofs.told.tell.Goals as goal

pub told_by-requires-clause-same : goal.told_by-requires-clause-same
told_by-requires-clause-same c = (c.in_ok-tables.ensures.of.0, omega (arith, c.in_ok-tables.ensures.of.1))

pub told_by-requires-clause-possible : goal.told_by-requires-clause-possible
told_by-requires-clause-possible c =
    let d = c.args.dated.now in let t = c.in_ok-tables.tables in let of = c.in_ok-tables.ensures.of in
    let count : t.bits ≡ length d.bits.now = omega (arith, of.1) in
    choice_of d t.costs.now t.bits c.in_ok-choice.choice.candidates.items of.0 count c.in_ok-choice.ensures.possible

pub told_by-requires-clause-exact : goal.told_by-requires-clause-exact
told_by-requires-clause-exact c =
    let d = c.args.dated.now in let t = c.in_ok-tables.tables in
    sym (costs_same d t.costs.now c.in_ok-choice.choice.candidates.items c.in_ok-tables.ensures.of.0) ∙ c.in_ok-choice.ensures.exact

pub told_by-requires-clause-least : goal.told_by-requires-clause-least
told_by-requires-clause-least c = λ x h.
    let d = c.args.dated.now in let t = c.in_ok-tables.tables in let of = c.in_ok-tables.ensures.of in
    let count : t.bits ≡ length d.bits.now = omega (arith, of.1) in
    let same = costs_same d t.costs.now x of.0 in
    let le = c.in_ok-choice.ensures.least x (choice_back d t.costs.now t.bits x of.0 count h) in omega (arith, le, same)
