use Rattle.std.proofs.Common.{rules, ◌≡◌, true, arith}
use Rattle.std.proofs.lemmas.Bool.{MatchBool-at_true}
use Rattle.irig_edit.proofs.OpenedLemmas.TakenGroups.{beyond_last, took}
use Rattle.irig_edit.proofs.opened.walk.Walk.take.Goals as goal

pub returns-then-cursor-len : goal.returns-then-cursor-len
returns-then-cursor-len c =
    let is : c.in_ok-make.field-0 ≡ true = search rules in
    let made = MatchBool-at_true _ _ is c.in_ok-make.ensures in
    beyond_last c.args.self.now c.make.new.self c.args.step made.1 (omega (arith, c.if-cursor-len.true, c.len.ensures.len))

pub returns : goal.returns
returns c =
    let is : c.in_ok-make.field-0 ≡ true = search rules in
    let made = MatchBool-at_true _ _ is c.in_ok-make.ensures in
    took c.args.self.now c.make.new.self c.go.new.self c.args.step made.0 made.1
    (omega (arith, c.if-cursor-len.false, c.len.ensures.len)) c.go.ensures
