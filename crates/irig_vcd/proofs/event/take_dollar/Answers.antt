use Rattle.std.proofs.Common.{◌≡◌, None, true, false, inl, refl, sym, rules, ◌∙◌}
use Rattle.irig_vcd.specs.{Code.Token.word_of, Sections.is_comment, Sections.is_mark, Scan.comment_of}
use Rattle.irig_vcd.proofs.ScanSteps.{past_mark, stays, to_comment, via, via_same}
use Rattle.irig_vcd.proofs.event.take_dollar.Goals as goal

pub returns-then-is_mark-clause-takes : goal.returns-then-is_mark-clause-takes
returns-then-is_mark-clause-takes c = λ code unit s none k.
    let w = word_of c.args.token in
    via_same code unit s _ _ None c.args.tokens.now c.args.journals.now c.args.pending.now
    (past_mark code unit s w c.args.tokens.now none c.requires (sym c.is_mark.ensures ∙ c.if-is_mark.true))
    (stays code unit s c.args.tokens.now c.args.journals.now c.args.pending.now (inl none) k)

pub returns-clause-takes : goal.returns-clause-takes
returns-clause-takes c = λ code unit s none k.
    let w = word_of c.args.token in
    let mark : is_mark c.args.token.slice.now ≡ false = sym c.is_mark.ensures ∙ c.if-is_mark.false in
    let begins : is_comment c.args.token.slice.now ≡ true = search rules in
    via code unit s (comment_of None) _ c.args.tokens.now None _ _ _ (to_comment code unit s w c.args.tokens.now none c.requires mark begins)
    (c.take_comment.ensures.read code unit (record s { opened = comment_of None }) (record { holds = k.holds; means = refl }))
