use Rattle.std.proofs.Common.{true≢false, refl, sym, ◌∙◌, arith}
use Rattle.std.proofs.lemmas.Bool.{eqb-true}
use Rattle.irig_vcd.proofs.CodeRuns.{apart_word}
use Rattle.irig_vcd.proofs.apart.is_apart.Goals as goal

pub returns : goal.returns
returns c = λ is. apart_word c.args.source.now c.args.code.now c.args.start _ _ c.requires.room refl refl (eqb-true _ _ is) (omega arith) (omega arith)
    (omega arith) (omega arith) (λ same. absurd (true≢false (sym (c.is_byte.ensures.1 same) ∙ c.if-is_byte.false)))
