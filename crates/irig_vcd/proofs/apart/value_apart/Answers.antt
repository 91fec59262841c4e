use Rattle.std.proofs.Common.{true≢false, refl, sym, ◌∙◌, arith}
use Rattle.irig_vcd.proofs.ApartWords.{value_word}
use Rattle.irig_vcd.proofs.apart.value_apart.Goals as goal

pub returns-clause-taken : goal.returns-clause-taken
returns-clause-taken c =
    let is = c.if-not-begins_value.false in
    value_word c.args.source.now c.args.code.now c.args.start c.dark_end-space.result _ (omega arith) (omega arith) (c.begins_value.ensures.dark is)
    (sym c.begins_value.ensures.kind ∙ is)
    c.dark_end-space.ensures.words c.if-source-space-ne32.false refl c.if-source-space-ne10.false (omega arith)
    (λ same. absurd (true≢false (sym (c.is_byte.ensures.1 same) ∙ c.if-is_byte.false)))
