use Rattle.std.proofs.Common.{sym, ◌∙◌}
use Rattle.std.proofs.lemmas.Result.{IfOk-weaker, on_err_weaker}
use Rattle.irig_lines.proofs.{KnownWords.finds_err, KnownWords.finds_ok, LineReading.line_orders, LineReading.line_refused, LineReading.line_rests}
use Rattle.irig_lines.proofs.parsing.parse_line.Goals as goal

pub returns-then-is_nothing-clause-meant : goal.returns-then-is_nothing-clause-meant
returns-then-is_nothing-clause-meant c = line_rests _ _ c.cut.ensures.onward (sym c.is_nothing.ensures ∙ c.if-is_nothing.true)

pub returns-else-is_nothing-clause-meant : goal.returns-else-is_nothing-clause-meant
returns-else-is_nothing-clause-meant c =
    IfOk-weaker c.in_text.result _ _ (λ asked h. line_orders _ _ asked c.cut.ensures.onward h) (finds_ok _ c.in_text.result c.in_text.ensures)

pub returns-else-is_nothing-clause-bad : goal.returns-else-is_nothing-clause-bad
returns-else-is_nothing-clause-bad c =
    on_err_weaker c.in_text.result (λ bad. line_refused _ _ c.cut.ensures.onward (sym c.is_nothing.ensures ∙ c.if-is_nothing.false) bad)
    (finds_err _ c.in_text.result c.in_text.ensures)
