use Rattle.std.proofs.Common.{ℕ, List, sym, subst, ◌∙◌}
use Rattle.irig_saved.specs.Reading.{Lacks}
use Rattle.irig_saved.proofs.{Bytes.cut_at, Bytes.not_lacking, SavedParts.format_line, SavedParts.format_clean}
use Rattle.irig_saved.proofs.reader.format_line.Goals as goal

pub returns-in_default : goal.returns-in_default
returns-in_default c = λ f more h e. not_lacking 10 (format_line f) more (let P : List ℕ → Type 0 = λ l. Lacks 10 l in subst P e c.in_default.ensures)

pub returns-in-None : goal.returns-in-None
returns-in-None c = λ f more h e.
    c.in-None.ensures f h (cut_at 10 c.in-Some.line.now (format_line f) c.in-Some.rest.now more c.in-Some.ensures.1 (format_clean f h)
    (sym c.in-Some.ensures.0 ∙ e)).0
