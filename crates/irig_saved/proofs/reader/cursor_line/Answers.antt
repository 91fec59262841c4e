use Rattle.std.proofs.Common.{ℕ, List, codes, refl, sym, subst, ◌∙◌}
use Rattle.irig_saved.specs.Reading.{Lacks}
use Rattle.irig_saved.proofs.{Bytes.cut_at, Bytes.not_lacking, Clean.newline, Clean.counted_lacks, SavedParts.cursor_line}
use Rattle.irig_saved.proofs.reader.cursor_line.Goals as goal

pub returns-in_default : goal.returns-in_default
returns-in_default c = λ n more h e. not_lacking 10 (cursor_line n) more (let P : List ℕ → Type 0 = λ l. Lacks 10 l in subst P e c.in_default.ensures)

pub returns-in-None : goal.returns-in-None
returns-in-None c = λ n more h e.
    c.in-None.ensures n h (cut_at 10 c.in-Some.line.now (cursor_line n) c.in-Some.rest.now more c.in-Some.ensures.1
    (counted_lacks newline (codes "cursor") n refl h) (sym c.in-Some.ensures.0 ∙ e)).0
