use Rattle.std.proofs.Common.{◌++◌, ◌∷◌, List, ℕ, sym, ap, ◌∙◌, subst}
use Rattle.std.specs.Cmp.Lexicographic.{other_text, same_text}
use Rattle.irig_saved.specs.Reading.{Lacks}
use Rattle.irig_saved.proofs.Bytes.{cut_at, not_lacking, wordy_lacks}
use Rattle.irig_saved.proofs.lines.behind.Goals as goal

pub returns-in_default : goal.returns-in_default
returns-in_default c = λ rest e. not_lacking 32 c.args.head.now rest (let P : List ℕ → Type 0 = λ l. Lacks 32 l in subst P e c.in_default.ensures)

pub returns-else-eq : goal.returns-else-eq
returns-else-eq c = λ rest e.
    let cut = c.in-Some.ensures in
    let t = cut_at 32 c.in-Some.first.now c.args.head.now c.in-Some.rest.now rest cut.1 (wordy_lacks c.args.head.now c.requires) (sym cut.0 ∙ e) in
    other_text c.in-Some.first.now c.args.head.now c.if-eq.ensures t.0

pub returns-then-eq : goal.returns-then-eq
returns-then-eq c =
    c.in-Some.ensures.0 ∙ ap (λ (l : List ℕ). l ++ 32 ∷ c.in-Some.rest.now) (same_text c.in-Some.first.now c.args.head.now c.if-eq.ensures)
