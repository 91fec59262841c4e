use Rattle.std.proofs.Common.{◌++◌, ◌∷◌, ℕ, List, codes, refl, sym, ap, subst, ◌∙◌}
use Rattle.std.specs.Cmp.Lexicographic.{other_text, same_text}
use Rattle.irig_saved.specs.Reading.{Lacks}
use Rattle.irig_saved.proofs.Bytes.{cut_at, not_lacking}
use Rattle.irig_saved.proofs.reader.named.Goals as goal

pub returns-in_default : goal.returns-in_default
returns-in_default c = λ more e. not_lacking 10 (codes "irig-journal-1") more (let P : List ℕ → Type 0 = λ l. Lacks 10 l in subst P e c.in_default.ensures)

pub returns-else-eq : goal.returns-else-eq
returns-else-eq c = λ more e.
    let cut = cut_at 10 c.in-Some.line.now (codes "irig-journal-1") c.in-Some.rest.now more c.in-Some.ensures.1 refl (sym c.in-Some.ensures.0 ∙ e) in
    other_text c.in-Some.line.now c.as_slice.result.now c.if-eq.ensures (cut.0 ∙ sym c.as_slice.ensures)

pub returns-then-eq : goal.returns-then-eq
returns-then-eq c =
    c.in-Some.ensures.0 ∙ ap (λ (l : List ℕ). l ++ 10 ∷ c.in-Some.rest.now)
    (same_text c.in-Some.line.now c.as_slice.result.now c.if-eq.ensures ∙ c.as_slice.ensures)
