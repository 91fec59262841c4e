use Rattle.std.proofs.Common.{◌≡◌, ℕ, List, decimal, sym, ap, ◌∙◌, subst}
use Rattle.std.specs.{Str.IsUtf8, Cmp.Lexicographic.other_text}
use Rattle.irig_saved.proofs.Parsed.{utf8_number, parsed_number, ok_same}
use Rattle.irig_saved.proofs.words.number.Goals as goal

pub returns-in_default : goal.returns-in_default
returns-in_default c = λ x small e. c.in_default.ensures.cases.0 (let P : List ℕ → Type 0 = λ w. IsUtf8 w in subst P (sym e) (utf8_number x small))

pub returns-in_default-parse : goal.returns-in_default-parse
returns-in_default-parse c = λ x small e. c.in_default-parse.not-Ok x
    (parsed_number x c.in-Ok.text.now c.parse.result small (c.in-Ok.ensures.cases.0 ∙ e) c.parse.ensures.value.0)

pub returns-else-eq : goal.returns-else-eq
returns-else-eq c = λ x small e.
    let read = parsed_number x c.in-Ok.text.now c.parse.result small (c.in-Ok.ensures.cases.0 ∙ e) c.parse.ensures.value.0 in
    let same : c.in-Ok-parse.number ≡ x = ok_same _ _ c.parse.result c.in-Ok-parse.is read in
    other_text c.as_bytes.result.now c.args.word.now c.if-eq.ensures (c.as_bytes.ensures.value ∙ c.format.ensures.text ∙ ap decimal same ∙ sym e)
