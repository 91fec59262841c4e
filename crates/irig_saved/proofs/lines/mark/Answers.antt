use Rattle.std.proofs.Common.{◌∷◌, [], decimal, drop, List, ℕ, sym, ap, ◌∙◌, nat_lt, refl}
use Rattle.std.proofs.lemmas.Bool.{and_from, lt-ltb}
use Rattle.std.specs.Cmp.Lexicographic.{other_text}
use Rattle.irig_saved.proofs.{Bytes.wordy_lacks, Decoding.two_words}
use Rattle.irig_saved.proofs.lines.mark.Goals as goal

pub returns-else-eq : goal.returns-else-eq
returns-else-eq c = λ t h e.
    let letter : List ℕ = c.args.letter_byte ∷ [] in
    let word = and_from (nat_lt 32 c.args.letter_byte) _ (lt-ltb 32 c.args.letter_byte c.requires.0) refl in
    let rest = ap (λ (l : List ℕ). drop 5 l) (sym c.in_ok-behind.ensures ∙ e) in
    let both = two_words c.in_ok-behind.field-0.now c.in_ok-name.name.now c.in_ok-name.rest.now letter (decimal t) c.in_ok-name.ensures.0 c.in_ok-name.ensures.1
    (wordy_lacks letter word) rest in
    other_text c.in_ok-name.name.now c.as_slice.result.now c.if-eq.ensures (both.0 ∙ sym c.as_slice.ensures)
