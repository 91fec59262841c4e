use Rattle.std.proofs.Common.{◌++◌, ◌∷◌, [], decimal, codes}
use Rattle.std.specs.Fmt.{signed_decimal}
use Rattle.irig_saved.specs.{Lines.line, ChangeWords.moved_word}
use Rattle.irig_saved.proofs.Decoding.{behind_head, leading_number}
use Rattle.irig_saved.proofs.lines.shift.Goals as goal

pub returns-in_default-leading-2 : goal.returns-in_default-leading-2
returns-in_default-leading-2 c = λ t h e.
    let words = c.in-Some.words.now in
    let moves = line (signed_decimal t.2) (moved_word t.3 ∷ []) in
    let there = behind_head c.args.text.now (codes "shift") words (decimal t.0 ++ 32 ∷ (decimal t.1 ++ 32 ∷ moves)) c.in-Some.ensures e in
    let one = leading_number words c.in-Some-leading.words.now (decimal t.1 ++ 32 ∷ moves) c.in-Some-leading.i t.0 c.in-Some-leading.ensures.0 h.0
    c.in-Some-leading.ensures.1 there in
    c.in_default-leading-2.ensures t.1 moves h.1 one.1

pub returns-in_err-by : goal.returns-in_err-by
returns-in_err-by c =
    rw c.from_residual.ensures (λ t h e.
    let words = c.in-Some.words.now in
    let moves = line (signed_decimal t.2) (moved_word t.3 ∷ []) in
    let there = behind_head c.args.text.now (codes "shift") words (decimal t.0 ++ 32 ∷ (decimal t.1 ++ 32 ∷ moves)) c.in-Some.ensures e in
    let one = leading_number words c.in-Some-leading.words.now (decimal t.1 ++ 32 ∷ moves) c.in-Some-leading.i t.0 c.in-Some-leading.ensures.0 h.0
    c.in-Some-leading.ensures.1 there in
    let two = leading_number c.in-Some-leading.words.now c.in-Some-leading-2.words.now moves c.in-Some-leading-2.j t.1 c.in-Some-leading-2.ensures.0 h.1
    c.in-Some-leading-2.ensures.1 one.1 in
    c.in_err-by.ensures (t.2, t.3) (h.2, h.3) two.1)
