use Rattle.std.proofs.Common.{◌++◌, ◌∷◌, [], ℕ, List, decimal, drop, ap}
use Rattle.std.proofs.lemmas.List.{append-nil, append_cancel_left}
use Rattle.irig_saved.specs.{Lines.numbered, Ranges.IsNumber}
use Rattle.irig_saved.proofs.Decoding.{over}
use Rattle.irig_saved.proofs.lines.counted.Goals as goal

pub returns : goal.returns
returns c =
    let head = c.args.head.now in
    over IsNumber (λ n. decimal n) (λ n. numbered head (n ∷ [])) (λ w. head ++ 32 ∷ w)
    (λ u v e. ap (λ (l : List ℕ). drop 1 l) (append_cancel_left head (32 ∷ u) (32 ∷ v) e))
    (λ n. ap (λ (l : List ℕ). head ++ 32 ∷ l) (append-nil (decimal n)))
    c.args.text.now c.in-Some.word.now c.in-Some.ensures c.number.result c.number.ensures
