use Rattle.std.proofs.Common.{◌++◌, ◌∷◌, [], ℕ, List, codes, decimal, drop, ap, refl}
use Rattle.std.proofs.lemmas.List.{append_cancel_left}
use Rattle.irig_saved.specs.{Lines.line, Lines.numbered, Values.AreTwo, Values.words_of_two}
use Rattle.irig_saved.proofs.Decoding.{over}
use Rattle.irig_saved.proofs.lines.toggle.Goals as goal

pub returns : goal.returns
returns c =
    over AreTwo (λ t. numbered (decimal t.0) (t.1 ∷ [])) (λ t. line (codes "toggle") (words_of_two t)) (λ w. codes "toggle" ++ 32 ∷ w)
    (λ u v e. ap (λ (l : List ℕ). drop 1 l) (append_cancel_left (codes "toggle") (32 ∷ u) (32 ∷ v) e))
    (λ t. refl)
    c.args.text.now c.in-Some.words.now c.in-Some.ensures c.pair.result c.pair.ensures
