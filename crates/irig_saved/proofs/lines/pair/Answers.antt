use Rattle.std.proofs.Common.{◌++◌, [], ◌∙◌, decimal}
use Rattle.std.proofs.lemmas.List.{append-nil}
use Rattle.irig_saved.proofs.Decoding.{leading_number}
use Rattle.irig_saved.proofs.lines.pair.Goals as goal

pub returns-in-None : goal.returns-in-None
returns-in-None c = λ t h e.
    let both = leading_number c.args.text.now c.in-Some.second.now (decimal t.1 ++ []) c.in-Some.first t.0 c.in-Some.ensures.0 h.0 c.in-Some.ensures.1 e in
    c.in-None.ensures t.1 h.1 (both.1 ∙ append-nil (decimal t.1))
