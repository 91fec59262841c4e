use Rattle.std.proofs.Common.{◌++◌, ◌∷◌, [], decimal, codes}
use Rattle.irig_saved.proofs.Decoding.{behind_head, leading_number}
use Rattle.irig_saved.proofs.lines.splice.Goals as goal

pub returns-in-None : goal.returns-in-None
returns-in-None c = λ t h e.
    let numbers = c.in-Some.numbers.now in
    let tail = decimal t.1 ++ 32 ∷ (decimal t.2 ++ []) in
    let there = behind_head c.args.text.now (codes "splice") numbers (decimal t.0 ++ 32 ∷ tail) c.in-Some.ensures e in
    let both = leading_number numbers c.in-Some-leading.rest.now tail c.in-Some-leading.at t.0 c.in-Some-leading.ensures.0 h.0
    c.in-Some-leading.ensures.1 there in
    c.in-None.ensures (t.1, t.2) (h.1, h.2) both.1
