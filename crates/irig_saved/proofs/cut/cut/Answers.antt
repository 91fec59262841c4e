use Rattle.std.proofs.Common.{arith, ◌++◌, ◌∷◌, ◌+◌, ◌<◌, take, length, get_or, sym, ap, ◌∙◌, List, ℕ}
use Rattle.std.proofs.lemmas.{Bool.eq-eqb, Bool.eqb-true, List.take_rest}
use Rattle.irig_saved.proofs.Bytes.{lacks_from, lacks_take, parts_at}
use Rattle.irig_saved.proofs.cut.cut.Goals as goal

pub returns-in_err-at : goal.returns-in_err-at
returns-in_err-at c =
    let text = c.args.text.now in
    let none = lacks_from c.args.byte text (λ k lt e. c.in_err-at.ensures k (omega arith) lt (eq-eqb (get_or text k 0) c.args.byte e)) in
    rw c.from_residual.ensures none

pub returns : goal.returns
returns c =
    let text = c.args.text.now in
    let at = c.in_ok-at.at in
    let found = c.in_ok-at.ensures in
    let within : at < length text = found.0.high in (
      parts_at c.args.byte at text within (eqb-true (get_or text at 0) c.args.byte found.1)
          ∙ ap (λ (l : List ℕ). take at text ++ c.args.byte ∷ l) (sym (take_rest text (at + 1))),
      lacks_take c.args.byte at text within (λ j lt e. found.0.before j (omega arith) lt (eq-eqb (get_or text j 0) c.args.byte e)),
    )
