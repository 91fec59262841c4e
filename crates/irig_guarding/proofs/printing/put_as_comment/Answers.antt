use Rattle.std.proofs.Common.{◌≡◌, ◌++◌, ◌∷◌, [], ◌≤◌, ◌∙◌, ap, arith, inr, length, length-take, take, append_assoc}
use Rattle.std.specs.Prelude.{min}
use Rattle.std.proofs.lemmas.List.{take_min}
use Rattle.irig_guarding.proofs.{GuardLemmas.on_ok, GuardLemmas.plain_take, ReasonLemmas.front_remark}
use Rattle.irig_guarding.proofs.printing.put_as_comment.Goals as goal

pub returns : goal.returns
returns c =
    let line = c.args.line.now.bytes.now in
    let text = take c.min.result line in
    let few : length text ≤ 900 = omega (arith, length-take c.min.result line, c.min.ensures) in
    let many : c.min.result ≡ min 900 (length line) = omega (arith, c.min.ensures) in
    let front : text ≡ take 900 line = ap (λ n. take n line) many ∙ take_min 900 line in
    on_ok c.put_line.result c.put_line.ensures (λ e. (
      35 ∷ 32 ∷ text,
      front_remark text (plain_take c.min.result line c.args.line.now.plain) few,
      inr (c.requires, ap (λ l. 35 ∷ 32 ∷ l) front),
      e ∙ (ap (λ l. l ++ (text ++ 10 ∷ [])) c.in_ok-extend_from_slice.ensures.items ∙ append_assoc c.args.out.now.items (35 ∷ 32 ∷ []) (text ++ 10 ∷ [])),
    ))
