use Rattle.std.proofs.Common.{◌≡◌, ◌≤◌, ◌+◌, ◌-◌, ◌∷◌, ◌∙◌, ◌++◌, length, decimal, drop, List, ℕ, arith, ap, lit<}
use Rattle.std.proofs.lemmas.{Fmt.length-decimal-le, List.append-nil, List.drop_all, List.drop-set}
use Rattle.irig_difference.proofs.patch_text.put_digits.Goals as goal

pub write_digits-start-requires : goal.write_digits-start-requires
write_digits-start-requires c =
    let few : length (decimal c.args.number) ≤ 20 = length-decimal-le 20 c.args.number (lit< tt) (omega arith) (omega arith) in
    (omega arith, omega arith)

pub overflow_sub-start : goal.overflow_sub-start
overflow_sub-start c =
    let few : length (decimal c.args.number) ≤ 20 = length-decimal-le 20 c.args.number (lit< tt) (omega arith) (omega arith) in
    omega arith

pub returns-clause-written : goal.returns-clause-written
returns-clause-written c =
    let few : length (decimal c.args.number) ≤ 20 = length-decimal-le 20 c.args.number (lit< tt) (omega arith) (omega arith) in
    let next : c.write_digits-start.result - 1 + 1 ≡ c.write_digits-start.result = omega arith in
    drop-set c.write_digits-start.new.buf (c.write_digits-start.result - 1) 32 (omega arith)
    ∙ ap (λ (l : List ℕ). 32 ∷ l) (ap (λ n. drop n c.write_digits-start.new.buf) next ∙ c.write_digits-start.ensures.written
    ∙ ap (λ (l : List ℕ). decimal c.args.number ++ l) (drop_all 21 c.args.digits.now (omega arith)) ∙ append-nil (decimal c.args.number))
