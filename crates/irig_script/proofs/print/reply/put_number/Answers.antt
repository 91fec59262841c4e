use Rattle.std.proofs.Common.{rules, ◌≡◌, ◌++◌, ◌∷◌, ◌-◌, ◌∙◌, [], decimal, take, drop, length}
use Rattle.std.proofs.lemmas.Fmt.{length-decimal-le}
use Rattle.irig_lines.proofs.WordLemmas.{rest_whole}
use Rattle.irig_script.proofs.print.reply.put_number.Goals as goal

pub write_digits-start-requires : goal.write_digits-start-requires
write_digits-start-requires g c = search (rules, length-decimal-le 20)

pub returns : goal.returns
returns g c =
    let len : length c.write_digits-start.new.buf ≡ 24 = search rules in
    let whole : take (24 - c.write_digits-start.result) (drop c.write_digits-start.result c.write_digits-start.new.buf) ≡ decimal c.args.number ++ 10 ∷ [] =
    (rw (← len) (rest_whole c.write_digits-start.new.buf c.write_digits-start.result)) ∙ c.write_digits-start.ensures.written in
    rw whole at c.put_all.ensures
