use Rattle.std.proofs.Common.{◌+◌, ap, sym, refl}
use Rattle.irig_vcd.proofs.MovedWords.{number_moved}
use Rattle.irig_vcd.proofs.token.Tokens.next_short.Goals as goal

pub returns-then-self-start-eq35 : goal.returns-then-self-start-eq35
returns-then-self-start-eq35 c =
    let b = c.self.inside.base in
    rw (← c.self.view_is)
    (number_moved b _ _ c.in-Some.number (record { value = c.in-Some.number.value; offset = b + c.self.inside.at; end = c.in-Some.number.end })
    (ap (λ k. b + k) (sym c.in-Some.ensures.offset)) refl c.in-Some.ensures.taken)
