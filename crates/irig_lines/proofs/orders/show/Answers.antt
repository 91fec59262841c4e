use Rattle.std.proofs.Common.{[]}
use Rattle.irig_lines.specs.{Commands.Asks, declared.command.Command.Command}
use Rattle.irig_lines.specs.declared.keyword.Keyword.TheVariants as word
use Rattle.irig_lines.proofs.KnownWords.{finds_none}
use Rattle.irig_lines.proofs.orders.show.Goals as goal

pub returns-in_err-address : goal.returns-in_err-address
returns-in_err-address c =
    let no : (asked : Command) → Asks word.Missing c.args.front.now [] asked → ⊥ = λ asked a. c.in_err-address.ensures a.0 a.2 in
    finds_none _ c.from_residual.result _ c.from_residual.ensures.1 no
