use Rattle.std.proofs.Common.{ap, map, refl}
use Rattle.std.proofs.lemmas.Result.{IfOk-weaker}
use Rattle.irig_settings.proofs.Commands.{is_command_of}
use Rattle.irig_words.specs.Arguments.{rule_for}
use Rattle.irig_settings.proofs.command_line.command.Goals as goal

pub returns : goal.returns
returns c = IfOk-weaker c.command_of.result _ _ (λ made shape. is_command_of _ _ _ _ shape (ap (map rule_for) c.as_slice.ensures) refl refl)
    c.command_of.ensures
