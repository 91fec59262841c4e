use Rattle.std.proofs.lemmas.Result.{IfOk-weaker}
use Rattle.clap.specs.Words.{app_of}
use Rattle.irig_settings.proofs.Commands.{command_is_free, may_refuse}
use Rattle.irig_settings.proofs.command_line.parse_words.Goals as goal

pub matches_of-requires : goal.matches_of-requires
matches_of-requires c = command_is_free _ c.in_ok-command.ensures

pub returns-clause-parsed : goal.returns-clause-parsed
returns-clause-parsed c = IfOk-weaker c.matches_of.result _ _
    (λ m h. record { app = app_of c.in_ok-command.field-0; is_command = c.in_ok-command.ensures; promised = h })
    c.matches_of.ensures.parsed

pub returns-clause-refused : goal.returns-clause-refused
returns-clause-refused c = may_refuse _ _ c.in_ok-command.ensures c.matches_of.result c.matches_of.ensures.refused
