use Rattle.std.proofs.Common.{◌∙◌, ap, ap₂, sym}
use Rattle.std.proofs.lemmas.List.{map_more}
use Rattle.clap.specs.Words.{with_rule}
use Rattle.irig_words.specs.Arguments.{command_with, rule_for}
use Rattle.irig_words.proofs.arguments.command_of.Goals as goal

pub loop-argument-preserved : goal.loop-argument-preserved
loop-argument-preserved c =
    let given = c.args.arguments.now in
    let more = map_more rule_for given c.loop-argument.argument-index _ c.loop-argument-test.true in
    c.in_ok-command.ensures.shape c.arg_of.ensures.local
    ∙ (ap₂ with_rule c.loop-argument.invariant c.arg_of.ensures.rule ∙ ap (command_with c.args.program.now) (sym more))
