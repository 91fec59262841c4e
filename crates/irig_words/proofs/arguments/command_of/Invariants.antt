use Rattle.std.proofs.Common.{◌≡◌, map, take}
use Rattle.clap.specs.Words.{app_of}
use Rattle.irig_words.specs.Arguments.{command_with, rule_for}
use Rattle.irig_words.proofs.arguments.command_of.Given as goal

-- the arguments so far
abbrev pub invariant-loop-argument : goal.invariant-loop-argument
invariant-loop-argument l = app_of l.command ≡ command_with l.fn.program (map rule_for (take l.argument-index l.arguments))
