-- The arguments of a command line. This project's own.
use Rattle.std.specs.Prelude.{true, List, Option, Some, None}
use Rattle.clap.specs.Words.{App, Rule, Text, new_app, new_rule}
use Rattle.clap.specs.declared.builder.ArgAction.TheVariants.{Append, Set, SetTrue}
use Rattle.clap.specs.declared.builder.value_parser.ValueParser.{ValueParser}
use Rattle.clap.specs.declared.builder.value_parser.ValueParser.TheVariants.{Names}
use Rattle.irig_words.specs.declared.arguments.Argument.{Argument}
use Rattle.irig_words.specs.declared.arguments.Argument.TheVariants as argument

-- an option with a value
abbrev pub option : Text → Option ValueParser → Rule
option name parser =
    record (new_rule name) { long = Some name; action = Some Set; value_names = 1; parser = parser }

-- an option with a value, as often as it is given
abbrev pub repeated : Text → Rule
repeated name = record (option name None) { action = Some Append }

-- an option that has no value
abbrev pub flag : Text → Rule
flag name = record (new_rule name) { long = Some name; action = Some SetTrue }

-- a word that has to be there
abbrev pub needed : Text → Rule
needed name = record (new_rule name) { action = Some Set; required = true }

-- the rule of an argument
abbrev pub rule_for : Argument → Rule
rule_for (argument.Valued name value) = option name.now None
rule_for (argument.Choice name value values) = option name.now (Some (Names values))
rule_for (argument.Repeated name value) = repeated name.now
rule_for (argument.Flag name) = flag name.now
rule_for (argument.Needed name) = needed name.now

-- the command line of a program whose arguments have these rules
abbrev pub command_with : Text → List Rule → App
command_with program rules =
    record (new_app program) { top = record (new_app program).top { rules = rules } }
