use Rattle.std.specs.Prelude.{Result, Ok, Err}
use Rattle.clap.specs.{Words.Text, Words.found_of, declared.parser.matches.ArgMatches.ArgMatches}
use Rattle.irig_settings.specs.{declared.chosen.Settings.Settings, declared.chosen.OptionFault.OptionFault, Options.IsParsed, Settings.Chooses, Settings.Reads}
use Rattle.irig_words.specs.declared.usage.{UsageFault.UsageFault, UsageFault.TheVariants.Value, UsageFault.TheVariants.Words}
use Rattle.std.proofs.Common.{List, inl}
use Rattle.irig_settings.proofs.command_line.settings.Goals as goal

reads_of : (words : List Text) (m : ArgMatches) (r : Result Settings (UsageFault OptionFault)) → IsParsed words m → Chooses (found_of m) r → Reads words r
reads_of words m (Ok s) p h = (m, p, h)
reads_of words m (Err (Value why)) p h = (m, p, h)
reads_of words m (Err (Words e)) p h = inl h

pub returns-in-Ok : goal.returns-in-Ok
returns-in-Ok c = reads_of _ c.in-Ok.matches c.chosen_of.result c.in-Ok.ensures.parsed c.chosen_of.ensures
