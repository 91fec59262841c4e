use Rattle.std.proofs.Common.{◌∙◌, rules, sym}
use Rattle.irig_words.proofs.EitherGiven.{given_none, given_one}
use Rattle.irig_words.proofs.windows.window_named.Goals as goal

pub returns-then-not-is_given-clause-window : goal.returns-then-not-is_given-clause-window
returns-then-not-is_given-clause-window c = given_none c.args.from c.args.to (sym c.is_given.ensures ∙ c.if-not-is_given.true)

pub returns-clause-window : goal.returns-clause-window
returns-clause-window c = (given_one c.args.from c.args.to (sym c.is_given.ensures ∙ c.if-not-is_given.false), search rules)
