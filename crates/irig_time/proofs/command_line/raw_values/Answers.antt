use Rattle.std.proofs.Common.{ap, codes, map, string_bytes, subst}
use Rattle.std.proofs.lemmas.Result.{IfOk-weaker}
use Rattle.clap.specs.Words.{App, HasMatchesOf}
use Rattle.irig_words.specs.{Arguments.command_with, Arguments.rule_for, Errors.MayRefuse}
use Rattle.irig_time.proofs.command_line.raw_values.Goals as goal

pub returns-in-Ok-clause-values : goal.returns-in-Ok-clause-values
returns-in-Ok-clause-values c =
    let same = ap (command_with (codes "irig_time")) (ap (map rule_for) c.as_slice.ensures) in
    let parsed = subst (λ (a : App). HasMatchesOf a (map string_bytes c.args.words.now) c.in-Ok.matches) same c.in-Ok.ensures.parsed in
    IfOk-weaker c.values_of.result _ _ (λ raw values. record { matches = c.in-Ok.matches; parsed = parsed; values = values }) c.values_of.ensures.values

pub returns-in-Err-clause-refused : goal.returns-in-Err-clause-refused
returns-in-Err-clause-refused c =
    let same = ap (command_with (codes "irig_time")) (ap (map rule_for) c.as_slice.ensures) in
    subst (λ (a : App). MayRefuse a (map string_bytes c.args.words.now) c.in-Err.error) same c.in-Err.ensures.refused
