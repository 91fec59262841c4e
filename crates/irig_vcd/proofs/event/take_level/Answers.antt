use Rattle.std.proofs.Common.{◌≡◌, rules}
use Rattle.irig_vcd.specs.{Code.Token.kind_view, Code.Token.word_of, Words.scalar}
use Rattle.irig_vcd.proofs.ScanSteps.{takes_scalar}
use Rattle.irig_vcd.proofs.event.take_level.Goals as goal

pub returns-in-Scalar-clause-takes : goal.returns-in-Scalar-clause-takes
returns-in-Scalar-clause-takes c = λ unit s none k.
    let kind : kind_view c.args.token.kind ≡ scalar = search rules in
    takes_scalar c.scalar.result c.args.code.now unit s
    (word_of c.args.token) c.args.tokens.now c.args.journals.now c.args.pending.now kind c.scalar.ensures none k
