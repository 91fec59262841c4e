use Rattle.irig_vcd.proofs.PartWords.{words_there}
use Rattle.irig_vcd.proofs.token.Tokens.after.Goals as goal

pub returns : goal.returns
returns c = words_there c.args.base c.args.source.now
