use Rattle.std.proofs.Common.{rules}
use Rattle.irig_lines.proofs.WordLemmas.{words_split}
use Rattle.irig_lines.proofs.words.split_word.Goals as goal

pub returns-clause-words : goal.returns-clause-words
returns-clause-words c = search (rules, words_split c.args.text.now)
