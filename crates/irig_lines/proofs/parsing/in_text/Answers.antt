use Rattle.irig_lines.specs.Grammar.{Orders}
use Rattle.irig_lines.proofs.{KnownWords.finds_as, LineReading.no_order_of, LineReading.order_read}
use Rattle.irig_lines.proofs.parsing.in_text.Goals as goal

pub returns : goal.returns
returns c = finds_as _ (λ asked. Orders asked c.args.text.now) c.asked.result
    (λ asked h. order_read _ _ _ _ _ _ c.split_range.ensures.whole c.split_word.ensures.word c.split_word.ensures.rest c.keyword_of.ensures asked h)
    (λ bad. no_order_of c.args.text.now c.split_range.result.0.now c.split_range.result.1.now c.split_word.result.0.now c.split_word.result.1.now
    c.keyword_of.result c.keyword_of.ensures c.split_range.ensures.cut c.split_word.ensures.words bad)
    c.asked.ensures
