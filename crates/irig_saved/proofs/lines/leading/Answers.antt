use Rattle.std.proofs.Common.{decimal}
use Rattle.irig_saved.proofs.{Bytes.wordy_lacks, Decimals.number_is_word, Decoding.first_word}
use Rattle.irig_saved.proofs.lines.leading.Goals as goal

pub returns-in-None : goal.returns-in-None
returns-in-None c = λ n rest h e.
    c.in-None.ensures n h (first_word c.args.text.now c.in-Some.word.now c.in-Some.rest.now (decimal n) rest c.in-Some.ensures.0 c.in-Some.ensures.1
    (wordy_lacks (decimal n) (number_is_word n h)) e).0
