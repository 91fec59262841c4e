use Rattle.std.proofs.Common.{◌++◌, [], decimal}
use Rattle.irig_codes.specs.Words.{kind_word}
use Rattle.irig_saved.proofs.{Bytes.wordy_lacks, SameWords.kind_is_word, Decoding.headed_one, Decoding.headed_words}
use Rattle.irig_saved.proofs.lines.format.Goals as goal

pub returns-in_err-name : goal.returns-in_err-name
returns-in_err-name c =
    rw c.from_residual-in_err-name.ensures (λ f h e.
    headed_one c.args.text.now c.args.head.now c.in_ok-behind.field-0.now (kind_word f.0) (decimal f.1 ++ []) c.in_ok-behind.ensures c.in_err-name.ensures e)

pub returns-in_err-kind_named : goal.returns-in_err-kind_named
returns-in_err-kind_named c =
    rw c.from_residual-in_err-kind_named.ensures (λ f h e.
    c.in_err-kind_named.ensures.named f.0 (headed_words c.args.text.now c.args.head.now c.in_ok-behind.field-0.now c.in_ok-name.name.now c.in_ok-name.rest.now
    (kind_word f.0) (decimal f.1) c.in_ok-behind.ensures c.in_ok-name.ensures.0 c.in_ok-name.ensures.1 (wordy_lacks (kind_word f.0) (kind_is_word f.0)) e).0)

pub returns-in_err-expression : goal.returns-in_err-expression
returns-in_err-expression c =
    rw c.from_residual-in_err-expression.ensures (λ f h e.
    c.in_err-expression.ensures f.1 h (headed_words c.args.text.now c.args.head.now c.in_ok-behind.field-0.now c.in_ok-name.name.now c.in_ok-name.rest.now
    (kind_word f.0) (decimal f.1) c.in_ok-behind.ensures c.in_ok-name.ensures.0 c.in_ok-name.ensures.1 (wordy_lacks (kind_word f.0) (kind_is_word f.0)) e).1)
