use Rattle.std.specs.Fmt.{signed_decimal}
use Rattle.irig_saved.specs.ChangeWords.{moved_word}
use Rattle.irig_saved.proofs.{Bytes.wordy_lacks, Decimals.distance_is_word, Decoding.two_words}
use Rattle.irig_saved.proofs.lines.move_in.Goals as goal

pub returns-in_err-distance : goal.returns-in_err-distance
returns-in_err-distance c =
    rw c.from_residual-in_err-distance.ensures (λ t h e.
    let both = two_words c.args.text.now c.in_ok-by.by.now c.in_ok-by.marks.now (signed_decimal t.0) (moved_word t.1) c.in_ok-by.ensures.0 c.in_ok-by.ensures.1
    (wordy_lacks (signed_decimal t.0) (distance_is_word t.0 h.0)) e in
    c.in_err-distance.ensures t.0 h.0 both.0)

pub returns-in_err-moved : goal.returns-in_err-moved
returns-in_err-moved c =
    rw c.from_residual-in_err-moved.ensures (λ t h e.
    let both = two_words c.args.text.now c.in_ok-by.by.now c.in_ok-by.marks.now (signed_decimal t.0) (moved_word t.1) c.in_ok-by.ensures.0 c.in_ok-by.ensures.1
    (wordy_lacks (signed_decimal t.0) (distance_is_word t.0 h.0)) e in
    c.in_err-moved.ensures t.1 h.1 both.1)
