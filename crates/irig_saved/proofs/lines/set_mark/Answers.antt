use Rattle.std.proofs.Common.{◌++◌, ◌+◌, [], codes, ℕ, ◌<◌, arith}
use Rattle.irig_saved.specs.{ChangeWords.time_word, Letters.letter_word, Reading.Lacks}
use Rattle.irig_saved.proofs.{Bytes.wordy_lacks, SameWords.byte_is_word, Decoding.headed_one, Decoding.headed_words}
use Rattle.irig_saved.proofs.lines.set_mark.Goals as goal

letter_lacks : (x : ℕ) → x < 26 → Lacks 32 (letter_word x)
letter_lacks x small = wordy_lacks (letter_word x) (byte_is_word (97 + x) (omega arith))

pub returns-in_err-name : goal.returns-in_err-name
returns-in_err-name c =
    rw c.from_residual-in_err-name.ensures (λ t h e.
    headed_one c.args.text.now (codes "setmark") c.in_ok-behind.field-0.now (letter_word t.0) (time_word t.1 ++ []) c.in_ok-behind.ensures
    c.in_err-name.ensures e)

pub returns-in_err-named : goal.returns-in_err-named
returns-in_err-named c =
    rw c.from_residual-in_err-named.ensures (λ t h e.
    c.in_err-named.ensures t.0 h.0 (headed_words c.args.text.now (codes "setmark") c.in_ok-behind.field-0.now c.in_ok-name.name.now c.in_ok-name.rest.now
    (letter_word t.0) (time_word t.1) c.in_ok-behind.ensures c.in_ok-name.ensures.0 c.in_ok-name.ensures.1 (letter_lacks t.0 h.0) e).0)

pub returns-in_err-time : goal.returns-in_err-time
returns-in_err-time c =
    rw c.from_residual-in_err-time.ensures (λ t h e.
    c.in_err-time.ensures t.1 h.1 (headed_words c.args.text.now (codes "setmark") c.in_ok-behind.field-0.now c.in_ok-name.name.now c.in_ok-name.rest.now
    (letter_word t.0) (time_word t.1) c.in_ok-behind.ensures c.in_ok-name.ensures.0 c.in_ok-name.ensures.1 (letter_lacks t.0 h.0) e).1)
