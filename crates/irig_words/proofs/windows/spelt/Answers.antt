use Rattle.std.proofs.Common.{◌≡◌, ◌∙◌, true, get_or, drop, ap, sym, arith, ◌+◌}
use Rattle.irig_vcd.specs.Digits.{is_digit}
use Rattle.irig_vcd.proofs.{Runs.opened, Digits.is_digit-within}
use Rattle.irig_words.specs.Windows.{spelt}
use Rattle.irig_words.proofs.Times.{spelt_digit}
use Rattle.irig_words.proofs.windows.spelt.Goals as goal

pub loop-digit-preserved : goal.loop-digit-preserved
loop-digit-preserved c =
    let b = get_or c.args.digits.now c.loop-digit.digit-index 0 in
    let yes : is_digit b ≡ true = is_digit-within b c.if-digit-lt48.false c.if-digit-gt57.false in
    record {
      low = rw c.min-number.ensures (omega arith);
      rest = rw c.min-number.ensures (spelt_digit c.loop-digit.number b (drop (c.loop-digit.digit-index + 1) c.args.digits.now) yes
          ∙ (ap (spelt c.loop-digit.number) (sym (opened c.args.digits.now c.loop-digit.digit-index c.loop-digit-test.true))
          ∙ c.loop-digit.invariant.rest));
    }
