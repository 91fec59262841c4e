use Rattle.std.proofs.Common.{◌≡◌, ◌+◌, ◌<◌, ◌≤◌, ℕ, List, true, false, length, get_or, inl, inr, sym, ap, ◌∙◌, arith}
use Rattle.std.specs.List.{prefix_len}
use Rattle.std.proofs.lemmas.{List.Sums.prefix_len_passes, List.Sums.prefix_len_stops, List.Sums.prefix_len-le-length, Bool.cases_lt}
use Rattle.irig_vcd.specs.Digits.{is_digit}
use Rattle.irig_vcd.proofs.timescale.digits_len.Goals as goal

further : (xs : List ℕ) (n : ℕ) → n ≤ prefix_len is_digit xs → n < length xs → is_digit (get_or xs n 0) ≡ true → n + 1 ≤ prefix_len is_digit xs
further xs n upto inside digit = elim (cases_lt n (prefix_len is_digit xs)) [
  | inl lt ↦ omega (arith, lt)
  | inr le ↦ (
      let same : prefix_len is_digit xs ≡ n = omega (arith, upto, le) in let stops = prefix_len_stops is_digit xs 0 (omega (arith, same, inside)) in
      let both : true ≡ false = sym digit ∙ ap (λ k. is_digit (get_or xs k 0)) (sym same) ∙ stops in absurd (cc both)
      )
]

ended : (xs : List ℕ) (n : ℕ) → n ≤ prefix_len is_digit xs → is_digit (get_or xs n 0) ≡ false → n ≡ prefix_len is_digit xs
ended xs n upto other = elim (cases_lt n (prefix_len is_digit xs)) [
  | inl lt ↦ (let both : true ≡ false = sym (prefix_len_passes is_digit xs n 0 lt) ∙ other in absurd (cc both))
  | inr le ↦ omega (arith, upto, le)
]

pub loop-count-preserved : goal.loop-count-preserved
loop-count-preserved c = further c.args.text.now _ c.loop-count.invariant c.loop-count-test.true (sym c.is_digit.ensures ∙ c.if-is_digit.true)

pub returns-else-is_digit : goal.returns-else-is_digit
returns-else-is_digit c = ended c.args.text.now _ c.loop-count.invariant (sym c.is_digit.ensures ∙ c.if-is_digit.false)

pub returns-after-loop-count : goal.returns-after-loop-count
returns-after-loop-count c = let most = prefix_len-le-length is_digit c.args.text.now in omega (arith, most, c.loop-count.invariant, c.loop-count-test.false)
