-- Words of a part, at their places in the dump.
use Rattle.std.proofs.Common.{◌≡◌, ◌+◌, ℕ, List, map, ap, sym, ◌∙◌}
use Rattle.irig_vcd.specs.{Code.Part.moved_word, Code.Short.TakesNumber, Words.Word, declared.short.Number.Number}

pub number_moved : (b : ℕ) (old new : List Word) (n m : Number) → m.offset ≡ b + n.offset → m.value ≡ n.value → TakesNumber old new n
    → TakesNumber (map (moved_word b) old) (map (moved_word b) new) m
number_moved b old new n m place value t = record {
  word = moved_word b t.word;
  left = ap (map (moved_word b)) t.left;
  kind = t.kind;
  offset = ap (λ k. b + k) t.offset ∙ sym place;
  digits = t.digits;
  value = t.value ∙ sym value;
}
