-- The last word of a name, and the words before it.
use Rattle.std.proofs.Common.{◌≡◌, ℕ, suc, List, Option, ap, sym, ◌∙◌}
use Rattle.irig_stamps.specs.HeaderUnits.{before_word, last_word, or_else, unit_among, word_unit}

pub unit_step : (n : ℕ) (left before word previous : List ℕ) (unit : Option ℕ) → before ≡ before_word left → word ≡ last_word left
    → previous ≡ last_word before → unit ≡ word_unit previous word → unit_among (suc n) left ≡ or_else unit (unit_among n before)
unit_step n left before word previous unit b w p u = sym (
    ap (λ (x : Option ℕ). or_else x (unit_among n before)) u
    ∙ (ap (λ (x : List ℕ). or_else (word_unit x word) (unit_among n before)) p
    ∙ (ap (λ (x : List ℕ). or_else (word_unit (last_word before) x) (unit_among n before)) w
    ∙ ap (λ (x : List ℕ). or_else (word_unit (last_word x) (last_word left)) (unit_among n x)) b)))
