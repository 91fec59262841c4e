-- Digits from a place of a text on, as the code reads them. This project's own.
use Rattle.std.specs.Prelude.{◌≡◌, ◌≤◌, ◌+◌, ◌-◌, ◌++◌, ℕ, List, true, drop, take}
use Rattle.std.specs.List.{list_all}
use Rattle.irig_vcd.specs.Digits.{is_digit, number_from}
use Rattle.irig_vcd.specs.Words.{before_space, words_from}

-- from one place to another are digits, at most 18, which spell a number; the word that they are in
-- goes on there
pub record Spells (source : List ℕ) (from end number : ℕ) : Type 0 where
  pub after : from ≤ end
  pub few : end ≤ from + 18
  pub words : words_from end true (drop end source) ≡ words_from from true (drop from source)
  pub front : before_space (drop from source)
      ≡ take (end - from) (drop from source) ++ before_space (drop end source)
  pub digits : list_all is_digit (take (end - from) (drop from source)) ≡ true
  pub value : number_from 0 (take (end - from) (drop from source)) ≡ number
