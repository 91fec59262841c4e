use Rattle.std.proofs.Common.{◌≡◌, ◌+◌, ◌++◌, Bool, true, not, List, drop, length}
use Rattle.std.specs.List.{list_all}
use Rattle.irig_saved.specs.ChangeWords.{letters_from}
use Rattle.irig_saved.proofs.words.moved.Given as goal

abbrev pub invariant-loop-letter : goal.invariant-loop-letter
invariant-loop-letter l = record {
  size : length l.marks ≡ 26;
  clear : list_all not (drop l.letter l.marks) ≡ true;
  read : l.word ≡ letters_from 97 l.marks ++ l.rest;
  alone : (ms : List Bool) → length ms ≡ 26 → l.word ≡ letters_from 97 ms → l.rest ≡ letters_from (97 + l.letter) (drop l.letter ms);
}
