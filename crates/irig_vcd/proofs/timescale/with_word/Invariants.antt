use Rattle.std.proofs.Common.{◌≤◌, ◌++◌, take, List, ℕ}
use Rattle.irig_vcd.specs.Code.Timescale.{HoldsText}
use Rattle.irig_vcd.proofs.timescale.with_word.Given as goal

abbrev pub invariant-loop-byte : goal.invariant-loop-byte
invariant-loop-byte l = record {
  within : l.text.len ≤ 5;
  holds : (all : List ℕ) → HoldsText all l.initial.text → HoldsText (all ++ take l.byte-index l.word) l.text;
}
