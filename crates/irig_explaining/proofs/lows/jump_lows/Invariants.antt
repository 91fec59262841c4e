use Rattle.std.proofs.Common.{◌≡◌, ◌<◌, ℕ, length, slice_index_or}
use Rattle.irig_explaining.specs.Opened.{no_way}
use Rattle.irig_explaining.proofs.lows.jump_lows.Given as goal

-- those of the elements so far
abbrev pub invariant-loop-element : goal.invariant-loop-element
invariant-loop-element g l = record {
  all : length l.lows.items ≡ l.element;
  each : (f : ℕ) → f < l.element → slice_index_or l.lows.items f 0
      ≡ (slice_index_or l.jumps (g.C.Costs.to_class l.costs f) no_way).cost;
}
