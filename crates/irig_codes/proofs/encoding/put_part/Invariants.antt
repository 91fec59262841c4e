use Rattle.std.proofs.Common.{◌≡◌, ◌+◌, ◌*◌, ◌++◌, drop, length, map, take}
use Rattle.std.specs.List.{range_with_len}
use Rattle.irig_codes.specs.{Digits.element_of, Slots.slot_at}
use Rattle.irig_codes.proofs.encoding.put_part.Given as goal

abbrev pub invariant-loop-place : goal.invariant-loop-place
invariant-loop-place l = record {
  put : take (10 * l.part + l.place) l.frame ≡ take (10 * l.part) l.initial.frame
      ++ map (λ e. element_of l.digits (slot_at l.fn.format e)) (range_with_len (10 * l.part) l.place);
  rest : drop (10 * l.part + 10) l.frame ≡ drop (10 * l.part + 10) l.initial.frame;
  long : length l.frame ≡ 100;
}
