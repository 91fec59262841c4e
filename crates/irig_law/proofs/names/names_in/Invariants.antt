use Rattle.std.proofs.Common.{◌≡◌, ◌-◌, ◌*◌, ◌^◌, ◌<◌, ◌≤◌, ℕ, length, slice_get, Some}
use Rattle.irig_law.specs.{Names.seen, Names.walk, Rows.rise_in, Rows.runs_in}
use Rattle.irig_law.specs.declared.names.Seen.{Seen}
use Rattle.irig_law.specs.declared.names.Seen.TheVariants.{Named}
use Rattle.irig_law.proofs.names.names_in.Given as goal

abbrev pub invariant-loop-place : goal.invariant-loop-place
invariant-loop-place l = record {
  some : 1 ≤ l.place;
  pulses : l.pulses.track ≡ l.fn.pulses.track;
  last : l.walk.last < l.place;
  element : l.walk.element ≤ 2 ^ 36 * l.place;
  many : length l.list.items ≡ l.place;
  walk : l.walk ≡ walk l.clock (rise_in l.fn.pulses.track.pulses l.row) (runs_in l.format l.fn.pulses.track.pulses l.row) (l.place - 1);
  names : (k : ℕ) → k < l.place → slice_get l.list.items k
      ≡ Some (seen l.clock (rise_in l.fn.pulses.track.pulses l.row) (runs_in l.format l.fn.pulses.track.pulses l.row) k);
  low : (k : ℕ) (s : Seen) → slice_get l.list.items k ≡ Some s → (e : ℕ) → s ≡ Named e → e ≤ 2 ^ 36 * l.place;
}
