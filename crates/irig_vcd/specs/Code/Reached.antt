-- How far a dump is read after its declarations.
use Rattle.std.specs.Prelude.{◌≤◌, ℕ, List}
use Rattle.irig_vcd.specs.{Code.Time.IsTime, Code.Time.units_of, Code.Trace.Follows, Level.Change}
use Rattle.irig_vcd.specs.{Times.micros_of, declared.time.Clock.Clock, declared.trace.Trace.Trace}

-- a trace has followed some changes, and is not after a time of the unit
pub record IsOn (unit : ℕ) (t : Trace) (clock : Clock) : Type 0 where
  pub time : IsTime unit clock
  pub late : t.time ≤ micros_of unit (units_of unit clock)
  pub changes : List Change
  pub follows : Follows changes t
