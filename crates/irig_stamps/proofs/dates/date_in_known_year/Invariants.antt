use Rattle.std.proofs.Common.{◌≡◌, ◌≤◌, ◌-◌}
use Rattle.irig_stamps.specs.Dates.{date_after}
use Rattle.irig_stamps.proofs.dates.date_in_known_year.Given as goal

abbrev pub invariant-loop-month : goal.invariant-loop-month
invariant-loop-month l = (1 ≤ l.month) × (date_after l.year 12 1 l.days ≡ date_after l.year (13 - l.month) l.month l.left)
