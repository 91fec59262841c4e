-- How a run over all lines ended, and its status. This project's own.
use Rattle.std.specs.Prelude.{◌==◌, ◌&&◌, ℕ, Bool, not, nat_lt, Option, Some, None, is_none}
use Rattle.std.specs.Prelude.{if◌then◌else◌}
use Rattle.irig_stamps.specs.declared.outcome.Outcome.{Outcome}
use Rattle.irig_stamps.specs.declared.outcome.Standing.{Standing}
use Rattle.irig_stamps.specs.{declared.tally.Tally.Tally}
use Rattle.irig_time.specs.declared.ending.Ending.TheVariants.{Aligned, Listed, Timeless, Doubted}
use Rattle.irig_time.specs.{declared.chosen.Chosen.Chosen, declared.done.Done.Done}
use Rattle.irig_time.specs.{declared.ending.Ending.Ending}

-- what was done with the lines: what is counted of them, in a track of some microseconds
abbrev pub done_of : Chosen → ℕ → Outcome → Done
done_of chosen micros outcome =
    record { tally = outcome.tally; micros = micros; quiet = chosen.quiet }

-- how a run ends if the track has nothing wrong: after lines, or after a list
abbrev pub fine_ending : Option Done → Ending
fine_ending None = Listed
fine_ending (Some done) = Aligned done

-- the same if some frames are not believed; or if each that has a time is, and one has; or if none
-- has
abbrev pub ending_of : Chosen → Standing → Option Done → Ending
ending_of chosen standing done =
    if nat_lt 0 standing.doubted then Doubted chosen.track standing.doubted done
    else (if standing.timed then fine_ending done else Timeless chosen.track done)

-- each line has a number, and as many columns as the header, which names no other unit
abbrev pub is_whole : Tally → Bool
is_whole tally = (tally.unnumbered == 0) && (is_none tally.uneven && not tally.other_unit)

-- the status of a list of the stretches without a time, if it is known which frames have one
abbrev pub holes_status : Standing → ℕ
holes_status standing = if (standing.doubted == 0) && standing.timed then 0 else 1

-- the status of a run over all lines whose track has nothing wrong
abbrev pub lines_status : Tally → ℕ
lines_status tally = if is_whole tally then 0 else 1
