-- How far times are from those that can come some frames after another: this project's own. Nobody
-- knows the year, so day 365 can be the last one, and a minute can have a second 60.
use Rattle.std.specs.Prelude.{ℕ, ◌+◌, ◌-◌, ◌%◌, ◌&&◌, not, nat_le, nat_lt, min, Bool, true, false}
use Rattle.std.specs.Prelude.{if◌then◌else◌}
use Rattle.irig_codes.specs.declared.format.Kind.{Kind}
use Rattle.irig_candidates.specs.Times.{day_of, inserted_of, is_inserted, minute_of, second_of}
use Rattle.irig_candidates.specs.Times.{year_of}

-- whether two facts are both true, or both false
abbrev pub alike : Bool → Bool → Bool
alike true b = b
alike false b = not b

-- how far two times are apart round the year: a year, if one alone lies in a second 60
abbrev pub apart : Kind → ℕ → ℕ → ℕ
apart k a b =
    let year = year_of k in
    let ahead = (b % year + year - a % year) % year in
    if alike (is_inserted k a) (is_inserted k b) then min ahead (year - ahead) else year

-- the frame some frames after a time, in its year. Frames count with both: 1 is that of the time
-- itself
abbrev pub later : Kind → ℕ → ℕ → ℕ
later k t count = (t + count + (year_of k - 1)) % year_of k

-- whether a time and those frames lie in one second 60
abbrev pub stays_inserted : Kind → ℕ → ℕ → Bool
stays_inserted k t count = is_inserted k t && nat_le (t % minute_of k + count) (minute_of k)

-- whether day 366 begins in these frames: day 365 can be the last one
abbrev pub passes_day_365 : Kind → ℕ → ℕ → Bool
passes_day_365 k next count =
    nat_lt ((next + day_of k) % year_of k + 1) count

-- whether they end in the second that can be a second 60, of a minute that begins in them
abbrev pub can_insert : Kind → ℕ → ℕ → ℕ → Bool
can_insert k t next count =
    not (is_inserted k t) && nat_lt (next % minute_of k + 1) count
    && nat_lt (next % minute_of k) (second_of k)

-- how far a time is from the one that comes then, with a day 365 that is the last one: a year
-- without one
abbrev pub far_past_day_365 : Kind → ℕ → ℕ → ℕ → ℕ
far_past_day_365 k next count other =
    if passes_day_365 k next count then apart k ((next + day_of k) % year_of k) other else year_of k

-- the same with a second 60
abbrev pub far_with_inserted : Kind → ℕ → ℕ → ℕ → ℕ → ℕ
far_with_inserted k t next count other =
    if can_insert k t next count
    then apart k (inserted_of k + (next + (year_of k - second_of k)) % year_of k) other
    else year_of k

-- how far a time is from those that can come some frames after another
abbrev pub far : Kind → ℕ → ℕ → ℕ → ℕ
far k t count other =
    let next = later k t count in
    if stays_inserted k t count then apart k (inserted_of k + next) other
    else min (apart k next other)
    (min (far_past_day_365 k next count other) (far_with_inserted k t next count other))
