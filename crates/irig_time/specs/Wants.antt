-- What the options without a value ask for. This project's own.
use Rattle.std.specs.Prelude.{◌&&◌, ◌||◌, Bool, not, is_some, if◌then◌else◌}
use Rattle.irig_time.specs.declared.task.Task.TheVariants.{Lines, Table, Holes}
use Rattle.irig_time.specs.{declared.raw_values.RawValues.RawValues, declared.task.Task.Task}

-- what is done with the track
abbrev pub task : Bool → Bool → Bool → Task
task table holes json = if table then Table else (if holes then Holes json else Lines)

abbrev pub task_of : RawValues → Task
task_of a = task a.table a.holes a.json

-- whether an option is given that says how lines are read, or printed; a name needs a header
abbrev pub has_line_option : RawValues → Bool
has_line_option a = is_some a.unit || (is_some a.offset || (is_some a.column
    || (is_some a.header || (a.why || (a.bound || is_some a.within)))))

-- lines are read, or printed, by an option that does not go with the table
abbrev pub is_not_of_table : RawValues → Bool
is_not_of_table a = a.table && has_line_option a

-- options are given that do not go with the list of the stretches without a time
abbrev pub is_not_of_holes : RawValues → Bool
is_not_of_holes a = a.holes && (a.table || has_line_option a)

-- JSON is asked for, and not that list
abbrev pub is_json_alone : RawValues → Bool
is_json_alone a = a.json && not a.holes
