use Rattle.irig_saved.proofs.SavedParts.{cursor_stops, whole_stops, format_stops, saved_stops, name_stops}
use Rattle.irig_saved.proofs.reader.head.Goals as goal

pub returns-in_default : goal.returns-in_default
returns-in_default c = name_stops c.args.text.now c.in_default.ensures

pub returns-in_default-format_line : goal.returns-in_default-format_line
returns-in_default-format_line c =
    let named = c.in-Some.rest.now in
    saved_stops c.args.text.now named named c.in-Some.ensures (format_stops named c.in_default-format_line.ensures)

pub returns-in-None : goal.returns-in-None
returns-in-None c =
    let named = c.in-Some.rest.now in
    let formatted = c.in-Some-format_line.behind.now in
    saved_stops c.args.text.now named formatted c.in-Some.ensures
    (whole_stops named formatted formatted c.in-Some-format_line.format c.in-Some-format_line.ensures.1 c.in-Some-format_line.ensures.0
    (cursor_stops formatted c.in-None.ensures))
