use Rattle.irig_saved.specs.{Ranges.AreSingles, SavedText.singles_lines, Reading.Reads}
use Rattle.irig_saved.proofs.parts.singles.Given as goal

-- one change for each turn is before the rest
abbrev pub invariant-loop : goal.invariant-loop
invariant-loop l = Reads (AreSingles l.counter) singles_lines l.text l.singles l.rest
