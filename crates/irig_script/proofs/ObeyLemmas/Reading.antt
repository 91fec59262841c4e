-- How far a run has read its script.
use Rattle.std.proofs.Common.{◌≤◌, ◌+◌, ◌^◌, ◌++◌, [], ℕ, Option, List, false, length, refl, arith}
use Rattle.std.proofs.KnownBytes.{Consumes-nil}
use Rattle.std.specs.Io.KnownBytes.{Consumes}
use Rattle.irig_script.specs.Obey.Reading.{HasNoEnd, ReadsTo}
use Rattle.irig_script.specs.{Obey.Machine.Machine, Obey.Desk.Desk, Obey.Progress.Obeyed, declared.obey.status.Status.Status, declared.obey.line.Line.Line}

-- bytes that were obeyed and do not end the script
no_end : (a b : Desk) (st su : Status) (s t : Machine) (bytes : List ℕ) (line : Line) → Obeyed false a b st su s t bytes line → HasNoEnd bytes
no_end a b st su s t bytes line h = record { lines = h.ends.1.lines; rest = h.ends.0; each = h.ends.1.each; begun = h.ends.2.plain; cut = h.ends.1.cut }

-- they were read, and the part of one read more
pub reads_to : (from to : Option (List ℕ)) (a b : Desk) (st su : Status) (s t : Machine) (bytes part : List ℕ) (line : Line) → Consumes from to (bytes ++ part)
    → length part ≤ 4096 → length bytes + length part ≤ 2 ^ 44 → Obeyed false a b st su s t bytes line → ReadsTo from to
reads_to from to a b st su s t bytes part line p short most h =
    record { before = bytes; last = part; read = p; short = short; most = most; goes_on = no_end a b st su s t bytes line h }

-- nothing was read
pub reads_none : (a : Option (List ℕ)) → ReadsTo a a
reads_none a = record {
  before = [];
  last = [];
  read = Consumes-nil a;
  short = omega arith;
  most = omega arith;
  goes_on = record { lines = []; rest = []; each = tt; begun = refl; cut = refl };
}
