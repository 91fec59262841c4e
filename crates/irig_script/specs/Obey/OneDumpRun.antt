-- That a script runs on a dump in one way, but for the lines that run out of memory or fail to
-- write. This project's own.
use Rattle.std.specs.Prelude.{◌≡◌, ℕ, List, Option, Some, Ok}
use Rattle.irig_codes.specs.Format.{FormatView}
use Rattle.irig_script.specs.Obey.OneRun.{EndTheSame, MeetTheSame, RunOf}
use Rattle.irig_script.specs.declared.obey.status.Status.{Status}
use Rattle.irig_script.specs.declared.obey.status.Status.TheVariants.{AllAccepted}
use Rattle.irig_script.specs.{Obey.Desk.Desk, Obey.DumpRun.RanOnDump}

-- a whole script that ran on a dump, with what lay round before and afterwards
pub record DumpRunOf (wire : Option (List ℕ)) (chosen : FormatView) (source script : List ℕ) : Type
    0
  where
    pub from : Desk
    pub to : Desk
    pub left : Option (List ℕ)
    pub status : Status
    pub on : RanOnDump wire chosen source (Some script) left from to (Ok status)

-- the run of the script in it
abbrev pub run_in : {wire : Option (List ℕ)} {chosen : FormatView} {source script : List ℕ}
    → DumpRunOf wire chosen source script → RunOf script
run_in one = record {
  from = one.from;
  to = one.to;
  before = AllAccepted;
  after = one.status;
  old = one.on.first;
  new = one.on.last;
  ran = one.on.ran;
}

-- if one script runs twice on one dump, with the same wire, format, known output and shelf,
-- and memory runs out and writes fail at the same lines, both runs end with the same
abbrev pub OneDumpRun : Type 0
OneDumpRun = (wire : Option (List ℕ)) (chosen : FormatView) (source script : List ℕ)
    (one other : DumpRunOf wire chosen source script)
    → one.from.out ≡ other.from.out → one.from.shelf.texts ≡ other.from.shelf.texts
    → MeetTheSame (run_in one).ran.answers (run_in other).ran.answers
    → EndTheSame (run_in one) (run_in other)
