use Rattle.std.proofs.Common.{◌∙◌, ap}
use Rattle.irig_script_tests.specs.Known.{texts_in}
use Rattle.irig_script_tests.proofs.WatchedRuns.{no_texts}
use Rattle.irig_script_tests.proofs.watching.new_files.Goals as goal

pub returns : goal.returns
returns c = record { empty = ap texts_in (ap (λ memory. memory.calls.items) c.new-2.ensures ∙ c.new.ensures.empty) ∙ no_texts }
