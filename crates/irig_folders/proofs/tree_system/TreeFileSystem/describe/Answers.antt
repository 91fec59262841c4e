use Rattle.std.proofs.Common.{rules, Some}
use Rattle.irig_folders.specs.{Log.leads_in, Tree.IsFound}
use Rattle.irig_folders.proofs.Outputs.{output_nowhere}
use Rattle.irig_folders.proofs.tree_system.TreeFileSystem.describe.Goals as goal

pub returns-in-Ok-Some-clause-output : goal.returns-in-Ok-Some-clause-output
returns-in-Ok-Some-clause-output c told is =
    let found : IsFound c.args.self.now.layout (leads_in c.args.self.now.memory.calls.items) c.args.path.now (Some c.in-Ok-Some.file) = search rules in
    output_nowhere c.args.self.now.layout (leads_in c.args.self.now.memory.calls.items) c.args.path.now c.in-Ok-Some.file c.shown.result.id found
    c.shown.ensures.id is
