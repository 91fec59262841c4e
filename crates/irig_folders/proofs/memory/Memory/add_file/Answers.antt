use Rattle.std.proofs.Common.{◌≡◌, ◌∷◌, length, rules}
use Rattle.irig_folders.specs.declared.call.Call.TheVariants.{Make}
use Rattle.irig_folders.proofs.LogSteps.{log_makes}
use Rattle.irig_folders.proofs.memory.Memory.add_file.Goals as goal

pub returns-clause-ok : goal.returns-clause-ok
returns-clause-ok c free =
    let is : c.in_ok-name.name.items ≡ c.args.name.now = search rules in
    let grown : c.add.new.calls.items ≡ Make c.in_ok-name.name c.args.mode ∷ c.args.self.now.calls.items = search rules in
    let number : c.len-number.result ≡ length c.args.self.now.calls.items = search rules in
    rw number (log_makes _ _ c.in_ok-name.name _ _ is grown free)
