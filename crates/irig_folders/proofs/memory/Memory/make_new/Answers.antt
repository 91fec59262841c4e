use Rattle.std.proofs.Common.{◌≡◌, rules, None, arith}
use Rattle.std.proofs.lemmas.Grind.{common_steps}
use Rattle.irig_disk.specs.Calls.{mode_made}
use Rattle.irig_folders.specs.{Log.leads_in, declared.memory.TheConstants.USUAL}
use Rattle.irig_folders.proofs.memory.Memory.make_new.Goals as goal

pub returns-clause-done : goal.returns-clause-done
returns-clause-done c =
    let moded : c.if-hidden.add_file ≡ mode_made USUAL c.args.hidden = search rules in
    let free : leads_in c.args.self.now.calls.items c.args.name.now ≡ None = grind (arith, common_steps) in
    let added = rw (c.is_planned.ensures.calls, moded) at c.in_ok-file.ensures.ok in
    added free
