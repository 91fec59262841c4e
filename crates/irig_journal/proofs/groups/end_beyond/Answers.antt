use Rattle.std.proofs.Common.{drop, take, arith, ap}
use Rattle.std.proofs.lemmas.List.{take-append-drop}
use Rattle.irig_journal.specs.Sizes.{counts_of}
use Rattle.irig_journal.proofs.HeldLemmas.{counts-append}
use Rattle.irig_journal.proofs.groups.end_beyond.Goals as goal

pub join_beyond-requires-clause-few : goal.join_beyond-requires-clause-few
join_beyond-requires-clause-few c =
    let es = c.args.entries.now.items in
    omega (arith, c.requires.few, counts-append (take c.args.at es) (drop c.args.at es), ap counts_of (take-append-drop c.args.at es))
