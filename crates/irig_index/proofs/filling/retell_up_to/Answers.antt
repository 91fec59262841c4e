use Rattle.std.proofs.Common.{sym, subst, take}
use Rattle.irig_index.specs.{Sides.shown, Stale.LastMayBeStale}
use Rattle.irig_index.proofs.filling.retell_up_to.Goals as goal

pub retell-requires-clause-stale : goal.retell-requires-clause-stale
retell-requires-clause-stale c =
    let count = c.count_up_to-count.result in
    let first = take count (shown c.args.pulses c.args.records.now) in
    subst (λ n. LastMayBeStale c.args.format c.args.lens.now.track.pulses n first) (sym c.saturating_sub-settled.ensures)
    (c.requires count c.count_up_to-count.ensures.before c.count_up_to-count.ensures.after)

pub returns-clause-told : goal.returns-clause-told
returns-clause-told c = record {
  count = c.count_up_to-count.result;
  before = c.count_up_to-count.ensures.before;
  after = c.count_up_to-count.ensures.after;
  told = c.retell.ensures.shown;
  none = c.is_up_to-more.ensures;
}
