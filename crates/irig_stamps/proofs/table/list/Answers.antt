use Rattle.std.proofs.Common.{inl}
use Rattle.irig_stamps.proofs.table.list.Goals as goal

pub returns : goal.returns
returns g c = inl (record { pulses = c.of.result.track.pulses; are = c.of.ensures.edges; lists = c.list_track.ensures })
