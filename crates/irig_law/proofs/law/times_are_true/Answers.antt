use Rattle.irig_law.proofs.{Holes.holes_are_bounded, Hops.hops_are_true, SentNames.names_are_sent}
use Rattle.irig_law.proofs.Printed.{begin_times, end_times, eventful_times, quiet_times}
use Rattle.irig_law.proofs.TrueTimes.{times_true}
use Rattle.irig_law.proofs.law.times_are_true.Goals as goal

pub returns-clause-hops : goal.returns-clause-hops
returns-clause-hops c = hops_are_true

pub returns-clause-names : goal.returns-clause-names
returns-clause-names c = names_are_sent

pub returns-clause-quiet : goal.returns-clause-quiet
returns-clause-quiet c = quiet_times

pub returns-clause-eventful : goal.returns-clause-eventful
returns-clause-eventful c = eventful_times

pub returns-clause-end : goal.returns-clause-end
returns-clause-end c = end_times

pub returns-clause-begin : goal.returns-clause-begin
returns-clause-begin c = begin_times

pub returns-clause-points : goal.returns-clause-points
returns-clause-points c = times_true

pub returns-clause-holes : goal.returns-clause-holes
returns-clause-holes c = holes_are_bounded
