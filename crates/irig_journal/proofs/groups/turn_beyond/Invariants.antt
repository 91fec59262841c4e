use Rattle.std.proofs.Common.{◌≤◌, vec_len}
use Rattle.irig_journal.specs.{Journal.AreReady, Journal.past_of, Journal.steps_in, Sides.AreSides}
use Rattle.irig_journal.proofs.TurningLemmas.{LedDown}
use Rattle.irig_journal.proofs.groups.turn_beyond.Given as goal

-- the steps that are left are ready, and lead on to where all lead
abbrev pub invariant-loop-past : goal.invariant-loop-past
invariant-loop-past g l =
    let r = g.R.Reversible in record {
      ready : AreReady r.fits r.turned r.delta (r.has_room (r.places l.state)) (r.content l.state) (steps_in l.past l.future);
      led : LedDown r.turned r.counted l.at (r.content l.fn.state) (r.content l.state) (r.tally l.fn.state) (r.tally l.state)
          (past_of r.delta (steps_in l.fn.past l.fn.future)) (past_of r.delta (steps_in l.past l.future));
      sides : AreSides l.past l.future;
      within : l.at ≤ vec_len l.past.entries;
    }

abbrev pub decreases-loop-past : goal.decreases-loop-past
decreases-loop-past g l = vec_len l.past.entries
