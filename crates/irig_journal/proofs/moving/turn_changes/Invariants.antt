use Rattle.std.proofs.Common.{◌≡◌, ◌≤◌, ◌+◌, reverse, vec_len, vec_capacity}
use Rattle.irig_journal.specs.{Journal.ReadyInTurn, Journal.one_of, Moves.Moved}
use Rattle.irig_journal.proofs.moving.turn_changes.Given as goal

-- the changes turned so far, and that what is left and what came is ready
abbrev pub invariant-loop-turned : goal.invariant-loop-turned
invariant-loop-turned g l =
    let r = g.R.Reversible in record {
      moved : Moved r.turned (one_of r.delta) r.counted l._turned (r.content l.fn.state) (r.content l.state) (r.tally l.fn.state) (r.tally l.state)
          (reverse l.fn.from.items) (reverse l.from.items) (reverse l.fn.to.items) (reverse l.to.items);
      ready : ReadyInTurn r.fits r.turned r.delta (r.has_room (r.places l.state)) (r.content l.state) (reverse l.from.items);
      ready_back : ReadyInTurn r.fits r.turned r.delta (r.has_room (r.places l.state)) (r.content l.state) (reverse l.to.items);
      left : vec_len l.from + l._turned ≡ vec_len l.fn.from;
      come : vec_len l.to ≡ vec_len l.fn.to + l._turned;
      from_places : vec_capacity l.fn.from ≤ vec_capacity l.from;
      to_places : vec_capacity l.fn.to ≤ vec_capacity l.to;
    }
