use Rattle.irig_edit.specs.declared.changes.turn.Turn.{Turn}
use Rattle.irig_edit.proofs.ChangeLemmas.Rooms.{room_back}
use Rattle.irig_edit.proofs.state.present.Present.make_turn.Goals as goal

pub returns-clause-back : goal.returns-clause-back
returns-clause-back c =
    let back : Turn = record {
      single = c.turn_single.new.single;
      taken = c.turn_single.new.taken;
      empty = c.turn-1.given.0;
      tight = c.turn-1.given.1.0;
    } in
    room_back c.args.self.now c.turn_single.new.self c.args.turn.now back c.track-track.ensures.state c.requires.fits c.requires.room
    c.turn_single.ensures.turned c.turn_single.ensures.places c.turn_single.ensures.takes.0
