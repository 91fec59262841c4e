use Rattle.std.proofs.Common.{rules, ◌≡◌, ◌∷◌, reverse, ap, arith}
use Rattle.irig_journal.specs.Journal.{one_of}
use Rattle.irig_journal.proofs.ReadyLemmas.{IsWider, ready_back, ready_left, ready_nearest}
use Rattle.irig_journal.proofs.{HeldLemmas.reverse-push, MoveLemmas.moved_more, MoveLemmas.moved_none}
use Rattle.irig_journal.proofs.moving.turn_changes.Goals as goal

pub loop-turned-init : goal.loop-turned-init
loop-turned-init g c =
    let r = g.R.Reversible in record {
      moved = moved_none r.turned (one_of r.delta) r.counted (r.content c.args.state.now) (r.tally c.args.state.now) (reverse c.args.from.now.items)
          (reverse c.args.to.now.items);
      ready = c.requires.ready;
      ready_back = c.requires.ready_back;
      left = omega arith;
      come = omega arith;
      from_places = omega arith;
      to_places = omega arith;
    }

pub turn-requires : goal.turn-requires
turn-requires g c =
    let r = g.R.Reversible in
    let near = ready_nearest r.fits r.turned r.delta (r.has_room (r.places c.loop-turned.state)) (r.content c.loop-turned.state) c.unwrap-nearest.result
    (reverse c.loop-turned.from.items) (reverse c.pop.new.self.items)
    (reverse-push c.loop-turned.from.items c.pop.new.self.items c.unwrap-nearest.result (rw c.unwrap-nearest.ensures at c.pop.ensures.items))
    c.loop-turned.invariant.ready in
    record { fits = near.0; room = near.1 }

pub loop-turned-preserved : goal.loop-turned-preserved
loop-turned-preserved g c =
    let r = g.R.Reversible in
    let one = one_of r.delta in
    let s = r.content c.loop-turned.state in
    let after = r.content c.turn.new.self in
    let near = c.unwrap-nearest.result in
    let back = c.turn.new.change in
    let all = reverse c.loop-turned.from.items in
    let left = reverse c.pop.new.self.items in
    let to = reverse c.loop-turned.to.items in
    let more = reverse c.push.new.self.items in
    let parts : all ≡ near ∷ left = reverse-push c.loop-turned.from.items c.pop.new.self.items near (rw c.unwrap-nearest.ensures at c.pop.ensures.items) in
    let longer : more ≡ back ∷ to = reverse-push c.push.new.self.items c.loop-turned.to.items back (rw c.unwrap.ensures at c.push.ensures.items) in
    let small = r.has_room (r.places c.loop-turned.state) in
    let large = r.has_room (r.places c.turn.new.self) in
    let wider : IsWider small large = λ x y h. g.met.R.Reversible.wider _ _ x y c.turn.ensures.grows h in
    let fit = (ready_nearest r.fits r.turned r.delta small s near all left parts c.loop-turned.invariant.ready).0 in
    record {
      moved = moved_more r.turned one r.counted _ _ _ s after _ _ _ near back _ all left _ to more (omega arith) parts longer c.turn.ensures.turned
          c.turn.ensures.counted c.loop-turned.invariant.moved;
      ready = ready_left r.fits r.turned r.delta small large wider s after near all left parts (ap (λ p. p.0) c.turn.ensures.turned)
          c.loop-turned.invariant.ready;
      ready_back = ready_back r.fits r.turned r.delta small large wider s after (one near) back to more longer c.turn.ensures.turned
          (g.met.R.Reversible.back_fits s (one near) c.turn.ensures.known fit) (g.met.R.Reversible.back s (one near) c.turn.ensures.known fit)
          c.turn.ensures.back c.loop-turned.invariant.ready_back;
      left = omega (arith, rw c.unwrap-nearest.ensures at c.pop.ensures.len);
      come = omega (arith, rw c.unwrap.ensures at c.push.ensures.len);
      from_places = search rules;
      to_places = search rules;
    }
