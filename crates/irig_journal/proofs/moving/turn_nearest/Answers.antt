use Rattle.std.proofs.Common.{◌≡◌, ◌∷◌, ◌++◌, [], map, reverse, ap, sym, subst, arith, ◌∙◌}
use Rattle.irig_journal.specs.Journal.{ReadyInTurn, one_of, told}
use Rattle.irig_journal.specs.{Held.held_in, Held.parts_of, History.FitInTurn, History.step, Sizes.entry, Sizes.is_group}
use Rattle.irig_journal.proofs.HeldLemmas.{flat-held_in, held_in-nearest, one_alone, whole_left, whole_more}
use Rattle.irig_journal.proofs.{JoinLemmas.fit_first, MoveLemmas.step_turned, StepLemmas.fits_back, StepLemmas.stepped_back_by, StepLemmas.undone_by}
use Rattle.irig_journal.proofs.moving.turn_nearest.Goals as goal

pub turn_changes-requires-clause-ready : goal.turn_changes-requires-clause-ready
turn_changes-requires-clause-ready g c =
    let r = g.R.Reversible in
    let from = c.args.from.now in
    subst (ReadyInTurn r.fits r.turned r.delta (r.has_room (r.places c.args.state.now)) (r.content c.args.state.now))
    (flat-held_in from.changes.items from.entries.items c.requires.sides.whole) c.requires.ready.1

pub turn_changes-requires-clause-ready_back : goal.turn_changes-requires-clause-ready_back
turn_changes-requires-clause-ready_back g c =
    let r = g.R.Reversible in
    let to = c.args.to.now in
    subst (ReadyInTurn r.fits r.turned r.delta (r.has_room (r.places c.args.state.now)) (r.content c.args.state.now))
    (flat-held_in to.changes.items to.entries.items c.requires.sides.other_whole) c.requires.ready.2

-- what the turn did, by what state and steps are
turned_step : (g : _) (c : goal.After-unwrap g) → (near : _) × (back : _)
    × (map (told g.R.Reversible.delta) (held_in c.args.from.now.changes.items c.args.from.now.entries.items)
    ≡ step near c.unwrap-nearest.result.cursor ∷ map (told g.R.Reversible.delta) (held_in c.turn_changes.new.from.items c.pop.new.self.items))
    × (map (told g.R.Reversible.delta) (held_in c.turn_changes.new.to.items c.push.new.self.items)
    ≡ step back c.args.cursor.now ∷ map (told g.R.Reversible.delta) (held_in c.args.to.now.changes.items c.args.to.now.entries.items))
    × ((g.R.Reversible.content c.turn_changes.new.state, back) ≡ g.R.Reversible.turned (g.R.Reversible.content c.args.state.now) near)
    × g.R.Reversible.counted (g.R.Reversible.content c.args.state.now) near (g.R.Reversible.tally c.args.state.now)
    (g.R.Reversible.tally c.turn_changes.new.state)
turned_step g c =
    let r = g.R.Reversible in
    let one = one_of r.delta in
    let s = r.content c.args.state.now in
    let from = c.args.from.now in
    let to = c.args.to.now in
    let e = c.unwrap-nearest.result in
    let b = is_group e.size in
    let moved = c.turn_changes.ensures.moved in
    let fit = fit_first r.fits r.turned one s (reverse from.changes.items) moved.taken (reverse c.turn_changes.new.from.items) moved.parts
    (subst (ReadyInTurn r.fits r.turned r.delta (r.has_room (r.places c.args.state.now)) s)
    (flat-held_in from.changes.items from.entries.items c.requires.sides.whole) c.requires.ready.1).0 in
    let t = step_turned r.turned r.delta r.gathered r.counted g.met.R.Reversible.gathers b s (r.content c.turn_changes.new.state) (r.tally c.args.state.now)
    (r.tally c.turn_changes.new.state) c.count-count.result (reverse from.changes.items) (reverse c.turn_changes.new.from.items) (reverse to.changes.items)
    (reverse c.turn_changes.new.to.items) (λ no. c.count-count.ensures ∙ one_alone e.size no) moved
    (g.met.R.Reversible.gathered_turns s (map one moved.taken) c.known.ensures fit)
    (g.met.R.Reversible.gathered_counts s (map one moved.taken) _ _ c.known.ensures fit moved.counts) in
    let popped : from.entries.items ≡ c.pop.new.self.items ++ e ∷ [] = rw c.unwrap-nearest.ensures at c.pop.ensures.items in
    let pushed : c.push.new.self.items ≡ to.entries.items ++ entry e.size c.args.cursor.now ∷ [] =
    rw (c.unwrap.ensures, c.swap.ensures.x_after) at c.push.ensures.items in (
      r.delta (parts_of b moved.taken),
      r.delta (parts_of b moved.backs),
      ap (map (told r.delta)) (held_in-nearest from.changes.items from.entries.items c.pop.new.self.items e moved.taken
          (reverse c.turn_changes.new.from.items) popped moved.parts (moved.many.0 ∙ c.count-count.ensures)),
      ap (map (told r.delta)) (held_in-nearest c.turn_changes.new.to.items c.push.new.self.items to.entries.items (entry e.size c.args.cursor.now) moved.backs
          (reverse to.changes.items) pushed moved.longer (moved.many.1 ∙ c.count-count.ensures)),
      t.turn,
      t.counts,
    )

pub returns-clause-step : goal.returns-clause-step
returns-clause-step g c =
    let r = g.R.Reversible in
    let t = turned_step g c in
    let fit = rw t.2 at c.requires.ready.0.0 in
    let near = step t.0 c.unwrap-nearest.result.cursor in
    record {
      states = rw c.swap.ensures.y_after (undone_by r.turned _ _ _ near _ _ _ _ _ t.2 t.4
          (g.met.R.Reversible.back _ _ c.known.ensures fit.0) t.3);
      steps = rw c.swap.ensures.y_after (stepped_back_by r.turned _ _ _ near _ _ _ _ _ t.2 t.4 t.3);
      once = rw t.2 t.5;
    }

pub returns-clause-ready : goal.returns-clause-ready
returns-clause-ready g c =
    let r = g.R.Reversible in
    let t = turned_step g c in
    let e = c.unwrap-nearest.result in
    let fit = rw t.2 at c.requires.ready.0.0 in
    let after = r.content c.turn_changes.new.state in
    let near = step t.0 e.cursor in
    let law = g.met.R.Reversible.back _ _ c.known.ensures fit.0 in
    let large = r.has_room (r.places c.turn_changes.new.state) in
    let popped : c.args.from.now.entries.items ≡ c.pop.new.self.items ++ e ∷ [] = rw c.unwrap-nearest.ensures at c.pop.ensures.items in
    let pushed : c.push.new.self.items ≡ c.args.to.now.entries.items ++ entry e.size c.args.cursor.now ∷ [] =
    rw (c.unwrap.ensures, c.swap.ensures.x_after) at c.push.ensures.items in
    let left = whole_left c.args.from.now.changes.items c.turn_changes.new.from.items c.args.from.now.entries.items c.pop.new.self.items e popped
    (omega (arith, c.count-count.ensures)) c.requires.sides.whole in
    let more = whole_more c.args.to.now.changes.items c.turn_changes.new.to.items c.args.to.now.entries.items c.push.new.self.items
    (entry e.size c.args.cursor.now) pushed (omega (arith, c.count-count.ensures)) c.requires.sides.other_whole in (
      (
        subst (λ x. FitInTurn r.fits r.turned x (map (told r.delta) (held_in c.turn_changes.new.from.items c.pop.new.self.items)))
            (sym (ap (λ p. p.0) t.4)) fit.1,
        fits_back r.fits r.turned _ _ _ near _ _ _ t.4 (g.met.R.Reversible.back_fits _ _ c.known.ensures fit.0) law t.3 c.requires.ready.0.1,
      ),
      subst (ReadyInTurn r.fits r.turned r.delta large after) (sym (flat-held_in c.turn_changes.new.from.items c.pop.new.self.items left))
          c.turn_changes.ensures.ready,
      subst (ReadyInTurn r.fits r.turned r.delta large after) (sym (flat-held_in c.turn_changes.new.to.items c.push.new.self.items more))
          c.turn_changes.ensures.ready_back,
    )
