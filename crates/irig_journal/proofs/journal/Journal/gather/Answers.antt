use Rattle.std.proofs.Common.{rules, ◌≡◌, ◌⊎◌, ◌≤◌, ◌<◌, ◌+◌, ◌-◌, ◌∷◌, None, length, map, take, drop, vec_len, vec_capacity, ap, sym, subst, ◌∙◌, arith}
use Rattle.std.proofs.lemmas.List.{take-append-drop}
use Rattle.irig_journal.specs.Journal.{AreReady, ReadyInTurn, future_of, past_of, told}
use Rattle.irig_journal.specs.{Held.HaveAll, Held.flat, Held.held_in, History.FitInTurn, History.step, Joining.beyond, Joining.changes_of, Joining.farthest}
use Rattle.irig_journal.specs.{Openings.StandsOnFloor, Sides.steps_on, Sizes.counts_of, Sizes.joined_as}
use Rattle.irig_journal.proofs.{EntryLemmas.joined_steps, EntryLemmas.whole_joined, FloorLemmas.floor_in, HeldLemmas.counts-append, HeldLemmas.flat-held_in}
use Rattle.irig_journal.proofs.{JoinLemmas.fit_joined, JoinLemmas.fit_parts, SideLemmas.lacks_group, SideLemmas.length-told}
use Rattle.irig_journal.proofs.journal.Journal.gather.Goals as goal

pub overflow_sub-at : goal.overflow_sub-at
overflow_sub-at g c =
    let d = g.R.Reversible.delta in
    let side = c.self.inside.past in
    let long = ap (λ j. length (past_of d j)) (sym c.self.view_is) ∙ length-told d side.changes.items side.entries.items in
    omega (arith, c.requires.within, c.len.ensures, c.reserve_group.ensures.past.1, long)

pub join_beyond-requires-clause-few : goal.join_beyond-requires-clause-few
join_beyond-requires-clause-few g c =
    let es = c.self.inside.past.entries.items in
    let at = c.len.result - c.args.count in
    let few : counts_of (drop at es) ≤ vec_len c.self.inside.past.changes =
    omega (arith, c.self.invariant.1.whole, counts-append (take at es) (drop at es), ap counts_of (take-append-drop at es)) in
    let same = ap (λ l. counts_of (drop at l)) c.reserve_group.ensures.past.0 in
    omega (arith, few, same)

pub invariant_of-self-2 : goal.invariant_of-self-2
invariant_of-self-2 g c =
    let side = c.self.inside.past in
    let sides = c.self.invariant.1 in
    let none : c.self.inside.floor ≡ None = ap floor_in c.self.view_is ∙ c.requires.no_group in
    let d = g.R.Reversible.delta in
    let long = ap (λ j. length (past_of d j)) (sym c.self.view_is) ∙ length-told d side.changes.items side.entries.items in
    let low : c.args.count ≤ c.len.result = omega (arith, c.requires.within, c.len.ensures, c.reserve_group.ensures.past.1, long) in
    let places : (vec_len side.entries + vec_len c.self.inside.future.entries < vec_capacity c.reserve_group.new.past + c.args.count)
    × (vec_len side.entries + vec_len c.self.inside.future.entries < vec_capacity c.reserve_group.new.future + c.args.count) = search rules in
    let joined = c.join_beyond.ensures.joined ∙ ap (joined_as (c.len.result - c.args.count) c.args.cursor) c.reserve_group.ensures.past.0 in (
      subst (λ f. StandsOnFloor f (vec_len c.join_beyond.new.entries)) (sym none) tt,
      record {
        whole = subst (HaveAll side.changes.items) (sym joined)
            (whole_joined side.changes.items side.entries.items (c.len.result - c.args.count) c.args.cursor sides.whole);
        other_whole = subst (HaveAll c.self.inside.future.changes.items) (sym c.reserve_group.ensures.future.0) sides.other_whole;
        steps = (
          omega (
            arith,
            sides.steps,
            places,
            c.len.ensures,
            c.join_beyond.ensures.len,
            c.join_beyond.ensures.capacity,
            c.reserve_group.ensures.past.1,
            c.reserve_group.ensures.future.1,
            c.reserve_group.ensures.capacity,
            low,
          ),
          omega (
            arith,
            sides.steps,
            places,
            c.len.ensures,
            c.join_beyond.ensures.len,
            c.reserve_group.ensures.past.1,
            c.reserve_group.ensures.future.1,
            c.reserve_group.ensures.capacity,
            low,
          ),
        );
        changes = sides.changes;
      },
    )

pub returns-then-is_err-clause-memory : goal.returns-then-is_err-clause-memory
returns-then-is_err-clause-memory g c =
    subst (λ j. (j.past_spare.steps ≤ length j.future) ⊎ (j.future_spare.steps ≤ length j.past)) c.self.view_is
    (lacks_group c.self.inside.past c.self.inside.future (search rules))

-- the steps after: the group, and those that it leaves
after_group : (g : _) (c : goal.After-join_beyond g)
    → map (told g.R.Reversible.delta) (held_in c.self.inside.past.changes.items c.join_beyond.new.entries.items)
    ≡ step (g.R.Reversible.gathered (changes_of (beyond (c.len.result - c.args.count) (map (told g.R.Reversible.delta) (steps_on c.self.inside.past)))))
    c.args.cursor ∷ farthest (c.len.result - c.args.count) (map (told g.R.Reversible.delta) (steps_on c.self.inside.past))
after_group g c =
    let r = g.R.Reversible in
    let side = c.self.inside.past in
    ap (λ l. map (told r.delta) (held_in side.changes.items l))
    (c.join_beyond.ensures.joined ∙ ap (joined_as (c.len.result - c.args.count) c.args.cursor) c.reserve_group.ensures.past.0)
    ∙ joined_steps r.delta r.gathered g.met.R.Reversible.gathers side.changes.items side.entries.items (c.len.result - c.args.count) c.args.cursor
    (omega (arith, c.len.ensures, c.reserve_group.ensures.past.1)) c.self.invariant.1.whole

pub returns-clause-steps : goal.returns-clause-steps
returns-clause-steps g c =
    let r = g.R.Reversible in
    let side = c.self.inside.past in
    let past = map (told r.delta) (steps_on side) in
    let n = c.args.count in
    let long = ap (λ j. length (past_of r.delta j)) (sym c.self.view_is) ∙ length-told r.delta side.changes.items side.entries.items in
    let many : length past - (c.len.result - n) ≡ n =
    omega (arith, c.requires.within, long, c.len.ensures, c.reserve_group.ensures.past.1, length-told r.delta side.changes.items side.entries.items) in (
      after_group g c
          ∙ (ap (λ k. step (r.gathered (changes_of (take k past))) c.args.cursor ∷ drop k past) many
          ∙ ap (λ j. step (r.gathered (changes_of (take n (past_of r.delta j)))) c.args.cursor ∷ drop n (past_of r.delta j)) c.self.view_is),
      ap (λ l. map (told r.delta) (held_in c.self.inside.future.changes.items l)) c.reserve_group.ensures.future.0
          ∙ ap (future_of r.delta) c.self.view_is,
      ap floor_in c.self.view_is ∙ c.requires.no_group,
    )

pub returns-clause-ready : goal.returns-clause-ready
returns-clause-ready g c =
    let r = g.R.Reversible in
    let s = r.content c.args.state.now in
    let room = r.has_room (r.places c.args.state.now) in
    let side = c.self.inside.past in
    let other = c.self.inside.future in
    let cs = side.changes.items in
    let at = c.len.result - c.args.count in
    let past = map (told r.delta) (steps_on side) in
    let ds = changes_of (beyond at past) in
    let ready = subst (λ j. AreReady r.fits r.turned r.delta room s j) (sym c.self.view_is) c.requires.ready in
    let fit = (fit_parts r.fits r.turned s at past ready.0.0).0 in
    let joined = c.join_beyond.ensures.joined ∙ ap (joined_as at c.args.cursor) c.reserve_group.ensures.past.0 in
    let whole = subst (HaveAll cs) (sym joined) (whole_joined cs side.entries.items at c.args.cursor c.self.invariant.1.whole) in
    let same = ap (held_in other.changes.items) c.reserve_group.ensures.future.0 in (
      (
        subst (FitInTurn r.fits r.turned s) (sym (after_group g c))
            (fit_joined r.fits r.turned r.gathered s at past (g.met.R.Reversible.gathered_fits s ds c.known.ensures fit)
            (ap (λ p. p.0) (g.met.R.Reversible.gathered_turns s ds c.known.ensures fit)) ready.0.0),
        subst (λ l. FitInTurn r.fits r.turned s (map (told r.delta) l)) (sym same) ready.0.1,
      ),
      subst (ReadyInTurn r.fits r.turned r.delta room s)
          (flat-held_in cs side.entries.items c.self.invariant.1.whole ∙ sym (flat-held_in cs c.join_beyond.new.entries.items whole)) ready.1,
      subst (λ l. ReadyInTurn r.fits r.turned r.delta room s (flat l)) (sym same) ready.2,
    )
