use Rattle.std.proofs.Common.{rules, ◌≡◌, Some, map, ap, sym, subst, ◌∙◌, arith}
use Rattle.std.specs.Prelude.{IfSome}
use Rattle.irig_journal.specs.Journal.{AreReady, ReadyInTurn, grouped_of, past_of, told}
use Rattle.irig_journal.specs.{Groups.ended, Held.held_in, History.FitInTurn, Joining.beyond, Joining.changes_of, Joining.joined_beyond, Sides.steps_on}
use Rattle.irig_journal.proofs.EntryLemmas.{ended_steps, fit_ended, whole_ended}
use Rattle.irig_journal.proofs.{FloorLemmas.ended_by, FloorLemmas.floor_in, FloorLemmas.grouped_at, HeldLemmas.flat-held_in, JoinLemmas.fit_parts}
use Rattle.irig_journal.proofs.journal.Journal.end.Goals as goal

pub invariant_of-self : goal.invariant_of-self
invariant_of-self g c =
    let side = c.self.inside.past in
    let sides = c.self.invariant.1 in (
      tt,
      record {
        whole = whole_ended side.changes.items side.entries.items _ c.in-Some.opening.steps c.end_beyond.ensures.joined sides.whole;
        other_whole = sides.other_whole;
        steps = (omega (arith, sides.steps, c.end_beyond.ensures.few, c.end_beyond.ensures.capacity), omega (arith, sides.steps, c.end_beyond.ensures.few));
        changes = sides.changes;
      },
    )

pub returns : goal.returns
returns g c =
    let r = g.R.Reversible in
    let s = r.content c.args.state.now in
    let room = r.has_room (r.places c.args.state.now) in
    let all = c.self.invariant.1.whole in
    let o = c.in-Some.opening in
    let cs = c.self.inside.past.changes.items in
    let es = c.self.inside.past.entries.items in
    let fs = c.end_beyond.new.entries.items in
    let past = map (told r.delta) (held_in cs es) in
    let left = map (told r.delta) (held_in cs fs) in
    let future = map (told r.delta) (steps_on c.self.inside.future) in
    let ds = changes_of (beyond o.steps past) in
    let ready = subst (λ j. AreReady r.fits r.turned r.delta room s j) (sym c.self.view_is) c.requires.ready in
    let fit = (fit_parts r.fits r.turned s o.steps past ready.0.0).0 in
    let same = ap (λ p. p.0) (g.met.R.Reversible.gathered_turns s ds c.known.ensures fit) in
    let joins = ended_steps r.delta r.gathered g.met.R.Reversible.gathers cs es fs o.steps c.end_beyond.ensures.joined all in
    let open_at : c.args.self.now.floor ≡ Some o = sym (ap floor_in c.self.view_is) ∙ c.in-Some.is in
    record {
      grouped = λ cursor. ap (λ j. ended (grouped_of r.turned r.delta s cursor j)) (sym c.self.view_is)
          ∙ ap (λ f. ended (grouped_at r.turned s cursor past future f)) c.in-Some.is
          ∙ ended_by r.turned r.gathered s cursor past left future o joins (λ long. same);
      steps = subst (λ f. IfSome f (λ x. left ≡ joined_beyond r.gathered x.steps (past_of r.delta c.args.self.now)))
          (sym open_at) (joins ∙ ap (λ j. joined_beyond r.gathered o.steps (past_of r.delta j)) c.self.view_is);
      stays = search rules;
      floor = search rules;
      none = search rules;
      err = search rules;
      ready = (
        (
          subst (FitInTurn r.fits r.turned s) (sym joins)
              (fit_ended r.fits r.turned r.gathered s o.steps past (g.met.R.Reversible.gathered_fits s ds c.known.ensures fit) same ready.0.0),
          ready.0.1,
        ),
        subst (ReadyInTurn r.fits r.turned r.delta room s)
            (flat-held_in cs es all ∙ sym (flat-held_in cs fs (whole_ended cs es fs o.steps c.end_beyond.ensures.joined all))) ready.1,
        ready.2,
      );
    }
