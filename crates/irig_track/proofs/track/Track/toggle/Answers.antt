use Rattle.std.proofs.Common.{rules, arith, sym, ◌≡◌, ◌∙◌, subst, ap, ◌-◌, take, drop}
use Rattle.irig_gap.specs.Items.{GapView}
use Rattle.irig_recording.specs.declared.pulse.Pulse.{Pulse}
use Rattle.irig_track.specs.Edges.{is_edge, inverted, edges_of, Under}
use Rattle.irig_track.specs.{Toggles.toggled, Toggles.CanToggle, Splices.IsSpan, Splices.ended_before, Sides.ReachesFrom, Sides.left_of, Sides.right_of}
use Rattle.irig_track.proofs.{Laws.is_edge-toggled, Recordings.still_track, Spans.under_ended, Spans.reaches_ended, Spans.ended_before-le, Spans.toggle_spanned}
use Rattle.irig_track.proofs.{Spans.ToggleSpan, track.Track.toggle.Goals.After-first_reaching-at, track.Track.toggle.Goals.After-gap_at-end}
use Rattle.irig_track.proofs.track.Track.toggle.Goals as goal

-- the place of the toggle
place : (c : After-first_reaching-at) → c.first_reaching-at.result ≡ ended_before c.args.a c.self.inside.pulses.items
place c = search rules

-- the edges afterwards
edges : (c : After-gap_at-end) → edges_of c.toggle_right.new.pulses.items ≡ toggled c.args.a c.args.b (edges_of c.self.inside.pulses.items)
edges c = c.toggle_right.ensures.edges ∙ ap (λ (w : GapView Pulse). toggled c.args.a c.args.b (edges_of w.items)) c.move_to.ensures

-- what the Span says
spanned : (c : After-gap_at-end) → ToggleSpan c.args.a c.args.b c.first_reaching-at.result c.find-before.result c.gap_at-end.result
    c.self.inside.pulses.items c.toggle_right.new.pulses.items
spanned c = toggle_spanned _ _ _ _ _ c.self.inside.pulses c.move_to.new.self c.toggle_right.new.pulses c.requires.can.order c.self.invariant.rises
    (search rules) (search rules) c.move_to.ensures c.toggle_right.ensures.stays c.toggle_right.ensures.right c.gap_at-end.ensures.place (omega arith)
    (edges c)

pub move_to-requires : goal.move_to-requires
move_to-requires c =
    let at = place (goal.at.move_to-requires c).After-first_reaching-at in
    let le = ended_before-le c.args.a 0 c.self.inside.pulses.items c.self.invariant.rises in omega arith

pub toggle_right-requires-clause-left : goal.toggle_right-requires-clause-left
toggle_right-requires-clause-left c =
    subst (λ (w : GapView Pulse). Under c.args.a (edges_of (left_of w))) (sym c.move_to.ensures)
    (subst (λ k. Under c.args.a (edges_of (take k c.self.inside.pulses.items)))
    (sym (place (goal.at.toggle_right-requires-clause-left c).After-first_reaching-at))
    (under_ended c.args.a 0 c.self.inside.pulses.items c.self.invariant.rises))

pub toggle_right-requires-clause-right : goal.toggle_right-requires-clause-right
toggle_right-requires-clause-right c =
    subst (λ (w : GapView Pulse). ReachesFrom c.args.a (right_of w)) (sym c.move_to.ensures)
    (subst (λ k. ReachesFrom c.args.a (drop k c.self.inside.pulses.items))
    (sym (place (goal.at.toggle_right-requires-clause-right c).After-first_reaching-at))
    (reaches_ended c.args.a 0 c.self.inside.pulses.items c.self.invariant.rises))

pub overflow_sub-result : goal.overflow_sub-result
overflow_sub-result c = (spanned (goal.at.overflow_sub-result c).After-gap_at-end).old_order

pub overflow_sub-result-2 : goal.overflow_sub-result-2
overflow_sub-result-2 c = (spanned (goal.at.overflow_sub-result-2 c).After-gap_at-end).new_order

pub invariant_of-self : goal.invariant_of-self
invariant_of-self c =
    let same : c.args.self.now.pulses ≡ c.self.inside.pulses.items = search rules in
    let micros : c.args.self.now.micros ≡ c.self.inside.micros = search rules in
    still_track c.args.a c.args.b c.self.inside.micros c.self.inside.pulses.items c.toggle_right.new.pulses.items
    (subst (λ ps. CanToggle c.self.inside.micros c.args.a c.args.b ps) same
    (subst (λ m. CanToggle m c.args.a c.args.b c.args.self.now.pulses) micros c.requires.can)) (edges (goal.at.invariant_of-self c).After-gap_at-end)

pub returns : goal.returns
returns c =
    let t = spanned (goal.at.returns c).After-gap_at-end in
    let made = edges (goal.at.returns c).After-gap_at-end in
    let same : c.args.self.now.pulses ≡ c.self.inside.pulses.items = search rules in
    record {
      pulses = search rules;
      edges = λ time. subst (λ ps. is_edge time c.toggle_right.new.pulses.items ≡ inverted c.args.a c.args.b time (is_edge time ps)) (sym same)
          (is_edge-toggled time c.args.a c.args.b c.self.inside.pulses.items c.toggle_right.new.pulses.items c.requires.can.order c.self.invariant.rises made);
      rest = search rules;
      old = (let le = t.old_order in (c.first_reaching-at.ensures, omega arith));
      new = (t.ended, t.risen);
      spanned =
          subst (λ ps. IsSpan c.first_reaching-at.result (c.find-before.result - c.first_reaching-at.result)
          (c.gap_at-end.result - c.first_reaching-at.result) ps c.toggle_right.new.pulses.items) (sym same) t.span;
    }
