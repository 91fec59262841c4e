use Rattle.std.proofs.Common.{rules, arith, sym, ◌≡◌, ◌∙◌, subst, ap, ◌+◌, ◌^◌, ◌≤◌, length, map, w64}
use Rattle.std.proofs.lemmas.{Int.to_z-of_z, List.length-map}
use Rattle.irig_gap.specs.Items.{GapView}
use Rattle.irig_recording.specs.declared.pulse.Pulse.{Pulse}
use Rattle.irig_track.specs.Shifts.{moved, moved_pulse, count_to, ahead, back, shifted}
use Rattle.irig_track.specs.{Edges.edges_of, Edges.is_edge, Edges.replaced, Splices.spliced, Splices.piece, Splices.IsSpan}
use Rattle.irig_track.proofs.{Carried.length-piece, Laws.is_edge-spliced, Places.UpTo-more, Spans.span_spliced}
use Rattle.irig_track.proofs.track.Track.shift.Goals as goal

pub move_pulses-requires-clause-short : goal.move_pulses-requires-clause-short
move_pulses-requires-clause-short c = UpTo-more c.self.inside.micros (2 ^ 40) (edges_of c.self.inside.pulses.items) c.self.invariant.short
    c.self.invariant.within

pub returns-clause-edges : goal.returns-clause-edges
returns-clause-edges c = λ t.
    let ps = c.self.inside.pulses.items in let n = count_to c.args.i c.args.j in
    let same : c.args.self.now.pulses ≡ ps = search rules in
    let on : c.ahead_of.result ≡ ahead c.args.by = c.ahead_of.ensures.distance ∙ ap ahead (to_z-of_z w64 c.args.by c.ranges.by) in
    let off : c.back_of.result ≡ back c.args.by = c.back_of.ensures.distance ∙ ap back (to_z-of_z w64 c.args.by c.ranges.by) in
    let made : c.move_pulses.new.pulses.items ≡ shifted c.args.i c.args.j c.args.by ps =
    ap (λ (w : GapView Pulse). w.items) c.move_pulses.ensures ∙ (λ k. spliced c.args.i n (map (moved_pulse (on k) (off k)) (piece c.args.i n ps)) ps) in
    subst (λ qs. is_edge t c.move_pulses.new.pulses.items ≡ replaced (edges_of (piece c.args.i n qs)) (edges_of (moved c.args.by (piece c.args.i n qs))) t
    (is_edge t qs)) (sym same)
    (ap (is_edge t) made ∙ is_edge-spliced t c.args.i n (moved c.args.by (piece c.args.i n ps)) ps c.self.invariant.rises)

pub returns-clause-spanned : goal.returns-clause-spanned
returns-clause-spanned c =
    let ps = c.self.inside.pulses.items in let n = count_to c.args.i c.args.j in
    let same : c.args.self.now.pulses ≡ ps = search rules in
    let there : c.args.i + n ≤ length ps = omega (arith, ap length same, c.requires.there, c.requires.order) in
    let put = map (moved_pulse c.ahead_of.result c.back_of.result) (piece c.args.i n ps) in
    let long : length put ≡ n = length-map (piece c.args.i n ps) (moved_pulse c.ahead_of.result c.back_of.result) ∙ length-piece ps c.args.i n there in
    subst (λ qs. IsSpan c.args.i n n qs c.move_pulses.new.pulses.items) (sym same)
    (span_spliced c.args.i n n put ps c.move_pulses.new.pulses.items there long (ap (λ (w : GapView Pulse). w.items) c.move_pulses.ensures))
