use Rattle.std.proofs.Common.{rules, arith, sym, ◌≡◌, ◌∙◌, subst, ap, length}
use Rattle.irig_track.specs.{Edges.is_edge, Edges.replaced, Edges.edges_of, Splices.IsSpan}
use Rattle.irig_track.proofs.{Laws.is_edge-spliced, Spans.span_spliced}
use Rattle.irig_track.proofs.track.Track.splice.Goals as goal

pub returns-clause-edges : goal.returns-clause-edges
returns-clause-edges c = λ t.
    let put = c.args.put.now.items in
    let old = c.self.inside.pulses.items in
    let same : c.args.self.now.pulses ≡ old = search rules in
    subst (λ ps. is_edge t c.replace.new.pulses.items ≡ replaced (edges_of c.replace.new.taken.items) (edges_of put) t (is_edge t ps)) (sym same)
    (ap (is_edge t) c.replace.ensures.pulses ∙ is_edge-spliced t c.args.at c.args.count put old c.self.invariant.rises
    ∙ ap (λ ps. replaced (edges_of ps) (edges_of put) t (is_edge t old)) (sym c.replace.ensures.taken))

pub returns-clause-spanned : goal.returns-clause-spanned
returns-clause-spanned c =
    let old = c.self.inside.pulses.items in
    let same : c.args.self.now.pulses ≡ old = search rules in
    subst (λ ps. IsSpan c.args.at c.args.count c.len-come.result ps c.replace.new.pulses.items) (sym same)
    (span_spliced c.args.at c.args.count c.len-come.result c.args.put.now.items old c.replace.new.pulses.items
    (omega (arith, ap length same)) (sym c.len-come.ensures.len) c.replace.ensures.pulses)
