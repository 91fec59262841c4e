use Rattle.std.proofs.Common.{◌≡◌, ◌+◌, ◌-◌, ◌++◌, ◌∷◌, ◌∙◌, [], ap, arith, sym, slice_get, take, append_assoc}
use Rattle.std.proofs.lemmas.{List.take_more, Option.slice_get_within, Option.get_or_from_slice_get}
use Rattle.irig_recording.proofs.PulseEdges.{edges_of-append}
use Rattle.irig_track.specs.Edges.{edges_of}
use Rattle.irig_guarding.proofs.copying.edges_of.Goals as goal

pub loop-index-preserved : goal.loop-index-preserved
loop-index-preserved c =
    let ps = c.args.session.now.state.pulses in
    let i = c.loop-index.index in
    let p = c.pulse-pulse.result in
    let place : i + 1 - 1 ≡ i = omega arith in
    let here = ap (slice_get ps) (sym place) ∙ c.pulse-pulse.ensures in
    let one : take (i + 1) ps ≡ take i ps ++ p ∷ [] =
    take_more ps i p (slice_get_within ps i p here) ∙ ap (λ q. take i ps ++ q ∷ []) (get_or_from_slice_get ps i p p here) in
    c.in_ok-push-2.ensures.items ∙ ap (λ xs. xs ++ p.fall ∷ []) (c.in_ok-push.ensures.items ∙ ap (λ xs. xs ++ p.rise ∷ []) c.loop-index.invariant)
    ∙ append_assoc (edges_of (take i ps)) (p.rise ∷ []) (p.fall ∷ []) ∙ sym (ap edges_of one ∙ edges_of-append (take i ps) (p ∷ []))
