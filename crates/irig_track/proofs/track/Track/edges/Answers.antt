use Rattle.std.proofs.Common.{arith, ◌≡◌, ◌+◌, ◌*◌, ◌∙◌, ◌++◌, ◌∷◌, [], ap, sym, take, length, length-take, append_assoc}
use Rattle.std.proofs.lemmas.{List.take_more, Option.slice_get_within, Option.get_or_from_slice_get}
use Rattle.irig_recording.proofs.PulseEdges.{edges_of-append, length-edges_of}
use Rattle.irig_track.specs.Edges.{edges_of}
use Rattle.irig_track.proofs.track.Track.edges.Goals as goal

pub push_reserved-requires : goal.push_reserved-requires
push_reserved-requires c =
    let ps = c.self.inside.pulses.items in
    let i = c.loop-index.index in
    let n : length c.loop-index.edges.items ≡ 2 * length (take i ps) = ap length c.loop-index.invariant.0 ∙ length-edges_of (take i ps) in
    omega (arith, n, length-take i ps, c.loop-index.invariant.1, c.loop-index.edges.ok.0)

pub push_reserved-requires-in-loop-index : goal.push_reserved-requires-in-loop-index
push_reserved-requires-in-loop-index c =
    let ps = c.self.inside.pulses.items in
    let i = c.loop-index.index in
    let n : length c.loop-index.edges.items ≡ 2 * length (take i ps) = ap length c.loop-index.invariant.0 ∙ length-edges_of (take i ps) in
    omega (arith, n, length-take i ps, c.loop-index.invariant.1, c.loop-index.edges.ok.0, c.push_reserved.ensures.len, c.push_reserved.ensures.capacity)

pub loop-index-preserved : goal.loop-index-preserved
loop-index-preserved c =
    let ps = c.self.inside.pulses.items in
    let i = c.loop-index.index in
    let p = c.get-pulse.result in
    let one : take (i + 1) ps ≡ take i ps ++ p ∷ [] =
    take_more ps i p (slice_get_within ps i p c.get-pulse.ensures) ∙ ap (λ q. take i ps ++ q ∷ []) (get_or_from_slice_get ps i p p c.get-pulse.ensures) in (
      c.push_reserved-in-loop-index.ensures.items ∙ ap (λ xs. xs ++ p.fall ∷ [])
          (c.push_reserved.ensures.items ∙ ap (λ xs. xs ++ p.rise ∷ []) c.loop-index.invariant.0)
          ∙ append_assoc (edges_of (take i ps)) (p.rise ∷ []) (p.fall ∷ [])
          ∙ sym (ap edges_of one ∙ edges_of-append (take i ps) (p ∷ [])),
      c.push_reserved-in-loop-index.ensures.capacity ∙ c.push_reserved.ensures.capacity ∙ c.loop-index.invariant.1,
    )
