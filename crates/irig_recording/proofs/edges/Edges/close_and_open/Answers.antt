use Rattle.std.proofs.Common.{◌≡◌, ◌∙◌, ◌∷◌, ◌++◌, [], arith, sym, ap, length, length-append}
use Rattle.irig_recording.specs.{Edges.edges_kept, Edges.kept_edges, Pulses.pulse}
use Rattle.irig_recording.proofs.PulseEdges.{count_open, closed_and_opened, open_odd}
use Rattle.irig_recording.proofs.edges.Edges.close_and_open.Goals as goal

pub invariant_of-self-2 : goal.invariant_of-self-2
unfolding edges_kept
invariant_of-self-2 c =
    let ps = c.self.inside.pulses.items in
    let pushed : c.put.new.pulses.items ≡ ps ++ pulse c.self.inside.rise c.args.fall ∷ [] = c.in_ok-put.ensures.put in
    let up = open_odd ps c.self.inside.is_open c.self.inside.rise c.args.self.now c.self.view_is c.requires.risen in
    let count = count_open ps c.self.inside.is_open c.self.inside.rise c.args.self.now c.self.view_is up in
    (omega (arith, count, c.requires.room, ap length pushed, length-append ps (pulse c.self.inside.rise c.args.fall ∷ [])), c.put.ensures.place, c.put.ensures.room)

pub returns : goal.returns
returns c =
    let ps = c.self.inside.pulses.items in
    let pushed : c.put.new.pulses.items ≡ ps ++ pulse c.self.inside.rise c.args.fall ∷ [] = c.in_ok-put.ensures.put in
    let up = open_odd ps c.self.inside.is_open c.self.inside.rise c.args.self.now c.self.view_is c.requires.risen in
    ap (λ ps. kept_edges ps c.self.inside.is_open c.args.rise) pushed
    ∙ ap (λ b. kept_edges (ps ++ pulse c.self.inside.rise c.args.fall ∷ []) b c.args.rise) up
    ∙ closed_and_opened ps c.self.inside.rise c.args.fall c.args.rise
    ∙ ap (λ xs. xs ++ c.args.fall ∷ c.args.rise ∷ []) (ap (λ b. kept_edges ps b c.self.inside.rise) (sym up) ∙ c.self.view_is)
