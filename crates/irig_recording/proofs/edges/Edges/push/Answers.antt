use Rattle.std.proofs.Common.{◌≡◌, ◌∙◌, ◌∷◌, ◌++◌, [], arith, sym, ap, false, length, length-append}
use Rattle.irig_recording.specs.{Edges.kept_edges, Pulses.pulse}
use Rattle.irig_recording.proofs.PulseEdges.{count_open, closed}
use Rattle.irig_recording.proofs.edges.Edges.push.Goals as goal

pub invariant_of-self-then-self : goal.invariant_of-self-then-self
invariant_of-self-then-self c =
    let pushed : c.put.new.pulses.items ≡ c.self.inside.pulses.items ++ pulse c.self.inside.rise c.args.edge ∷ [] = c.in_ok-put.ensures.put in
    let count = count_open c.self.inside.pulses.items c.self.inside.is_open c.self.inside.rise c.args.self.now c.self.view_is c.if-self.true in (
      omega (
        arith,
        count,
        c.requires,
        ap length pushed,
        length-append c.self.inside.pulses.items (pulse c.self.inside.rise c.args.edge ∷ []),
      ),
      c.put.ensures.place,
      c.put.ensures.room,
    )

pub returns-in_ok-put : goal.returns-in_ok-put
returns-in_ok-put c =
    let pushed : c.put.new.pulses.items ≡ c.self.inside.pulses.items ++ pulse c.self.inside.rise c.args.edge ∷ [] = c.in_ok-put.ensures.put in
    ap (λ ps. kept_edges ps false c.self.inside.rise) pushed ∙ closed c.self.inside.pulses.items c.self.inside.rise c.args.edge c.self.inside.rise
    ∙ ap (λ xs. xs ++ c.args.edge ∷ []) (ap (λ b. kept_edges c.self.inside.pulses.items b c.self.inside.rise) (sym c.if-self.true) ∙ c.self.view_is)
