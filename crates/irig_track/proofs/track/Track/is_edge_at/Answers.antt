use Rattle.std.proofs.Common.{◌≡◌, ◌-◌, ◌==◌, ◌||◌, ◌∙◌, ap, sym, true, false, arith}
use Rattle.std.proofs.lemmas.Bool.{eq-eqb, ne_eqb}
use Rattle.irig_track.proofs.Places.{is_edge_none, is_edge_last}
use Rattle.irig_track.proofs.track.Track.is_edge_at.Goals as goal

pub returns-then-risen-eq0 : goal.returns-then-risen-eq0
returns-then-risen-eq0 c = sym (is_edge_none c.args.time 0 c.args.self.now.pulses c.find-risen.ensures.track.rises (omega arith))

pub returns-then-last-time : goal.returns-then-last-time
returns-then-last-time c =
    let p = c.pulse-last.result in let t = c.args.time in
    let here : (p.rise == t) ≡ true = eq-eqb p.rise t c.if-last-time.true in
    here ∙ sym (is_edge_last t 0 (c.find-risen.result - 1) p c.args.self.now.pulses c.find-risen.ensures.track.rises (omega arith) c.pulse-last.ensures.value
    ∙ ap (λ v. v || (p.fall == t)) here)

pub returns-else-last-time : goal.returns-else-last-time
returns-else-last-time c =
    let p = c.pulse-last.result in let t = c.args.time in
    let there : (p.rise == t) ≡ false = ne_eqb p.rise t c.if-last-time.false in
    sym (is_edge_last t 0 (c.find-risen.result - 1) p c.args.self.now.pulses c.find-risen.ensures.track.rises (omega arith) c.pulse-last.ensures.value
    ∙ ap (λ v. v || (p.fall == t)) there)
