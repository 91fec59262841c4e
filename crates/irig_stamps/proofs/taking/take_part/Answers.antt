use Rattle.std.proofs.Common.{◌∷◌, [], suc, take, drop, get_or, ◌∙◌, subst, arith}
use Rattle.std.specs.Prelude.{Err}
use Rattle.irig_track.specs.Track.{TrackView}
use Rattle.irig_stamps.specs.Steps.{Takes, TakesAs}
use Rattle.irig_stamps.proofs.TakenBytes.{cut-at, not-all, taken-more}
use Rattle.irig_stamps.proofs.taking.take_part.Goals as goal

pub loop-byte-preserved : goal.loop-byte-preserved
loop-byte-preserved c =
    let i = c.loop-byte.byte-index in
    let inv = c.loop-byte.invariant in
    record {
      track = c.in-Ok.ensures.pulses ∙ inv.track;
      taken = taken-more c.args.format c.args.pulses.now.track.pulses c.args.settings.now c.args.part.now i c.args.text.now.items c.loop-byte.text.items
          c.take_byte.new.text.items c.args.state.now c.loop-byte.state c.take_byte.new.state (omega (arith, c.loop-byte-test.true)) inv.taken
          (subst (λ (t : TrackView). Takes c.args.format t.pulses c.args.settings.now (get_or c.args.part.now i 0 ∷ []) c.loop-byte.text.items
          c.take_byte.new.text.items c.loop-byte.state c.take_byte.new.state) inv.track c.in-Ok.ensures.taken);
    }

pub returns-in-Err-clause-taken : goal.returns-in-Err-clause-taken
returns-in-Err-clause-taken c =
    let i = c.loop-byte.byte-index in
    let inv = c.loop-byte.invariant in
    not-all c.args.format c.args.pulses.now.track.pulses c.args.settings.now c.args.part.now (take i c.args.part.now) (drop (suc i) c.args.part.now)
    c.args.text.now.items c.loop-byte.text.items c.take_byte.new.text.items (get_or c.args.part.now i 0) c.args.state.now c.loop-byte.state
    c.take_byte.new.state c.in-Err.fault (cut-at c.args.part.now i (omega (arith, c.loop-byte-test.true))) inv.taken
    (subst (λ (t : TrackView). TakesAs c.args.format t.pulses c.args.settings.now (get_or c.args.part.now i 0 ∷ []) c.loop-byte.text.items
    c.take_byte.new.text.items c.loop-byte.state c.take_byte.new.state (Err c.in-Err.fault)) inv.track c.in-Err.ensures.taken)
