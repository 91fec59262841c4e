use Rattle.std.proofs.Common.{ap, ◌∙◌, arith}
use Rattle.irig_codes.specs.{Encoding.encoded, declared.fields.Fields.Fields}
use Rattle.irig_gap.specs.Items.{GapView}
use Rattle.irig_recording.specs.declared.pulse.Pulse.{Pulse}
use Rattle.irig_edit.specs.Edits.Regenerated.{frame_elements}
use Rattle.irig_edit.proofs.EditLemmas.GeneratedPulses.{frames_last, frames_room, frames_step, index_le, index_end}
use Rattle.irig_edit.proofs.edits.frames.pulses_of.Goals as goal

pub put_frame-requires-clause-last : goal.put_frame-requires-clause-last
put_frame-requires-clause-last c =
    frames_last c.args.format c.args.start (frame_elements c.args.format c.args.moment c.args.control) c.loop-k.k c.loop-k.pulses c.loop-k.invariant.0

pub put_frame-requires-clause-room : goal.put_frame-requires-clause-room
put_frame-requires-clause-room c =
    omega (
      arith,
      frames_room c.args.format c.args.start (frame_elements c.args.format c.args.moment c.args.control) c.loop-k.k c.loop-k.pulses
          c.loop-k.invariant.0,
      c.loop-k.invariant.1,
      c.loop-k-test.true,
    )

pub put_frame-requires-clause-within : goal.put_frame-requires-clause-within
put_frame-requires-clause-within c =
    omega (
      arith,
      index_le c.args.format c.args.start c.loop-k.k 100 c.args.frames 0 (omega (arith, c.loop-k-test.true)),
      index_end c.args.format c.args.start c.args.frames,
      c.requires.within,
    )

pub loop-k-preserved : goal.loop-k-preserved
loop-k-preserved c =
    let same = c.encode-elements.ensures.frame ∙ ap (λ (g : Fields). encoded c.args.format g) c.fields.ensures.value in
    let step = frames_step c.args.format c.args.start (frame_elements c.args.format c.args.moment c.args.control) c.loop-k.k c.loop-k.pulses
    c.put_frame.new.pulses c.encode-elements.result c.loop-k.invariant.0 same c.put_frame.ensures in
    (step, omega (arith, ap (λ (w : GapView Pulse). w.capacity) c.put_frame.ensures, c.loop-k.invariant.1))

pub of-requires : goal.of-requires
of-requires c =
    omega (
      arith,
      frames_room c.args.format c.args.start (frame_elements c.args.format c.args.moment c.args.control) c.loop-k.k c.loop-k.pulses
          c.loop-k.invariant.0,
      c.loop-k.invariant.1,
      c.loop-k-test.false,
    )
