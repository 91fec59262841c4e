use Rattle.std.proofs.Common.{◌∙◌, Bool, ℕ, ap, arith, cond, sym}
use Rattle.irig_comments.specs.{Counts.fine_frames, Framed.framed_view}
use Rattle.irig_comments.proofs.FineFrames.{fine_by_records, fine_end, fine_next}
use Rattle.irig_comments.proofs.framed.Framed.fine.Goals as goal
use Rattle.irig_comments.proofs.framed.Framed.fine.Goals.{then-is_fine, else-is_fine}

pub loop-place-preserved : goal.loop-place-preserved
loop-place-preserved c =
    let next = fine_next c.self.inside.index.records c.loop-place.place c.record.result c.record.ensures in
    let inv = c.loop-place.invariant in
    elim c.if-is_fine.branch [
      | then-is_fine w ↦ (
          let one = ap (λ (v : Bool). cond {A = ℕ} v 1 0) (sym c.is_fine.ensures ∙ w.if-is_fine.true) in
          (omega (arith, next, inv.0, one, w.count-is), omega (arith, inv.1, w.count-is)))
      | else-is_fine w ↦ (
          let none = ap (λ (v : Bool). cond {A = ℕ} v 1 0) (sym c.is_fine.ensures ∙ w.if-is_fine.false) in
          (omega (arith, next, inv.0, none, w.count-is), omega (arith, inv.1, w.count-is)))
    ]

pub returns : goal.returns
returns c =
    let x = framed_view c.self.inside.recording c.self.inside.track.pulses c.self.inside.format c.self.inside.index.records in
    omega (
      arith,
      c.loop-place.invariant.0,
      fine_end c.self.inside.index.records c.loop-place.place (omega (arith, c.loop-place-test.false, c.len-place-end.ensures)),
      fine_by_records x,
      ap fine_frames c.self.view_is,
    )
