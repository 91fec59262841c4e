use Rattle.std.proofs.Common.{ℕ, inl, subst}
use Rattle.irig_stamps.specs.{Aligned.tally_of, Runs.Ends, TrackSettings.with_track}
use Rattle.std.proofs.KnownBytes.{Consumes-nil}
use Rattle.irig_stamps.proofs.aligning.align_by_number.Goals as goal

pub returns : goal.returns
returns g c = inl (record {
  pulses = c.of-pulses.result.track.pulses;
  are = c.of-pulses.ensures.edges;
  ends = subst (λ (micros : ℕ). Ends c.args.format c.of-pulses.result.track.pulses
      (with_track c.args.format micros c.of-pulses.result.track.pulses c.args.settings.now)
      (g.R.Read.remaining c.args.lines.now) (g.R.Read.remaining c.align_track.new.lines) (g.W.Write.contents c.args.out.now)
      (g.W.Write.contents c.align_track.new.out) (tally_of c.align_track.result))
      c.of-pulses.ensures.length (c.align_track.ensures.ends (g.R.Read.remaining c.args.lines.now) (Consumes-nil _));
  stands = c.align_track.ensures.stands;
})
