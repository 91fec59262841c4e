use Rattle.std.proofs.Common.{List, ℕ, inl, subst, sym}
use Rattle.irig_stamps.specs.{Aligned.tally_of, Aligned.with_column, Runs.Ends, TrackSettings.with_track}
use Rattle.std.specs.Io.KnownBytes.{Consumes}
use Rattle.irig_stamps.proofs.aligning.align_by_name.Goals as goal

pub returns : goal.returns
returns g c =
    let from = g.R.Read.remaining c.args.lines.now in
    let mid = g.R.Read.remaining c.find.new.lines in
    let found = c.in-Ok.ensures.found in
    let read = subst (λ (t : List ℕ). Consumes from mid t) (sym c.as_slice-before.ensures.value) found.0.read in
    inl (
      c.in-Ok.found.column,
      mid,
      c.in-Ok.found.bytes.items,
      found,
      record {
        pulses = c.of-pulses.result.track.pulses;
        are = c.of-pulses.ensures.edges;
        ends = subst (λ (micros : ℕ). Ends c.args.format c.of-pulses.result.track.pulses
            (with_track c.args.format micros c.of-pulses.result.track.pulses (with_column c.args.settings.now c.in-Ok.found.column))
            from (g.R.Read.remaining c.align_track.new.lines) (g.W.Write.contents c.args.out.now) (g.W.Write.contents c.align_track.new.out)
            (tally_of c.align_track.result))
            c.of-pulses.ensures.length (c.align_track.ensures.ends from read);
        stands = c.align_track.ensures.stands;
      },
    )
