use Rattle.irig_recording.proofs.RecordingLemmas.{odd_length, even_length}
use Rattle.irig_recording.proofs.recording.is_recording.Goals as goal

pub returns-then-edges-ne0 : goal.returns-then-edges-ne0
returns-then-edges-ne0 c = (λ never. cc, λ lawful. absurd (odd_length c.args.edges.now lawful.even c.if-edges-ne0.true))

pub returns : goal.returns
returns c = (
  λ yes. let h = c.is_rising.ensures.0 yes in record {
    short = c.if-length-gt-LENGTH_LIMIT.false;
    few = c.if-edges-gt-EDGES_LIMIT.false;
    even = even_length c.args.edges.now c.if-edges-ne0.false;
    rises = h.0;
    within = h.1;
  },
  λ lawful. c.is_rising.ensures.1 (lawful.rises, lawful.within),
)
