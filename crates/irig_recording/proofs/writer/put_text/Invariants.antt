use Rattle.std.proofs.Common.{◌≡◌, ◌++◌, drop, true}
use Rattle.irig_recording.specs.{FileText.header_text, FileText.begins_high, Pulses.edges_of}
use Rattle.irig_recording.proofs.WrittenText.{last_or, all_lines}
use Rattle.irig_recording.proofs.writer.put_text.Given as goal

abbrev pub invariant-loop-index : goal.invariant-loop-index
invariant-loop-index l = record {
  text : l.text.items ++ all_lines true (edges_of (drop l.index l.pulses.items))
      ≡ l.fn.text.items ++ (header_text (begins_high (edges_of l.pulses.items)) ++ all_lines true (edges_of l.pulses.items));
  last : last_or l.writer.last (edges_of (drop l.index l.pulses.items)) ≡ last_or 0 (edges_of l.pulses.items);
}
