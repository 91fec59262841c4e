use Rattle.irig_recording.proofs.writer.put_header.Goals as goal
use Rattle.irig_recording.specs.FileText.{head_text, level_line}
use Rattle.irig_recording.proofs.TextParts.{three_parts, level_byte}
use Rattle.std.proofs.Common.{◌∷◌, ◌++◌, codes, [], ◌∙◌, ap}

pub returns-clause-text : goal.returns-clause-text
unfolding head_text
returns-clause-text c =
    three_parts head_text (level_line c.args.high) (codes "$end\n") _ _ _ _ c.in_ok-extend_from_slice.ensures.items
    (c.in_ok-extend_from_slice-2.ensures.items ∙ ap (λ n. c.extend_from_slice.new.self.items ++ n ∷ 33 ∷ 10 ∷ []) (level_byte c.args.high))
    c.in_ok-extend_from_slice-3.ensures.items
