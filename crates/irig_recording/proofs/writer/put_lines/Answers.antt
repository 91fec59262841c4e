use Rattle.std.proofs.Common.{◌≡◌, ◌∙◌, ◌++◌, ◌∷◌, ◌+◌, ◌-◌, [], ℕ, List, set, length, decimal, ap, arith}
use mir.Val.{bool_byte}
use Rattle.irig_recording.specs.FileText.{EndsLines}
use Rattle.irig_recording.proofs.TextParts.{cut_line, level_byte, level_set, digits_before}
use Rattle.irig_recording.proofs.writer.put_lines.Goals.{After-put_digits-start}
use Rattle.irig_recording.proofs.writer.put_lines.Goals as goal

pub returns-clause-text : goal.returns-clause-text
returns-clause-text c =
    let some : c.put_digits-start.result + 25 - c.put_digits-start.result ≡ 25 = omega arith in
    let len : c.len-len.result ≡ length c.args.text.now.items = omega (arith, c.len-len.ensures) in
    let ends = level_set c.args.line.now (48 + bool_byte c.args.high) c.requires.lines.level c.requires.lines.pad c.requires.lines.ends in
    let written = c.put_digits-start.ensures.written ∙ ap (λ (l : List ℕ). 35 ∷ decimal c.args.edge ++ l) ends in
    c.truncate.ensures.items ∙ rw (c.in_ok-extend_from_slice.ensures.items, some, len) (
    cut_line c.args.text.now.items c.put_digits-start.new.line (decimal c.args.edge) (48 + bool_byte c.args.high) c.requires.lines.pad c.put_digits-start.result
    written c.put_digits-start.ensures.start
    ∙ ap (λ b. c.args.text.now.items ++ ((35 ∷ decimal c.args.edge ++ 10 ∷ []) ++ (b ∷ 33 ∷ 10 ∷ []))) (level_byte c.args.high)
    )

-- the line still ends with those of an edge
lines : (c : After-put_digits-start) → EndsLines c.put_digits-start.new.line
lines c = record {
  level = 48 + bool_byte c.args.high;
  pad = c.requires.lines.pad;
  ends = digits_before c.put_digits-start.new.line (set c.args.line.now 22 (48 + bool_byte c.args.high)) (decimal c.args.edge) c.put_digits-start.result
      c.put_digits-start.ensures.written c.put_digits-start.ensures.start
      ∙ level_set c.args.line.now (48 + bool_byte c.args.high) c.requires.lines.level c.requires.lines.pad c.requires.lines.ends;
}

pub returns-clause-lines : goal.returns-clause-lines
returns-clause-lines c = lines (goal.at.returns-clause-lines c).After-put_digits-start

pub returns-in_err-extend_from_slice-clause-lines : goal.returns-in_err-extend_from_slice-clause-lines
returns-in_err-extend_from_slice-clause-lines c = lines (goal.at.returns-in_err-extend_from_slice-clause-lines c).After-put_digits-start
