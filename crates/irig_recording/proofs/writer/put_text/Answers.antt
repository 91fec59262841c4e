use Rattle.std.proofs.Common.{◌≡◌, ◌+◌, ◌++◌, ◌∙◌, ◌∷◌, true, false, ap, arith, drop, sym, append_assoc}
use Rattle.std.proofs.lemmas.Result.{on_ok_weaker}
use Rattle.irig_recording.specs.{FileText.file_text, FileText.length_line, FileText.lines_at, Pulses.edges_of, Recording.recording_view}
use Rattle.irig_recording.proofs.{Items.drop-item, WrittenText.all_lines, WrittenText.all_put, WrittenText.last_or}
use Rattle.irig_recording.proofs.writer.put_text.Goals as goal

pub loop-index-preserved : goal.loop-index-preserved
loop-index-preserved c =
    let ps = c.pulses-pulses.result.now.items in let i = c.loop-index.index in let p = c.get_left-pulse.result in
    let text = c.loop-index.text.items in let rest = edges_of (drop (i + 1) ps) in
    let cut : drop i ps ≡ p ∷ drop (i + 1) ps = drop-item ps i p c.get_left-pulse.ensures in record {
      text = ap (λ bytes. bytes ++ all_lines true rest) c.in_ok-put_pulse.ensures.text
          ∙ append_assoc (text ++ lines_at true p.rise) (lines_at false p.fall) (all_lines true rest)
          ∙ append_assoc text (lines_at true p.rise) (lines_at false p.fall ++ all_lines true rest)
          ∙ ap (λ qs. text ++ all_lines true (edges_of qs)) (sym cut) ∙ c.loop-index.invariant.text;
      last = ap (λ n. last_or n rest) c.in_ok-put_pulse.ensures.last ∙ ap (λ qs. last_or c.loop-index.writer.last (edges_of qs)) (sym cut)
          ∙ c.loop-index.invariant.last;
    }

pub returns : goal.returns
returns c =
    let lawful = c.pulses-pulses.ensures.lawful in
    let exact = c.pulses-pulses.ensures.exact in
    on_ok_weaker c.finish.result
    (λ ends. ends ∙ ap (λ n. c.loop-index.text.items ++ length_line c.loop-index.writer.last n) c.length.ensures.exact
    ∙ all_put c.loop-index.index c.args.recording.now.micros c.args.text.now.items c.loop-index.text.items c.loop-index.writer.last
    c.pulses-pulses.result.now.items (omega (arith, c.loop-index-test.false, c.pulses-pulses.ensures.place, c.gap_at-index-end.ensures.place))
    c.loop-index.invariant.text c.loop-index.invariant.last (rw exact lawful.rises) (rw exact lawful.within)
    ∙ ap (λ es. c.args.text.now.items ++ file_text (recording_view c.args.recording.now.micros es)) exact)
    c.finish.ensures.text
