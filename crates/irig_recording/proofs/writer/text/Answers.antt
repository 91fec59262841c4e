use Rattle.std.proofs.Common.{◌≤◌, ◌^◌, ◌++◌, ◌∙◌, ap, sym, subst, length, List, ℕ, arith}
use Rattle.irig_recording.specs.FileText.{file_text}
use Rattle.irig_recording.proofs.{PulseEdges.length-edges_of, TextLength.length-file_text}
use Rattle.irig_recording.proofs.writer.text.Goals as goal

pub overflow_mul-gap_at : goal.overflow_mul-gap_at
overflow_mul-gap_at c = record {
  fits = omega (
    arith,
    length-edges_of c.pulses.result.now.items,
    ap length c.pulses.ensures.exact,
    c.pulses.ensures.lawful.few,
    c.pulses.ensures.place,
    c.gap_at.ensures.place,
  );
}

pub overflow_add-gap_at : goal.overflow_add-gap_at
overflow_add-gap_at c = record {
  fits = omega (
    arith,
    length-edges_of c.pulses.result.now.items,
    ap length c.pulses.ensures.exact,
    c.pulses.ensures.lawful.few,
    c.pulses.ensures.place,
    c.gap_at.ensures.place,
  );
}

pub returns-clause-written : goal.returns-clause-written
returns-clause-written c = c.in_ok-put_text.ensures ∙ ap (λ (text : List ℕ). text ++ file_text c.args.recording.now) c.in_ok-text.ensures.items

pub returns-clause-short : goal.returns-clause-short
returns-clause-short c =
    let written = c.in_ok-put_text.ensures ∙ ap (λ (text : List ℕ). text ++ file_text c.args.recording.now) c.in_ok-text.ensures.items in
    subst (λ (bytes : List ℕ). length bytes ≤ 2 ^ 28) (sym written) (length-file_text c.args.recording.now c.pulses.ensures.lawful)
