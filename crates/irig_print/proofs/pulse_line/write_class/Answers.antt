use Rattle.std.proofs.Common.{rules, ◌≡◌, ◌≤◌, ◌+◌, ◌-◌, ◌++◌, ◌∷◌, length, drop, slice_set, ap, sym, ◌∙◌, arith}
use Rattle.std.proofs.lemmas.List.{drop-append-le, drop-drop, drop-set}
use Rattle.irig_print.proofs.pulse_line.write_class.Goals as goal

pub returns-clause-written : goal.returns-clause-written
returns-clause-written c =
    let letters = c.class_word-start.result.0 in
    let start = c.class_word-start.result.1 in
    let behind = 10 ∷ drop c.args.end c.args.bytes.now in
    let short : start ≤ length letters = search rules in
    let inside : c.args.end - 1 + 1 ≡ c.args.end = omega (arith, c.requires.0) in
    let newline : drop (c.args.end - 1) (slice_set c.args.bytes.now (c.args.end - 1) 10) ≡ behind =
    drop-set c.args.bytes.now (c.args.end - 1) 10 (omega (arith, c.requires.0, c.requires.1)) ∙ ap (λ k. 10 ∷ drop k c.args.bytes.now) inside in
    let line : drop c.write_text.result c.write_text.new.bytes ≡ letters ++ behind = c.write_text.ensures.written ∙ ap (λ rest. letters ++ rest) newline in
    sym (drop-drop start c.write_text.result c.write_text.new.bytes)
    ∙ ap (drop start) line
    ∙ drop-append-le start letters behind short
    ∙ ap (λ word. word ++ behind) c.class_word-start.ensures.word
