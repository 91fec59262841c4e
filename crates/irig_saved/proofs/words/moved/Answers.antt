use Rattle.std.proofs.Common.{◌≡◌, ◌<◌, ◌+◌, ◌++◌, ◌∷◌, [], ℕ, suc, List, true, not, drop, get_or, length, sym, ap, ◌∙◌, append_assoc, arith}
use Rattle.std.proofs.lemmas.List.{length-set, drop-set-lt, drop_more, take_rest}
use Rattle.std.specs.{Borrow.Bor, List.list_all}
use Rattle.irig_saved.specs.ChangeWords.{letters_from}
use Rattle.irig_saved.proofs.Moves.{skipped, taken, one_more, clear_next}
use Rattle.irig_saved.proofs.words.moved.Goals.{in_default, in-len1-up+then-first-letter, in-len1-up+else-first-letter}
use Rattle.irig_saved.proofs.words.moved.Goals as goal

pub loop-letter-preserved : goal.loop-letter-preserved
loop-letter-preserved c =
    let k = c.loop-letter.letter in
    let old = c.loop-letter.marks in
    let text = c.loop-letter.rest.now in
    let h = c.loop-letter.invariant in
    let within : k < length old = omega (arith, h.size, c.loop-letter-test.true) in
    elim c.if-rest-lt1.branch [
      | in_default w ↦
          rw (w.marks-is, w.rest-is) (record {
            size = h.size;
            clear = clear_next k old within h.clear;
            read = h.read;
            alone = λ ms n e. skipped k ms text (omega (arith, n, c.loop-letter-test.true)) (h.alone ms n e)
                (λ ys f. let long : length text ≡ suc (length ys) = ap length f in omega (arith, long, w.in_default.len_below));
          })
      | in-len1-up+then-first-letter w ↦
          let others : c.if-rest-lt1.rest.now ≡ drop 1 text = ap (λ (b : Bor (List ℕ)). b.now) w.rest-is ∙ take_rest text 1 in
          let cut : text ≡ (97 + k) ∷ drop 1 text = drop_more text 0 0 (omega (arith, w.in-len1-up.len_at_least))
          ∙ ap (λ b. b ∷ drop 1 text) w.if-first-letter.true in
          rw (w.marks-is, others) (record {
            size = length-set old k true ∙ h.size;
            clear = ap (list_all not) (drop-set-lt (k + 1) old k true (omega arith)) ∙ clear_next k old within h.clear;
            read = h.read ∙ ap (λ (l : List ℕ). letters_from 97 old ++ l) cut ∙ sym (append_assoc (letters_from 97 old) ((97 + k) ∷ []) (drop 1 text))
                ∙ ap (λ (l : List ℕ). l ++ drop 1 text) (sym (one_more 97 k old within h.clear));
            alone = λ ms n e. taken k ms (drop 1 text) (omega (arith, n, c.loop-letter-test.true)) (sym cut ∙ h.alone ms n e);
          })
      | in-len1-up+else-first-letter w ↦
          rw (w.marks-is, w.rest-is) (record {
            size = h.size;
            clear = clear_next k old within h.clear;
            read = h.read;
            alone = λ ms n e. skipped k ms text (omega (arith, n, c.loop-letter-test.true)) (h.alone ms n e)
                (λ ys f. w.if-first-letter.false (ap (λ (l : List ℕ). get_or l 0 0) f));
          })
    ]
