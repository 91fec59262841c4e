use Rattle.std.proofs.Common.{◌≡◌, ◌∙◌, ℕ, Bool, true, false, cond, List, Ok, refl, ap, [], ◌∷◌}
use Rattle.irig_vcd.specs.{Answer.◌>>=◌, Code.Section.after_end, Code.Section.end_read, Sections.is_end, Words.Word}
use Rattle.irig_vcd.proofs.section.close.Goals as goal

same_end : (ends : Bool) (offset : ℕ) (ws : List Word) → after_end ws ≡ (end_read ws >>= λ x. Ok x.1)
    → (cond ends (Ok ws) (after_end ws)) ≡ ((cond ends (Ok (offset, ws)) (end_read ws)) >>= λ x. Ok x.1)
same_end true offset ws ih = refl
same_end false offset ws ih = ih

-- the words after an end, without its place
only_words : (ws : List Word) → after_end ws ≡ (end_read ws >>= λ x. Ok x.1)
only_words [] = refl
only_words (w ∷ ws) = same_end (is_end w.bytes) w.offset ws (only_words ws)

pub returns-in-Ok-clause-exact : goal.returns-in-Ok-clause-exact
returns-in-Ok-clause-exact c = only_words c.args.tokens.now ∙ ap (λ r. r >>= λ x. Ok x.1) c.in-Ok.ensures.exact

pub returns-in-Err-clause-exact : goal.returns-in-Err-clause-exact
returns-in-Err-clause-exact c = only_words c.args.tokens.now ∙ ap (λ r. r >>= λ x. Ok x.1) c.in-Err.ensures.exact
