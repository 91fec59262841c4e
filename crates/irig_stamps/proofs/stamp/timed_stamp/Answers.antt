use Rattle.std.proofs.Common.{◌≡◌, ◌++◌, ◌∷◌, [], true, false, cond, Some, sym, ap, ◌∙◌}
use Rattle.std.specs.Prelude.{decimal}
use Rattle.irig_stamps.specs.Offs.{cell, is_wide, off_at, wide_word}
use Rattle.irig_stamps.specs.Texts.{word_of}
use Rattle.irig_stamps.proofs.stamp.timed_stamp.Goals as goal

pub returns-then-is_wide-clause-word : goal.returns-then-is_wide-clause-word
returns-then-is_wide-clause-word c =
    let s = c.args.settings.now in
    let x = c.args.moment.now in
    let at = off_at c.args.format c.args.pulses.now.track.pulses s x in
    let off = c.off_of-off.ensures.off s.century _ _ c.requires.known in
    let wide : is_wide s.within at ≡ true = sym (c.is_wide.ensures ∙ ap (is_wide s.within) off) ∙ c.if-is_wide.true in
    ap (λ w. w ++ cell s (45 ∷ [])) c.wide_word.ensures
    ∙ sym (ap (λ v. cond v (wide_word s.why ++ cell s (45 ∷ [])) (word_of s (Some x.time) ++ cell s (decimal at))) wide)

pub returns-else-is_wide-clause-word : goal.returns-else-is_wide-clause-word
returns-else-is_wide-clause-word c =
    let s = c.args.settings.now in
    let x = c.args.moment.now in
    let at = off_at c.args.format c.args.pulses.now.track.pulses s x in
    let off = c.off_of-off.ensures.off s.century _ _ c.requires.known in
    let near : is_wide s.within at ≡ false = sym (c.is_wide.ensures ∙ ap (is_wide s.within) off) ∙ c.if-is_wide.false in
    ap (λ n. word_of s (Some x.time) ++ cell s (decimal n)) off
    ∙ sym (ap (λ v. cond v (wide_word s.why ++ cell s (45 ∷ [])) (word_of s (Some x.time) ++ cell s (decimal at))) near)
