use Rattle.std.proofs.Common.{◌≡◌, ℕ, suc, Option, length, ◌+◌, ◌-◌, ap, sym, ◌∙◌, arith}
use Rattle.irig_stamps.specs.HeaderUnits.{or_else, unit_among}
use Rattle.irig_stamps.proofs.Units.{unit_step}
use Rattle.irig_stamps.proofs.header_unit.header_unit.Goals as goal

pub returns-in-Some : goal.returns-in-Some
returns-in-Some c =
    let n = length c.args.name.now - (c.loop-passed.passed + 1) in
    let one : length c.args.name.now - c.loop-passed.passed ≡ suc n = omega (arith, c.loop-passed-test.true) in
    sym (c.loop-passed.invariant
    ∙ (ap (λ (k : ℕ). unit_among k c.loop-passed.left.now) one
    ∙ (unit_step n c.loop-passed.left.now _ _ _ c.word_unit.result c.cut_word.ensures.before c.cut_word.ensures.word
    c.cut_word-in-loop-passed.ensures.word c.word_unit.ensures
    ∙ ap (λ (x : Option ℕ). or_else x (unit_among n c.cut_word.result.0.now)) c.in-Some.is)))

pub loop-passed-preserved : goal.loop-passed-preserved
loop-passed-preserved c =
    let n = length c.args.name.now - (c.loop-passed.passed + 1) in
    let one : length c.args.name.now - c.loop-passed.passed ≡ suc n = omega (arith, c.loop-passed-test.true) in
    c.loop-passed.invariant
    ∙ (ap (λ (k : ℕ). unit_among k c.loop-passed.left.now) one
    ∙ (unit_step n c.loop-passed.left.now _ _ _ c.word_unit.result c.cut_word.ensures.before c.cut_word.ensures.word
    c.cut_word-in-loop-passed.ensures.word c.word_unit.ensures
    ∙ ap (λ (x : Option ℕ). or_else x (unit_among n c.cut_word.result.0.now)) c.in-None.is))
