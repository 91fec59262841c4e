use Rattle.std.proofs.Common.{rules, ◌≡◌, ◌<◌, ◌++◌, ◌-◌, refl, ap, sym, ◌∙◌, arith, length, take, drop, replicate, slice_set, length-drop, length-set}
use Rattle.std.proofs.Common.{take_all}
use Rattle.irig_print.proofs.RowLemmas.{written-start, written-more, written-last, power-less}
use Rattle.irig_print.proofs.row.Row.put_hexadecimal.Goals as goal

pub loop-rest-init : goal.loop-rest-init
loop-rest-init c = (omega arith, search rules, search rules, written-start c.args.number (replicate 16 0) refl)

pub loop-rest-preserved : goal.loop-rest-preserved
loop-rest-preserved c =
    let l = c.loop-rest in
    let powers = power-less l.at l.rest l.invariant.2 c.loop-rest-test.true in
    let within : l.at < length l.digits = omega (arith, l.invariant.0, l.invariant.1) in (
      omega (arith, l.invariant.0),
      length-set l.digits l.at c.glyph.result ∙ l.invariant.1,
      powers.1,
      l.invariant.3
          ∙ written-more l.at l.rest c.glyph.result l.digits powers.0 within c.loop-rest-test.true c.glyph.ensures,
    )

pub returns-clause-text : goal.returns-clause-text
returns-clause-text c =
    let l = c.loop-rest in
    let within : l.at < length l.digits = omega (arith, l.invariant.0, l.invariant.1) in
    let whole : take (16 - l.at) (drop l.at (slice_set l.digits l.at c.glyph-2.result)) ≡ drop l.at (slice_set l.digits l.at c.glyph-2.result) =
    search (rules, take_all, length-drop, length-set) in
    c.put.ensures.text ∙ ap (λ t. c.args.self.now ++ t) (whole
    ∙ sym (l.invariant.3 ∙ written-last l.at l.rest c.glyph-2.result l.digits within c.loop-rest-test.false c.glyph-2.ensures))
