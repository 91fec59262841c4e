use Rattle.std.proofs.Common.{◌∙◌, ap, arith, length, map, refl}
use Rattle.std.proofs.lemmas.List.{take_all}
use Rattle.irig_happenings.specs.Letters.{named}
use Rattle.irig_happenings.proofs.Named.{length-letters, named-are}
use Rattle.irig_happenings.proofs.roles.roles_of.Goals as goal

pub returns : goal.returns
returns c =
    let control = c.has_control-control.result in
    let sbs = c.has_sbs-sbs.result in
    let elements = c.letters-elements.result.now in
    let long = ap length c.letters-elements.ensures ∙ length-letters c.kind.result c.has_year.result in
    c.loop-letter.invariant
    ∙ (ap (map (named control sbs)) (take_all c.loop-letter.letter-index elements (omega (arith, long)))
    ∙ (ap (map (named control sbs)) c.letters-elements.ensures
    ∙ (named-are c.kind.result c.has_year.result control sbs
    ∙ rw (c.has_control-control.ensures, c.has_sbs-sbs.ensures, c.expression.ensures.value, c.kind.ensures, c.has_year.ensures) refl)))
