use Rattle.std.proofs.Common.{Bool, ◌/◌, ◌%◌, ap, ◌∙◌, arith}
use Rattle.irig_codes.specs.Fields.{part}
use Rattle.irig_codes.proofs.FieldLemmas.{then_some-part}
use Rattle.irig_moment.proofs.FieldRanges.{parts-fit}
use Rattle.irig_moment.proofs.generated.fields_at.Goals as goal

pub returns-clause-fit : goal.returns-clause-fit
returns-clause-fit c =
    let t = c.args.time in
    let year = c.year_and_place-year.result.0 in
    parts-fit c.args.format t c.year_and_place-year.result.1 year c.args.control _ _ _ _ c.requires.in_day c.requires.starts
    (omega (arith, c.year_and_place-year.ensures.place)) c.year_and_place-year.ensures.range c.requires.controls
    (c.then_some.ensures ∙ then_some-part _ _ ∙ ap (λ (b : Bool). part b (t % 100)) c.has_hundredths.ensures)
    (c.then_some-2.ensures ∙ then_some-part _ _ ∙ ap (λ (b : Bool). part b (year % 100)) c.has_year.ensures)
    (c.then_some-3.ensures ∙ then_some-part _ _ ∙ ap (λ (b : Bool). part b (t / 100)) c.has_sbs.ensures)
    (c.then_some-4.ensures ∙ then_some-part _ _ ∙ ap (λ (b : Bool). part b c.args.control) c.has_control.ensures)
