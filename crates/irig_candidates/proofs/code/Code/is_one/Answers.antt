use Rattle.std.proofs.Common.{◌==◌, ap, ◌∙◌}
use Rattle.irig_codes.specs.{Encoding.bit_of, Fields.number_in}
use Rattle.irig_candidates.specs.{Rows.field_of}
use Rattle.irig_candidates.proofs.BitLemmas.{bit_in, is_one-carried, kept-positive, says, value_at}
use Rattle.irig_candidates.proofs.code.Code.is_one.Goals as goal

pub is_one-requires : goal.is_one-requires
is_one-requires c = kept-positive c.args.self.now c.args.element c.in-Some.row c.in-Some.ensures

pub returns-in-None : goal.returns-in-None
returns-in-None c =
    ap (says (bit_in (value_at c.args.self.now c.args.time))) c.in-None.ensures ∙ is_one-carried c.args.self.now c.args.time c.args.element

pub returns-in-Some : goal.returns-in-Some
returns-in-Some c =
    let row = c.in-Some.row in
    c.is_one.ensures ∙ ap (λ v. bit_of (field_of row.field) row.weight v == 1) c.value.ensures
    ∙ ap (λ g. bit_of (field_of row.field) row.weight (number_in g (field_of row.field)) == 1) c.fields.ensures
    ∙ ap (λ f. bit_of (field_of row.field) row.weight (value_at f c.args.time row.field) == 1) c.self.view_is
    ∙ ap (says (bit_in (value_at c.args.self.now c.args.time))) c.in-Some.ensures ∙ is_one-carried c.args.self.now c.args.time c.args.element
