use Rattle.std.proofs.Common.{ℕ, List, ◌≤◌, get_or, sym, ap, subst, ◌∙◌}
use Rattle.irig_codes.specs.OnesDigits.{digits_in}
use Rattle.irig_codes.proofs.{OnesLemmas.digits-gathered, DigitBounds.digits-small, RoundTrip.decoded-parts}
use Rattle.irig_codes.proofs.decoding.decode_ones.Goals as goal

pub fields_from-fields-requires : goal.fields_from-fields-requires
fields_from-fields-requires c = λ d h. subst (λ (ns : List ℕ). get_or ns d 0 ≤ 131071) (sym c.read_digits-digits.ensures)
    (digits-small c.args.format c.args.ones d h)

pub returns : goal.returns
returns c = λ es h e.
    decoded-parts c.args.format es c.read_digits-digits.result c.fields_from-fields.result c.first_wrong-wrong.result c.disagrees.result c.first_stray.result
    c.note.result
    h (c.read_digits-digits.ensures ∙ ap (digits_in c.args.format) (sym e) ∙ sym (digits-gathered c.args.format es h)) c.fields_from-fields.ensures
    c.first_wrong-wrong.ensures c.disagrees.ensures (c.first_stray.ensures es h e) c.note.ensures
