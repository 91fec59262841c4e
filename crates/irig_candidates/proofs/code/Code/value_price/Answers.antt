use Rattle.std.proofs.Common.{cond, ap, ◌∙◌}
use Rattle.irig_candidates.specs.{Bits.is_one_in, Bits.price, Rows.field_of}
use Rattle.irig_candidates.proofs.BitLemmas.{carries-none, kept-positive, kept-price}
use Rattle.irig_candidates.proofs.code.Code.value_price.Goals as goal

pub price-requires : goal.price-requires
price-requires c = kept-positive c.args.self.now c.args.bit.now.element c.in-Some.row c.in-Some.ensures

pub returns-in-None-clause-value : goal.returns-in-None-clause-value
returns-in-None-clause-value c =
    let b = c.args.bit.now in
    ap (λ t. cond t (price b (is_one_in c.args.self.now (field_of c.args.field) c.args.value b.element)) 0)
    (carries-none c.args.self.now c.args.field b.element c.in-None.ensures)

pub returns-in-Some-clause-value : goal.returns-in-Some-clause-value
returns-in-Some-clause-value c =
    c.price.ensures.value ∙ kept-price c.args.self.now c.args.field c.args.value c.args.bit.now c.in-Some.row c.in-Some.ensures
