use Rattle.std.proofs.Common.{◌∙◌, [], ap, refl, true}
use Rattle.std.proofs.lemmas.Result.{IfOk-weaker}
use Rattle.irig_happenings.specs.Parts.{parts_of}
use Rattle.irig_happenings.proofs.Listed.{is_explained}
use Rattle.irig_happenings.proofs.listing.explained.Goals as goal

pub returns : goal.returns
returns c =
    let p = c.args.prices.now in
    let x = c.in_ok-explanation.ensures in
    IfOk-weaker c.parts_of.result _ _ (λ parts listed. is_explained p p c.rises.result c.in_ok-explanation.explanation true [] parts.items refl
    c.rises.ensures x.possible x.exact x.least refl (listed ∙ ap (parts_of p []) c.as_slice.ensures.value))
    c.parts_of.ensures
