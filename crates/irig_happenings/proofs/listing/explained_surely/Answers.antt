use Rattle.std.proofs.Common.{◌∙◌, false}
use Rattle.std.proofs.lemmas.Result.{IfOk-weaker}
use Rattle.irig_happenings.proofs.Listed.{is_explained}
use Rattle.irig_happenings.proofs.listing.explained_surely.Goals as goal

pub margins-requires-clause-same : goal.margins-requires-clause-same
margins-requires-clause-same c = (c.in_ok-tables.ensures.of.0, c.in_ok-tables.ensures.of.1 ∙ c.rises.ensures)

pub margins-requires-clause-possible : goal.margins-requires-clause-possible
margins-requires-clause-possible c =
    let is = c.in_ok-tables.ensures.of.1 ∙ c.rises.ensures in
    rw c.as_slice-claims.ensures.value (rw is at c.in_ok-explanation.ensures.possible)

pub margins-requires-clause-cheapest : goal.margins-requires-clause-cheapest
margins-requires-clause-cheapest c =
    let is = c.in_ok-tables.ensures.of.1 ∙ c.rises.ensures in rw (c.in_ok-tables.ensures.of.0, is) at c.in_ok-explanation.ensures.least

pub returns : goal.returns
returns c =
    let p = c.args.prices.now in
    let tables = c.in_ok-tables.tables in
    let x = c.in_ok-explanation.ensures in
    let of = c.in_ok-tables.ensures.of in
    let claims = c.as_slice-claims.ensures.value in
    let sure = rw claims at c.in_ok-margins.ensures in
    IfOk-weaker c.parts_of.result _ _ (λ parts listed. is_explained p tables.costs.now tables.rises c.in_ok-explanation.explanation false
    c.in_ok-margins.margins.items parts.items of.0 (of.1 ∙ c.rises.ensures) x.possible x.exact x.least sure
    (rw (claims, c.as_slice.ensures.value) at listed))
    c.parts_of.ensures
