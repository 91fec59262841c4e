use Rattle.irig_lines.specs.{Addresses.IsRange, declared.range.Range.Range}
use Rattle.irig_lines.proofs.{AddressCut.pair_range, AddressCut.pair_refused, AddressCut.uncut_range, WordLemmas.rest_whole, KnownWords.finds_none}
use Rattle.irig_lines.proofs.addresses.range.Goals as goal

pub returns-in_err-address_or_cursor-in-empty : goal.returns-in_err-address_or_cursor-in-empty
returns-in_err-address_or_cursor-in-empty c =
    let no : (r : Range) → IsRange c.args.text.now r → ⊥ = λ r h.
    (let found = uncut_range c.args.text.now _ r c.cut.ensures.onward c.in-empty.len_below h in
    c.in_err-address_or_cursor-in-empty.ensures found.0 found.1) in
    finds_none _ c.from_residual.result _ c.from_residual.ensures.1 no

pub returns-in_err-first-in-len1-up : goal.returns-in_err-first-in-len1-up
returns-in_err-first-in-len1-up c =
    let none = c.from_residual-in_err-first-in-len1-up in
    finds_none _ none.result _ none.ensures.1 (pair_refused c.args.text.now _ _ _ c.cut.ensures.before c.cut.ensures.onward c.in-len1-up.len_at_least
    (rest_whole c.cut.result.1.now 1) (λ a b. c.in_err-first-in-len1-up.ensures (a, b)))

pub returns-in_ok-first-in-len1-up : goal.returns-in_ok-first-in-len1-up
returns-in_ok-first-in-len1-up c =
    pair_range c.args.text.now _ _ _ _ _ c.cut.ensures.before c.cut.ensures.onward c.in-len1-up.len_at_least (rest_whole c.cut.result.1.now 1)
    c.in_ok-first-in-len1-up.ensures
