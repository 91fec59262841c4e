use Rattle.std.proofs.Common.{rules, ◌≡◌, ◌==◌, length, false}
use Rattle.irig_lines.specs.{Addresses.IsAddress, declared.address.Address.Address}
use Rattle.irig_lines.proofs.{AddressCut.address_of, AddressCut.address_parts, KnownWords.finds_none}
use Rattle.irig_lines.proofs.addresses.address.Goals as goal

pub returns-in_err-base : goal.returns-in_err-base
returns-in_err-base c =
    let no : (a : Address) → IsAddress c.args.text.now a → ⊥ = λ a h.
    (let parts = address_parts c.args.text.now _ _ a c.cut.ensures.before c.cut.ensures.onward h in
    c.in_err-base.ensures a.base parts.0) in
    finds_none _ c.from_residual.result _ c.from_residual.ensures.1 no

pub returns-in_err-offset : goal.returns-in_err-offset
returns-in_err-offset c =
    let no : (a : Address) → IsAddress c.args.text.now a → ⊥ = λ a h.
    (let parts = address_parts c.args.text.now _ _ a c.cut.ensures.before c.cut.ensures.onward h in
    c.in_err-offset.ensures a.offset parts.1) in
    finds_none _ c.from_residual-in_err-offset.result _ c.from_residual-in_err-offset.ensures.1 no

pub returns : goal.returns
returns c =
    let some : (length c.args.text.now == 0) ≡ false = search rules in
    let a : Address = record { base = c.in_ok-base.field-0; offset = c.in_ok-offset.field-0 } in
    let is : IsAddress c.args.text.now a =
    address_of c.args.text.now _ _ a some c.cut.ensures.before c.cut.ensures.onward c.in_ok-base.ensures c.in_ok-offset.ensures in
    search (rules, is)
