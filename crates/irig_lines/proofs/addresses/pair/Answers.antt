use Rattle.std.proofs.Common.{arith, ◌≡◌, [], length, ap}
use Rattle.std.proofs.lemmas.Bool.Decides.{nat_tests}
use Rattle.irig_lines.proofs.addresses.pair.Goals.{else-is_empty-via-then-is_empty+else-is_empty-2, else-is_empty-via-else-is_empty}
use Rattle.irig_lines.proofs.{AddressCut.pair_addresses, KnownWords.finds_none}
use Rattle.irig_lines.proofs.addresses.pair.Goals as goal

pub returns-in_err-address : goal.returns-in_err-address
returns-in_err-address c =
    let some : c.args.first.now ≡ [] → c.args.second.now ≡ [] → ⊥ = λ e f.
    elim c.else-is_empty.branch [
      | else-is_empty-via-then-is_empty+else-is_empty-2 w ↦
          (let x = ap length f in grind (arith, nat_tests))
      | else-is_empty-via-else-is_empty w ↦ (let x = ap length e in grind (arith, nat_tests))
    ] in
    finds_none _ c.from_residual.result _ c.from_residual.ensures.1 (λ p h. c.in_err-address.ensures p.0 (pair_addresses _ _ p.0 p.1 some h).0)

pub returns-in_err-address-2 : goal.returns-in_err-address-2
returns-in_err-address-2 c =
    let some : c.args.first.now ≡ [] → c.args.second.now ≡ [] → ⊥ = λ e f.
    elim c.else-is_empty.branch [
      | else-is_empty-via-then-is_empty+else-is_empty-2 w ↦
          (let x = ap length f in grind (arith, nat_tests))
      | else-is_empty-via-else-is_empty w ↦ (let x = ap length e in grind (arith, nat_tests))
    ] in
    finds_none _ c.from_residual-in_err-address-2.result _ c.from_residual-in_err-address-2.ensures.1
    (λ p h. c.in_err-address-2.ensures p.1 (pair_addresses _ _ p.0 p.1 some h).1)
