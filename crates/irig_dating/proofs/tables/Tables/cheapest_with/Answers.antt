use Rattle.std.proofs.Common.{◌≡◌, ◌+◌, get_or, arith, subst}
use Rattle.irig_dating.specs.Sure.{IsWith}
use Rattle.irig_dating.proofs.Both.{after_entry, before_entry, least_with, some_with}
use Rattle.irig_dating.proofs.tables.Tables.cheapest_with.Goals as goal

pub least_at-requires : goal.least_at-requires
least_at-requires g c =
    let self = c.args.self.now in let is = rw c.as_slice.ensures.value at c.index-as_slice-bit.is in
    rw c.as_slice-before.ensures.value
    (before_entry (g.C.Costs.prices self.costs.now) self.bits c.args.bit c.args.candidate self.before.items c.index-as_slice-bit.result
    c.requires.there c.requires.candidate c.requires.full.before_all c.requires.full.before_rows is).0

pub least_at-requires-2 : goal.least_at-requires-2
least_at-requires-2 g c =
    let self = c.args.self.now in let is = rw c.as_slice-2.ensures.value at c.index-as_slice-self.is in
    rw c.as_slice-after.ensures.value
    (after_entry (g.C.Costs.prices self.costs.now) self.bits c.args.bit c.args.candidate self.after.items c.index-as_slice-self.result
    c.requires.there c.requires.candidate c.requires.full.after_all c.requires.full.after_rows is).0

pub overflow_add-result : goal.overflow_add-result
overflow_add-result g c =
    let self = c.args.self.now in let p = g.C.Costs.prices self.costs.now in
    let before_is = rw c.as_slice.ensures.value at c.index-as_slice-bit.is in
    let before = (before_entry p self.bits c.args.bit c.args.candidate self.before.items c.index-as_slice-bit.result c.requires.there
    c.requires.candidate c.requires.full.before_all c.requires.full.before_rows before_is).1 in
    let x = rw c.as_slice-before.ensures.value at c.least_at.ensures in
    omega (arith, before.small, x, c.requires.few, c.from-pay.ensures)

pub overflow_add-result-2 : goal.overflow_add-result-2
overflow_add-result-2 g c =
    let self = c.args.self.now in let p = g.C.Costs.prices self.costs.now in let bits = self.bits in let t = c.args.bit in
    let e = c.args.candidate in
    let before_is = rw c.as_slice.ensures.value at c.index-as_slice-bit.is in
    let after_is = rw c.as_slice-2.ensures.value at c.index-as_slice-self.is in
    let before = (before_entry p bits t e self.before.items c.index-as_slice-bit.result c.requires.there c.requires.candidate
    c.requires.full.before_all c.requires.full.before_rows before_is).1 in
    let after = (after_entry p bits t e self.after.items c.index-as_slice-self.result c.requires.there c.requires.candidate
    c.requires.full.after_all c.requires.full.after_rows after_is).1 in
    let x = rw c.as_slice-before.ensures.value at c.least_at.ensures in
    let y = rw c.as_slice-after.ensures.value at c.least_at-2.ensures in
    omega (arith, before.small, after.small, x, y, c.requires.few, c.requires.there, c.from-pay.ensures)

pub returns-clause-least : goal.returns-clause-least
returns-clause-least g c = λ cs is has.
    let self = c.args.self.now in let p = g.C.Costs.prices self.costs.now in let bits = self.bits in let t = c.args.bit in
    let e = c.args.candidate in
    let before_is = rw c.as_slice.ensures.value at c.index-as_slice-bit.is in
    let after_is = rw c.as_slice-2.ensures.value at c.index-as_slice-self.is in
    let before = (before_entry p bits t e self.before.items c.index-as_slice-bit.result c.requires.there c.requires.candidate
    c.requires.full.before_all c.requires.full.before_rows before_is).1 in
    let after = (after_entry p bits t e self.after.items c.index-as_slice-self.result c.requires.there c.requires.candidate
    c.requires.full.after_all c.requires.full.after_rows after_is).1 in
    let x = rw c.as_slice-before.ensures.value at c.least_at.ensures in
    let y = rw c.as_slice-after.ensures.value at c.least_at-2.ensures in
    let low = least_with p bits t e _ _ c.requires.there before after cs is has in omega (arith, low, x, y, c.from-pay.ensures, c.pay.ensures)

pub returns-clause-exact : goal.returns-clause-exact
returns-clause-exact g c =
    let self = c.args.self.now in let p = g.C.Costs.prices self.costs.now in let bits = self.bits in let t = c.args.bit in
    let e = c.args.candidate in
    let before_is = rw c.as_slice.ensures.value at c.index-as_slice-bit.is in
    let after_is = rw c.as_slice-2.ensures.value at c.index-as_slice-self.is in
    let before = (before_entry p bits t e self.before.items c.index-as_slice-bit.result c.requires.there c.requires.candidate
    c.requires.full.before_all c.requires.full.before_rows before_is).1 in
    let after = (after_entry p bits t e self.after.items c.index-as_slice-self.result c.requires.there c.requires.candidate
    c.requires.full.after_all c.requires.full.after_rows after_is).1 in
    let x = rw c.as_slice-before.ensures.value at c.least_at.ensures in
    let y = rw c.as_slice-after.ensures.value at c.least_at-2.ensures in
    let one = get_or c.index-as_slice-bit.result.items e 0 in let other = get_or c.index-as_slice-self.result.items e 0 in
    let same : one + p.pay t e + other ≡ c.least_at.result + c.from-pay.result + c.least_at-2.result =
    omega (arith, x, y, c.from-pay.ensures, c.pay.ensures) in
    subst (IsWith p bits t e) same (some_with p bits t e one other c.requires.there c.requires.candidate before after)
