use Rattle.std.proofs.Common.{arith}
use Rattle.irig_law.specs.Law.{IsAfter, IsBefore}
use Rattle.irig_law.proofs.Lists.{denies-inside, not-possible, possible}
use Rattle.irig_law.proofs.sides.sides_of.Goals as goal

pub second_last-requires-clause-none : goal.second_last-requires-clause-none
second_last-requires-clause-none c k low denies =
    c.last_before-last.ensures.none k low (denies-inside c.args.second.now k denies) denies

pub returns-then-last-denied-clause-before : goal.returns-then-last-denied-clause-before
returns-then-last-denied-clause-before c k =
    let a = c.first_from-denied in
    let b = c.last_before-last in (
      (λ less. absurd (omega (arith, less))),
      (λ (is : IsBefore c.args.first.now c.args.second.now k). absurd (not-possible c.args.first.now c.args.second.now a.result b.result is.place c.requires
          a.ensures.denies b.ensures.inside b.ensures.denies c.if-last-denied.true is.possible)),
    )

pub returns-then-last-denied-clause-after : goal.returns-then-last-denied-clause-after
returns-then-last-denied-clause-after c k inside =
    let a = c.first_from-denied in
    let b = c.last_before-last in (
      (λ high. absurd (omega (arith, high, inside))),
      (λ (is : IsAfter c.args.first.now c.args.second.now k). absurd (not-possible c.args.first.now c.args.second.now a.result b.result is.place c.requires
          a.ensures.denies b.ensures.inside b.ensures.denies c.if-last-denied.true is.possible)),
    )

pub returns-clause-before : goal.returns-clause-before
returns-clause-before c k =
    let a = c.first_from-denied in
    let b = c.last_before-last in (
      (λ less. record {
        place = a.result;
        possible = possible c.args.first.now c.args.second.now a.result b.result a.ensures.none b.ensures.none c.if-last-denied.false;
        shown = (c.second_last.ensures k).0 less;
      }),
      (λ (is : IsBefore c.args.first.now c.args.second.now k). (c.second_last.ensures k).1 is.shown),
    )

pub returns-clause-after : goal.returns-clause-after
returns-clause-after c k inside =
    let a = c.first_from-denied in
    let b = c.last_before-last in (
      (λ high. record {
        place = a.result;
        possible = possible c.args.first.now c.args.second.now a.result b.result a.ensures.none b.ensures.none c.if-last-denied.false;
        shown = (c.after_second.ensures k inside).0 high;
      }),
      (λ (is : IsAfter c.args.first.now c.args.second.now k). (c.after_second.ensures k inside).1 is.shown),
    )
