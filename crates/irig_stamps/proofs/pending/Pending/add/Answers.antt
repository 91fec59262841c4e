use Rattle.std.proofs.Common.{◌≡◌, ◌++◌, ◌∷◌, Bool, true, false, ℕ, List, Option, sym, ap, ◌∙◌, subst, arith}
use Rattle.std.specs.Prelude.{if◌then◌else◌}
use Rattle.irig_stamps.specs.declared.stretch.Stretch.{Stretch}
use Rattle.irig_stamps.specs.Joined.{stretch, touches, with_more}
use Rattle.irig_stamps.specs.{HoleRows.hole_row, HoleTexts.IsShown}
use Rattle.irig_stamps.proofs.HoleSteps.{counted-first, counted-next}
use Rattle.irig_stamps.proofs.pending.Pending.add.Goals as goal

pub returns-in_default-clause-count : goal.returns-in_default-clause-count
returns-in_default-clause-count c = λ stretches shown old.
    let there = subst (λ (l : Option Stretch). IsShown c.args.json c.args.comma l c.args.self.now.text.items stretches) c.in_default.is shown in
    omega (arith, counted-first stretches c.args.next there.0)

pub returns-then-touches-clause-count : goal.returns-then-touches-clause-count
returns-then-touches-clause-count c = λ stretches shown old.
    let there = subst (λ (l : Option Stretch). IsShown c.args.json c.args.comma l c.args.self.now.text.items stretches) c.in-Some.is shown in
    omega (arith, old, counted-next stretches there.0 c.in-Some.last c.args.next true there.1 (sym c.touches.ensures ∙ c.if-touches.true))

pub returns-clause-count : goal.returns-clause-count
returns-clause-count c = λ stretches shown old.
    let there = subst (λ (l : Option Stretch). IsShown c.args.json c.args.comma l c.args.self.now.text.items stretches) c.in-Some.is shown in
    omega (arith, old, counted-next stretches there.0 c.in-Some.last c.args.next false there.1 (sym c.touches.ensures ∙ c.if-touches.false))

pub returns-clause-shown : goal.returns-clause-shown
returns-clause-shown c = λ stretches shown.
    let json = c.args.json in
    let comma = c.args.comma in
    let last = c.in-Some.last in
    let next = c.args.next in
    let text = c.args.self.now.text.items in
    let there = subst (λ (l : Option Stretch). IsShown json comma l text stretches) c.in-Some.is shown in
    let none : touches last next ≡ false = sym c.touches.ensures ∙ c.if-touches.false in (
      last ∷ there.0,
      ap (λ (l : List Stretch). with_more l next) there.1
          ∙ ap (λ (b : Bool). if b then stretch last.begin next.end last.why ∷ there.0 else next ∷ last ∷ there.0) none,
      c.in_ok-put_row.ensures ∙ ap (λ (t : List ℕ). t ++ hole_row json comma last) there.2,
    )
