use Rattle.std.proofs.Common.{◌≡◌, ◌≤◌, arith, refl, true, false, ◌∙◌}
use Rattle.std.proofs.lemmas.Bool.Decides.{nat_tests}
use Rattle.irig_edit.specs.Edits.Conditions.{is_range}
use Rattle.irig_edit.proofs.EditLemmas.Toggles.{overfull_not, overfull}
use Rattle.irig_edit.proofs.edits.invert.plan.Goals as goal

pub returns-then-can_toggle-clause-allowed : goal.returns-then-can_toggle-clause-allowed
returns-then-can_toggle-clause-allowed c =
    let within : c.args.b ≤ c.args.present.now.state.micros = omega (arith, c.if-b-length.false, (c.length.ensures.length ∙ c.track.ensures.micros)) in
    let range : is_range c.args.a c.args.b c.args.present.now.state ≡ true = grind (arith, nat_tests) in
    let free = overfull_not c.args.a c.args.b c.args.present.now.state c.track.ensures.state (c.if-can_toggle.ensures.0 refl) in
    rw range (rw free refl)

pub returns-else-can_toggle-clause-refused : goal.returns-else-can_toggle-clause-refused
returns-else-can_toggle-clause-refused c =
    let within : c.args.b ≤ c.args.present.now.state.micros = omega (arith, c.if-b-length.false, (c.length.ensures.length ∙ c.track.ensures.micros)) in
    let range : is_range c.args.a c.args.b c.args.present.now.state ≡ true = grind (arith, nat_tests) in
    let over = overfull c.args.a c.args.b c.args.present.now.state c.track.ensures.state c.if-a-b.false within
    (λ can. let bad : false ≡ true = c.if-can_toggle.ensures.1 can in cc) in
    rw range (rw over refl)
