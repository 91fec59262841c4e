use Rattle.std.proofs.Common.{◌≡◌, ◌∙◌, ℕ, arith, false, sym, true}
use Rattle.irig_safety.specs.MendedFunctions.{is_function_mended}
use Rattle.irig_safety.proofs.ControlLemmas.{to_next}
use Rattle.irig_safety.proofs.mended_functions.are_functions_mended.Goals as goal

pub loop-function-preserved : goal.loop-function-preserved
loop-function-preserved c =
    let near = c.args.near.now in
    to_next (λ (k : ℕ). is_function_mended c.args.format c.args.others.now near.before c.args.former.now near.after c.args.frame.now k ≡ true)
    c.loop-function.function c.loop-function.invariant (sym c.is_function_mended.ensures ∙ c.if-not-is_function_mended.false)

pub returns-then-not-is_function_mended : goal.returns-then-not-is_function_mended
returns-then-not-is_function_mended c = (
  λ t. absurd (cc),
  λ all.
      let bad : true ≡ false =
      sym (all c.loop-function.function (omega (arith, c.loop-function-test.true, c.functions-function-end.ensures.value)))
      ∙ (sym c.is_function_mended.ensures ∙ c.if-not-is_function_mended.true) in
      absurd (cc),
)
