use Rattle.std.proofs.Common.{◌∙◌, refl, ap}
use Rattle.irig_vcd.specs.{Code.Section.section_view, Code.Variable.variable_view, Declarations.with_scale, Declarations.with_var}
use Rattle.irig_vcd.proofs.Steps.{other_head, scale_fault, scale_next, skipped_fault, skipped_next, var_fault, var_next}
use Rattle.irig_vcd.proofs.header.take_section.Goals as goal

pub returns-in-Ok-clause-read : goal.returns-in-Ok-clause-read
returns-in-Ok-clause-read c = λ h w head scale keeps. (
  with_scale h c.in-Ok.found,
  refl,
  keeps,
  scale_next h w c.args.tokens.now c.in-Ok.found c.scale.new.tokens (head ∙ ap section_view c.in-Timescale.is) c.in-Ok.ensures.exact,
)

pub returns-in-Err-clause-fault : goal.returns-in-Err-clause-fault
returns-in-Err-clause-fault c = λ h w head.
    scale_fault h w c.args.tokens.now c.in-Err.fault (head ∙ ap section_view c.in-Timescale.is) c.in-Err.ensures.exact

pub returns-in-Ok-var-clause-read : goal.returns-in-Ok-var-clause-read
returns-in-Ok-var-clause-read c = λ h w head scale keeps. (
  with_var h (variable_view c.in-Ok-var.variable),
  scale,
  c.with_variable.ensures h.vars keeps,
  var_next h w c.args.tokens.now (variable_view c.in-Ok-var.variable) c.var.new.tokens (head ∙ ap section_view c.in-Var.is) c.in-Ok-var.ensures.exact,
)

pub returns-in-Err-var-clause-fault : goal.returns-in-Err-var-clause-fault
returns-in-Err-var-clause-fault c = λ h w head.
    var_fault h w c.args.tokens.now c.in-Err-var.fault (head ∙ ap section_view c.in-Var.is) c.in-Err-var.ensures.exact

pub returns-in-Ok-close-clause-read : goal.returns-in-Ok-close-clause-read
returns-in-Ok-close-clause-read c = λ h w head scale keeps.
    let is = other_head c.args.head c.in_default.not-Timescale c.in_default.not-Var c.requires.last c.requires.stray in
    (h, scale, keeps, skipped_next h w c.args.tokens.now c.close.new.tokens (head ∙ is) c.in-Ok-close.ensures.exact)

pub returns-in-Err-close-clause-fault : goal.returns-in-Err-close-clause-fault
returns-in-Err-close-clause-fault c = λ h w head.
    let is = other_head c.args.head c.in_default.not-Timescale c.in_default.not-Var c.requires.last c.requires.stray in
    skipped_fault h w c.args.tokens.now c.in-Err-close.fault (head ∙ is) c.in-Err-close.ensures.exact
