use Rattle.std.proofs.Common.{◌∷◌, []}
use Rattle.std.proofs.lemmas.List.Elements.{filter-append}
use Rattle.irig_vcd.specs.{Code.Variable.variable_view, Wire.by_reference, Wire.by_code, Answer.name_of}
use Rattle.irig_vcd.proofs.choice.with_variable.Goals as goal

pub returns : goal.returns
returns c = λ vs h. record {
  by_reference = rw (filter-append (by_reference (name_of c.args.wire)) vs (variable_view c.args.variable ∷ []), ← c.has_reference.ensures)
      (c.put_if.ensures _ h.by_reference);
  by_code = rw (filter-append (by_code (name_of c.args.wire)) vs (variable_view c.args.variable ∷ []), ← c.has_code.ensures)
      (c.put_if-2.ensures _ h.by_code);
}
