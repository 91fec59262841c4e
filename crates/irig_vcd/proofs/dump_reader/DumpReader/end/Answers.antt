use Rattle.std.proofs.Common.{◌≡◌, ◌∙◌, Err, None, inl, ap, sym, subst}
use Rattle.irig_vcd.specs.{Code.DumpReader.HasRead, declared.progress.Progress.Progress}
use Rattle.std.proofs.lemmas.Result.{IfOk-weaker}
use Rattle.irig_vcd.proofs.PartSteps.{if_err}
use Rattle.irig_vcd.proofs.dump_reader.DumpReader.end.Goals as goal

pub returns-in-Ok-clause-read : goal.returns-in-Ok-clause-read
returns-in-Ok-clause-read c = IfOk-weaker c.finish.result _ _ (λ x says wire bytes r.
    rw (← (c.read_rest.ensures.extent ∙ ap (λ (d : Progress). d.reading.trace.extent) c.self.view_is)) (let h = c.in-Ok.ensures.read wire bytes (subst
    (λ d. HasRead wire bytes d) (sym c.self.view_is) r) in
    says wire bytes c.read_rest.new.progress.code.items h.0 h.1)) c.finish.ensures.read

pub returns-in-Ok-clause-fault : goal.returns-in-Ok-clause-fault
returns-in-Ok-clause-fault c = if_err c.finish.result (λ e says wire bytes r.
    rw (← (c.read_rest.ensures.extent ∙ ap (λ (d : Progress). d.reading.trace.extent) c.self.view_is)) (let h = c.in-Ok.ensures.read wire bytes (subst
    (λ d. HasRead wire bytes d) (sym c.self.view_is) r) in
    says wire bytes c.read_rest.new.progress.code.items h.0 h.1)) c.finish.ensures.fault

pub returns-in-Ok-clause-memory : goal.returns-in-Ok-clause-memory
returns-in-Ok-clause-memory c = λ memory wire bytes r.
    let h = c.in-Ok.ensures.read wire bytes (subst (λ d. HasRead wire bytes d) (sym c.self.view_is) r) in
    inl (c.finish.ensures.memory memory wire bytes c.read_rest.new.progress.code.items h.0)

pub returns-in-Err-clause-heading : goal.returns-in-Err-clause-heading
returns-in-Err-clause-heading c = λ wire bytes e r none is.
    let read = subst (λ d. HasRead wire bytes d) (sym c.self.view_is) r in
    let new = subst (λ (d : Progress). d.unit ≡ None) (sym c.self.view_is) none in
    let says = c.in-Err.ensures.heading wire bytes e read new is in
    let same : c.in-Err.fault ≡ e = cc in
    ap Err same
