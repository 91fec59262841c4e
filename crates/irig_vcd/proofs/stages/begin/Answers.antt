use Rattle.std.proofs.Common.{◌≡◌, ◌++◌, ◌∙◌, List, Ok, refl, inl, inr, ap, sym, subst, ℕ}
use Rattle.std.proofs.lemmas.Result.{err_from_is_err_and}
use Rattle.irig_vcd.specs.{Answer.name_of, Code.DumpReader.HasReadWords, Declarations.declarations_of, Scan.scan_words, Scan.start, Words.words_of}
use Rattle.irig_vcd.proofs.stages.begin.Goals as goal
use Rattle.irig_vcd.proofs.stages.begin.Goals.{In-Ok}

-- the declarations, as they were read
begun : (c : In-Ok) → declarations_of (name_of c.args.wire) (words_of c.args.part.now)
    ≡ Ok ((c.in-Ok.start.unit, c.in-Ok.start.code.now), c.declarations.new.tokens)
begun c = ap (declarations_of (name_of c.args.wire)) (sym c.new-tokens.ensures) ∙ c.in-Ok.ensures

pub returns-in_err-read-in-Ok-clause-fault : goal.returns-in_err-read-in-Ok-clause-fault
returns-in_err-read-in-Ok-clause-fault c =
    let p = err_from_is_err_and c.from_residual.result c.from_residual.ensures.1 in
    let words = c.declarations.new.tokens in
    let code = c.in-Ok.start.code.now in
    let unit = c.in-Ok.start.unit in
    rw (p.1, p.2) (λ new. inl (
      unit,
      code,
      scan_words code unit start words,
      (words, begun (goal.at.returns-in_err-read-in-Ok-clause-fault c).In-Ok, refl),
      c.in_err-read-in-Ok.ensures.scans start (new unit),
    ))

pub returns-in_err-extend_from_slice-in-Ok-clause-fault : goal.returns-in_err-extend_from_slice-in-Ok-clause-fault
returns-in_err-extend_from_slice-in-Ok-clause-fault c =
    let p = err_from_is_err_and c.from_residual-in_err-extend_from_slice-in-Ok.result c.from_residual-in_err-extend_from_slice-in-Ok.ensures.1 in
    let unit = c.in-Ok.start.unit in
    rw (p.1, p.2) (λ new.
    let r = c.in_ok-read-in-Ok.ensures.scans start (new unit) in
    inr (
      refl,
      unit,
      c.in-Ok.start.code.now,
      r.0,
      c.in_err-extend_from_slice-in-Ok.ensures.full,
      (c.declarations.new.tokens, begun (goal.at.returns-in_err-extend_from_slice-in-Ok-clause-fault c).In-Ok, r.1),
    ))

pub returns-in_ok-extend_from_slice-in-Ok-clause-read : goal.returns-in_ok-extend_from_slice-in-Ok-clause-read
returns-in_ok-extend_from_slice-in-Ok-clause-read c = λ none new.
    let unit = c.in-Ok.start.unit in
    let r = c.in_ok-read-in-Ok.ensures.scans start (new unit) in
    let same : c.extend_from_slice.new.self.items ≡ c.in-Ok.start.code.now =
    c.in_ok-extend_from_slice-in-Ok.ensures.items ∙ ap (λ (l : List ℕ). l ++ c.in-Ok.start.code.now) none in
    subst (λ (code : List ℕ). HasReadWords (name_of c.args.wire) (words_of c.args.part.now) unit code c.read.new.self) (sym same)
    (r.0, (c.declarations.new.tokens, begun (goal.at.returns-in_ok-extend_from_slice-in-Ok-clause-read c).In-Ok, r.1), r.2)
