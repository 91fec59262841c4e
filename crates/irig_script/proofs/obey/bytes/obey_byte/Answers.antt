use Rattle.std.proofs.Common.{refl, ◌++◌, ◌∷◌, []}
use Rattle.irig_script.proofs.ObeyLemmas.Desks.{tells_one, tells_front}
use Rattle.irig_script.proofs.ObeyLemmas.Lines.{obeyed_none, obeyed_line, obeyed_end, broke_line}
use Rattle.irig_script.specs.Print.Printed.{answer_with}
use Rattle.irig_script.proofs.obey.bytes.obey_byte.Goals as goal

pub returns-then-byte-ne10-clause-ok : goal.returns-then-byte-ne10-clause-ok
returns-then-byte-ne10-clause-ok g c = λ text h. obeyed_none _ _ (text ++ c.args.byte ∷ []) _ _ (c.push.ensures text h)

pub returns-in_default-clause-ok : goal.returns-in_default-clause-ok
returns-in_default-clause-ok g c = λ text h.
    let a = c.in_default.ensures.answers in
    rw c.if-byte-ne10.false (obeyed_end c.args.screen.now (g.S.Shelf.known c.args.shelf.now)
    (g.S.Shelf.known c.obey_line.new.shelf) c.args.status.now text _ _ _ h.plain (a.0 text h) a.1 a.2)

pub returns-in-Err-clause-err : goal.returns-in-Err-clause-err
returns-in-Err-clause-err g c = λ text h.
    let texts = c.in-Some.ensures.answers.0 in
    let a = c.in-Some.ensures.answers.1 text h in
    let front = c.in-Err.ensures.text in
    rw c.if-byte-ne10.false (broke_line _ _ text _ _ front.front front.back (answer_with c.obey_line.new.session c.in-Some.reply) texts h.plain a.0 (a.1, refl)
    front.part front.missing (tells_front _ _ texts (answer_with c.obey_line.new.session c.in-Some.reply) front.front front.appends
    c.in-Some.ensures.answers.2 c.in-Some.ensures.answers.3 c.in-Err.ensures.seen))

pub returns-clause-ok : goal.returns-clause-ok
returns-clause-ok g c = λ text h.
    let texts = c.in-Some.ensures.answers.0 in
    let a = c.in-Some.ensures.answers.1 text h in
    rw c.if-byte-ne10.false (obeyed_line _ _ _ _ text _ _ (answer_with c.obey_line.new.session c.in-Some.reply) texts _ h.plain a.0 (a.1, refl)
    (tells_one _ _ texts (answer_with c.obey_line.new.session c.in-Some.reply) c.in-Ok.ensures.text c.in-Some.ensures.answers.2
    c.in-Some.ensures.answers.3 c.answer.ensures.seen)
    c.answer.ensures.status c.clear.ensures)
