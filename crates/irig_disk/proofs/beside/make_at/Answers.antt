use Rattle.std.proofs.Common.{◌≡◌, ◌∙◌, sym, true, false}
use Rattle.irig_disk.proofs.Steps.{tried, not_tried}
use Rattle.irig_disk.proofs.beside.make_at.Goals as goal

pub returns-in-Ok-clause-ok : goal.returns-in-Ok-clause-ok
returns-in-Ok-clause-ok g c told start same =
    let named = c.in-Ok-true.ensures.name in
    let apart = c.in-Ok-true.ensures.apart.0 c.in-Ok-true.field-0-test in
    let made = rw (c.in-Ok.is, c.as_str.ensures.value) at (c.make.ensures.done told) in
    tried g.F.Folder.number _ _ _ (g.F.Folder.place c.args.dir.now) _ _ _ _ c.in-Ok.made named
    (λ e. apart.1 (g.met.F.Folder.apart c.args.dir.now _ _ apart.0 c.requires e)) same made (c.make.ensures.time told)

pub returns-in-Ok-false-clause-ok : goal.returns-in-Ok-false-clause-ok
returns-in-Ok-false-clause-ok g c told start same = not_tried _ _ (g.F.Folder.place c.args.dir.now) _ _ _ c.in-Ok-false.ensures.name
    (λ is ne. let clash : true ≡ false = sym (c.in-Ok-false.ensures.apart.1 (is, ne)) ∙ c.in-Ok-false.field-0-test in cc clash)
    same
