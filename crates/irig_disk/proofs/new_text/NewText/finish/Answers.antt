use Rattle.irig_disk.proofs.new_text.NewText.finish.Goals as goal

pub returns-in-Ok-clause-ok : goal.returns-in-Ok-clause-ok
returns-in-Ok-clause-ok g c told start text w = c.keep.ensures.ok told start _ _ _ c.requires (c.in-Ok.ensures.ok told start text w)

pub returns-in-Ok-clause-err : goal.returns-in-Ok-clause-err
returns-in-Ok-clause-err g c told start text w = c.keep.ensures.err told start _ _ _ c.requires (c.in-Ok.ensures.ok told start text w)

pub returns-in-Ok-clause-any_moment : goal.returns-in-Ok-clause-any_moment
returns-in-Ok-clause-any_moment g c told start text w = c.keep.ensures.any_moment told start _ _ _ c.requires (c.in-Ok.ensures.ok told start text w)
