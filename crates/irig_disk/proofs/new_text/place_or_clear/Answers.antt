use Rattle.irig_disk.proofs.new_text.place_or_clear.Goals as goal

pub returns-clause-err : goal.returns-clause-err
returns-clause-err g c told start text w = c.clear.ensures.left told start _ _ (c.in-Err.ensures.err told start text w)

pub returns-clause-any_moment : goal.returns-clause-any_moment
returns-clause-any_moment g c told start text w = c.clear.ensures.any_moment told start _ _ (c.in-Err.ensures.err told start text w)
