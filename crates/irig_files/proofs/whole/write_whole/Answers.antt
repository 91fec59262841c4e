use Rattle.irig_files.proofs.Passed.{replaces, value_passed}
use Rattle.irig_files.proofs.whole.write_whole.Goals as goal

pub returns-clause-put : goal.returns-clause-put
returns-clause-put g c = λ told.
    replaces _ _ _ _ c.put_text.result c.or_shelf_fault.result c.or_shelf_fault.ensures.given c.or_shelf_fault.ensures.failed
    (c.put_text.ensures.any_moment told) (c.put_text.ensures.ok told) (c.put_text.ensures.err told)

pub returns-clause-count : goal.returns-clause-count
returns-clause-count g c = value_passed _ c.put_text.result c.or_shelf_fault.result c.or_shelf_fault.ensures.given c.put_text.ensures.count
