use Rattle.std.proofs.Common.{◌≡◌, None, length}
use Rattle.irig_script.specs.{Obey.Machine.Machine}
use Rattle.irig_guarding.specs.Undone.{LeadsBackTo}
use Rattle.irig_guarding.proofs.BackLemmas.{IsOver}
use Rattle.irig_guarding.proofs.undoing.undo_to.Given as goal

abbrev pub decreases-loop-left : goal.decreases-loop-left
decreases-loop-left l = l.left

abbrev pub invariant-loop-left : goal.invariant-loop-left
invariant-loop-left l = (first : Machine) → first.floor ≡ None → l.steps ≡ length first.past → LeadsBackTo first l.fn.session → IsOver first l.left l.session
