use Rattle.std.proofs.Common.{vec_capacity}
use Rattle.irig_journal.specs.Journal.{AreReady}
use Rattle.irig_part_tests.specs.Stack.{CanEdit, HasPlaceFor, edited}
use Rattle.irig_part_tests.proofs.journals.are_answered.Given as goal

-- the journal is ready at the stack after each call
abbrev pub invariant-loop-row : goal.invariant-loop-row
invariant-loop-row l =
    AreReady CanEdit edited (λ d. d) (HasPlaceFor (vec_capacity l.stack.items)) l.stack.items.items l.journal
