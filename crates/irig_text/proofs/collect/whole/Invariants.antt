use Rattle.std.proofs.Common.{◌≡◌, ◌++◌}
use Rattle.irig_text.proofs.collect.whole.Given as goal

-- the bytes so far, with those that are still to come
abbrev pub invariant-loop : goal.invariant-loop
invariant-loop g l = l.all.items ++ g.T.Text.rest l.text ≡ g.T.Text.rest l.fn.text
