use Rattle.std.proofs.Common.{◌≡◌, ◌++◌, drop}
use Rattle.irig_happenings.specs.Texts.{texts}
use Rattle.irig_happenings.proofs.texts.text_of.Given as goal

-- the lines so far, and those that follow
abbrev pub invariant-loop-part : goal.invariant-loop-part
invariant-loop-part l = l.text.items ++ texts l.fn.json (drop l.part-index l.parts) ≡ texts l.fn.json l.parts
