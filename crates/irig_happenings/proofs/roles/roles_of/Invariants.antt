use Rattle.std.proofs.Common.{◌≡◌, map, take}
use Rattle.irig_happenings.specs.Letters.{named}
use Rattle.irig_happenings.proofs.roles.roles_of.Given as goal

-- those so far
abbrev pub invariant-loop-letter : goal.invariant-loop-letter
invariant-loop-letter l = l.roles.items ≡ map (named l.control l.sbs) (take l.letter-index l.elements)
