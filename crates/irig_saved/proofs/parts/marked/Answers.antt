use Rattle.std.proofs.Common.{refl}
use Rattle.irig_saved.proofs.MarkParts.{lineless_lacks, other_lacks}
use Rattle.irig_saved.proofs.parts.marked.Goals as goal

pub returns-in_default : goal.returns-in_default
returns-in_default c = (lineless_lacks c.args.letter_byte c.args.text.now c.in_default.ensures, refl)

pub returns-in-None : goal.returns-in-None
returns-in-None c = (
  other_lacks c.args.letter_byte c.args.text.now c.in-Some.line.now c.in-Some.next.now c.requires.0 c.in-Some.ensures.0 c.in-Some.ensures.1
      c.in-None.ensures,
  refl,
)
