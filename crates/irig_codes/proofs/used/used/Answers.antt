use Rattle.irig_codes.proofs.Masks.{mask-of}
use Rattle.irig_codes.proofs.used.used.Goals as goal

pub returns : goal.returns
returns c = mask-of c.args.format c.kind.result c.expression.result c.masks.result.now c.kind.ensures c.expression.ensures.value c.expression.ensures.permitted
    c.masks.ensures
