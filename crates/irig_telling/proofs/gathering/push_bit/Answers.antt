use Rattle.std.proofs.Common.{subst, sym}
use Rattle.std.specs.List.{All}
use Rattle.std.proofs.lemmas.List.Elements.{All-push}
use Rattle.irig_telling.specs.Fitting.{Fits}
use Rattle.irig_telling.proofs.gathering.push_bit.Goals as goal

pub returns-clause-fits : goal.returns-clause-fits
returns-clause-fits c =
    let p = c.args.prices.now in
    subst (All (Fits p)) (sym c.in_ok-push.ensures.items)
    (All-push (Fits p) c.args.bits.now.items c.bit_of.result c.requires.fits c.bit_of.ensures.fits)
