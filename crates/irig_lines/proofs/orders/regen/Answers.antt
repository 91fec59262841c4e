use Rattle.std.proofs.Common.{refl}
use Rattle.irig_lines.specs.{Commands.Asks, Words.words_of}
use Rattle.irig_lines.specs.declared.keyword.Keyword.TheVariants as word
use Rattle.irig_lines.proofs.KnownWords.{finds_as}
use Rattle.irig_lines.proofs.orders.regen.Goals as goal

pub returns : goal.returns
returns c = finds_as _ (Asks word.Regen c.args.front.now (words_of c.args.arguments.now)) c.frames.result
    (λ asked a. (a.0, a.1, a.2, a.3, a.4, c.in-Ok.ensures.ok, a.6))
    (λ no asked a. no asked (a.0, a.1, a.2, a.3, a.4, refl, a.6)) c.frames.ensures
