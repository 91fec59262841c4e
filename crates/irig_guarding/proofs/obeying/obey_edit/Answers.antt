use Rattle.std.proofs.Common.{sym}
use Rattle.irig_guarding.proofs.DropLemmas.{refused_not_made}
use Rattle.irig_guarding.proofs.obeying.obey_edit.Goals as goal

pub returns-in-Refused-clause-unmade : goal.returns-in-Refused-clause-unmade
returns-in-Refused-clause-unmade c = refused_not_made c.args.command _ _ c.in-Refused.why _ c.requires c.obey.ensures.answer c.in-Refused.is

pub returns-in-Silent-clause-known : goal.returns-in-Silent-clause-known
returns-in-Silent-clause-known c = λ o known.
    c.follow_edit.ensures o c.args.session.now.state.pulses c.obey.new.session.state.pulses
    (c.place_of-place.ensures c.obey.new.session c.in-Silent.ensures.answer)
    (sym c.len-before.ensures) (sym c.len.ensures) known
