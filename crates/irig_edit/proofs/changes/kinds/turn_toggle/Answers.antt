use Rattle.std.proofs.Common.{arith}
use Rattle.irig_edit.proofs.ChangeLemmas.Windows.{length-spanned, risen_few, standing-is, toggled_few}
use Rattle.irig_edit.proofs.changes.kinds.turn_toggle.Goals as goal

pub returns-clause-size : goal.returns-clause-size
returns-clause-size c =
    let order = c.requires.can.order in
    let ps = c.toggle-span.new.self.pulses in
    omega (arith, standing-is c.args.a c.args.b 0 ps (omega arith) c.len-after.ensures.track.rises, c.toggle-span.ensures.new.0, c.toggle-span.ensures.new.1)

pub returns-clause-few : goal.returns-clause-few
returns-clause-few c =
    let old = c.args.track.now.pulses in
    let new = c.toggle-span.new.self.pulses in
    let span = c.toggle-span.result in
    let more = toggled_few c.args.a c.args.b old new c.toggle-span.ensures.pulses in (
      omega (arith, more, c.toggle-span.ensures.spanned.came),
      omega (
        arith,
        risen_few c.args.a 0 old c.len-before.ensures.track.rises,
        length-spanned span.at span.old span.new old new c.toggle-span.ensures.spanned,
        more,
        c.toggle-span.ensures.old.0,
        c.toggle-span.ensures.old.1,
      ),
    )
