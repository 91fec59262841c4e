use Rattle.std.proofs.Common.{◌<◌, ◌∙◌, refl, sym, ap, Ok}
use Rattle.irig_vcd.specs.{Times.time_of, Code.Time.limit_of}
use Rattle.irig_vcd.proofs.TimeLemmas.{earlier, no_earlier, too_large, within_limit, shown_units}
use Rattle.irig_vcd.proofs.time.accepted.Goals as goal

pub returns-then-precedes-clause-exact : goal.returns-then-precedes-clause-exact
unfolding time_of
returns-then-precedes-clause-exact c = λ digits h.
    let shown = h in
    rw (shown.number, earlier c.args.unit digits c.args.clock c.args.last shown c.requires.last (sym c.precedes.ensures ∙ c.if-precedes.true)) refl

pub returns-then-clock-limit-clause-exact : goal.returns-then-clock-limit-clause-exact
unfolding time_of
returns-then-clock-limit-clause-exact c = λ digits h.
    let shown = h in
    let over : limit_of c.args.unit < c.args.clock.whole = rw (← c.limit.ensures) c.if-clock-limit.true in
    rw (
      shown.number,
      no_earlier c.args.unit digits c.args.clock c.args.last shown c.requires.last (sym c.precedes.ensures ∙ c.if-precedes.false),
      too_large c.args.unit digits c.args.clock shown over,
    ) refl

pub returns-clause-exact : goal.returns-clause-exact
unfolding time_of
returns-clause-exact c = λ digits h.
    let shown = h in
    let low = rw c.limit.ensures at c.if-clock-limit.false in
    rw (
      shown.number,
      no_earlier c.args.unit digits c.args.clock c.args.last shown c.requires.last (sym c.precedes.ensures ∙ c.if-precedes.false),
      within_limit c.args.unit digits c.args.clock shown low,
    ) (ap Ok (shown_units c.args.unit digits c.args.clock shown low))
