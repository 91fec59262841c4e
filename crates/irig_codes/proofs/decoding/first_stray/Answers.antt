use Rattle.std.proofs.Common.{ℕ, sym, subst}
use Rattle.irig_codes.specs.{Ones.IsLowestOutside, Used.used_of, Slots.slots_at}
use Rattle.irig_codes.proofs.Strays.{stray-gathered}
use Rattle.irig_codes.proofs.decoding.first_stray.Goals as goal

pub returns : goal.returns
returns c = λ es h e.
    let f = c.args.format in
    stray-gathered f es c.lowest_outside.result h
    (subst (λ (n : ℕ). IsLowestOutside n (used_of (slots_at f)) c.lowest_outside.result) (sym e)
    (subst (λ (m : ℕ). IsLowestOutside c.args.ones m c.lowest_outside.result) c.used.ensures c.lowest_outside.ensures))
