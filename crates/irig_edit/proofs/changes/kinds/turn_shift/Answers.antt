use Rattle.std.proofs.Common.{ℤ, pos, ◌-ℤ◌, rules, ap, sym, subst, ◌∙◌, arith, to_z, of_z, w64}
use Rattle.std.proofs.lemmas.Int.{to_z-of_z}
use Rattle.std.specs.Int.RustNames.{FitsSigned}
use Rattle.irig_track.proofs.Inverses.{shift_within}
use Rattle.irig_edit.proofs.StateLemmas.Distances.{opposite_fits, opposite_is}
use Rattle.irig_edit.proofs.changes.kinds.turn_shift.Goals as goal

pub overflow_sub-by : goal.overflow_sub-by
overflow_sub-by c =
    let d = c.args.by.now in
    let fits : FitsSigned w64 d = search rules in
    let within = shift_within c.args.track.now.micros c.args.i c.args.j d c.args.track.now.pulses c.len-len.ensures.track c.requires.can in
    let short = c.len-len.ensures.track.short in
    subst (λ (e : ℤ). FitsSigned w64 (pos 0 -ℤ e)) (sym (to_z-of_z w64 d fits)) (opposite_fits d (omega arith) (omega arith))

pub returns-clause-back : goal.returns-clause-back
returns-clause-back c =
    let d = c.args.by.now in
    let fits : FitsSigned w64 d = search rules in
    let within = shift_within c.args.track.now.micros c.args.i c.args.j d c.args.track.now.pulses c.len-len.ensures.track c.requires.can in
    let short = c.len-len.ensures.track.short in
    ap (λ (e : ℤ). to_z w64 (of_z w64 (pos 0 -ℤ e))) (to_z-of_z w64 d fits)
    ∙ (to_z-of_z w64 (pos 0 -ℤ d) (opposite_fits d (omega arith) (omega arith)) ∙ opposite_is d)
