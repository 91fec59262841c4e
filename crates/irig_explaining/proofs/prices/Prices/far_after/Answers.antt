use Rattle.std.proofs.Common.{◌+◌, ◌*◌, ◌/◌, ◌<◌, ◌≤◌, inl, inr, arith}
use Rattle.std.proofs.lemmas.Bool.{cases_lt}
use Rattle.irig_explaining.specs.Distances.{rise_at}
use Rattle.irig_explaining.proofs.FarApart.{remote_wire}
use Rattle.irig_explaining.proofs.prices.Prices.far_after.Goals as goal

pub returns : goal.returns
returns c = λ q role le there.
    let p = c.args.self.now in let r = c.args.rise in let l = p.clock.now.longest / 256 + 1 in let n = c.count_before-noise.result in
    let begin = c.rise_at-begin.ensures.exact in
    let first : r < n = elim (cases_lt r n) [
      | inl lt ↦ lt
      | inr not ↦ (let at = c.count_before-noise.ensures.after r not c.requires in absurd (omega (arith, at, begin)))
    ] in
    let last : n + 5 ≤ q = omega (arith, le, c.max.ensures) in
    let noise : rise_at p r + l ≤ rise_at p n = omega (arith, begin, c.count_before-noise.ensures.after n (omega arith) (omega (arith, last, there))) in
    let far : rise_at p r + 6 * l ≤ rise_at p q = omega (arith, begin, c.count_before.ensures.after q (omega (arith, le, c.max.ensures)) there) in
    (omega (arith, first, last), remote_wire p role r n q l there first last (omega arith) noise far)
