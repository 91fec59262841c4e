use Rattle.std.proofs.Common.{◌+◌, ◌-◌, drop}
use Rattle.std.proofs.lemmas.List.Sorted.{IsNonDecreasingBy-drop, IsNonDecreasingBy-take}
use Rattle.irig_explaining.proofs.prices.Prices.passed.Goals as goal

pub count_after-requires : goal.count_after-requires
count_after-requires c =
    let p = c.args.self.now in let r = c.args.rise in let q = c.args.later in
    IsNonDecreasingBy-take (λ x. x.rise) (q - (r + 1)) (drop (r + 1) p.pulses.now) (IsNonDecreasingBy-drop (λ x. x.rise) (r + 1) p.pulses.now p.order)
