use Rattle.std.proofs.Common.{◌≡◌, ◌+◌, ◌∙◌, List, ap, arith, drop, get_or, subst}
use Rattle.irig_explaining.specs.declared.claim.{Claim.Claim}
use Rattle.irig_explaining.specs.declared.claim.Kind.TheVariants.{Next}
use Rattle.irig_explaining.specs.{Explanation.AreClaims, Recorded.rises_of}
use Rattle.irig_telling.specs.Tallies.{tally_after, tally_from}
use Rattle.irig_telling.specs.declared.tally.Tally.{Tally}
use Rattle.irig_telling.proofs.Claims.{next_claim, there}
use Rattle.irig_telling.proofs.tallying.tally_after.Goals as goal

pub with_claim-tally-requires-clause-there : goal.with_claim-tally-requires-clause-there
with_claim-tally-requires-clause-there c =
    there (rises_of c.args.prices.now) c.loop-claim.before (drop c.loop-claim.claim-index c.args.rest.now) c.loop-claim.invariant.possible

pub loop-claim-preserved : goal.loop-claim-preserved
loop-claim-preserved c =
    let i = c.loop-claim.claim-index in let p = c.args.prices.now in let rest = c.args.rest.now in let before = c.loop-claim.before in
    let none : Claim = record { rise = 0; element = 0; kind = Next } in
    let split = next_claim rest i none (omega arith) in
    let so_far = subst (λ (ds : List Claim). tally_from p c.loop-claim.tally before ds ≡ tally_after p c.args.first rest) split c.loop-claim.invariant.exact in
    record {
      possible = (subst (AreClaims (rises_of p) before) split c.loop-claim.invariant.possible).2;
      exact = ap (λ (t : Tally). tally_from p t (get_or rest i none) (drop (i + 1) rest)) c.with_claim-tally.ensures.exact ∙ so_far;
      clear = omega arith;
      wrong = omega arith;
    }
