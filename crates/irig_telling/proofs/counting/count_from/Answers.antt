use Rattle.std.proofs.Common.{◌≡◌, ◌+◌, ◌++◌, ◌∷◌, List, arith, drop, get_or, subst, sym}
use Rattle.std.specs.List.{All}
use Rattle.std.proofs.lemmas.List.Elements.{All-push}
use Rattle.irig_explaining.specs.declared.claim.{Claim.Claim}
use Rattle.irig_explaining.specs.declared.claim.Kind.TheVariants.{Next}
use Rattle.irig_explaining.specs.{Explanation.AreClaims, Recorded.rises_of}
use Rattle.irig_telling.specs.Counting.{IsFew, counted, rest_of}
use Rattle.irig_telling.proofs.{Claims.next_claim, Claims.there, Steps.counted_more, Steps.few_at, Steps.one_more}
use Rattle.irig_telling.proofs.counting.count_from.Goals as goal

pub loop-claim-preserved : goal.loop-claim-preserved
loop-claim-preserved c =
    let i = c.loop-claim.claim-index in let p = c.args.prices.now in let rest = c.args.rest.now in let before = c.loop-claim.before in
    let none : Claim = record { rise = 0; element = 0; kind = Next } in
    let d = get_or rest i none in
    let split = next_claim rest i none (omega arith) in
    let so_far = subst (λ (ds : List Claim). c.loop-claim.places.items ++ rest_of p before c.loop-claim.at ds ≡ counted p (c.args.first ∷ rest)) split
    c.loop-claim.invariant.exact in
    let claims = subst (AreClaims (rises_of p) before) split c.loop-claim.invariant.possible in
    let on = there (rises_of p) d (drop (i + 1) rest) claims.2 in
    let element = counted_more p before d (drop (i + 1) rest) c.loop-claim.at c.next-at.result i claims c.next-at.ensures.element
    c.loop-claim.invariant.element in
    record {
      possible = claims.2;
      exact = one_more p before d c.loop-claim.at c.next-at.result (drop (i + 1) rest) c.loop-claim.places.items c.push-in-loop-claim.new.self.items
          (counted p (c.args.first ∷ rest)) c.in_ok-push-2.ensures.items c.next-at.ensures.exact so_far;
      stretch = omega arith;
      element = element;
      few = subst (All IsFew) (sym c.in_ok-push-2.ensures.items)
          (All-push IsFew c.loop-claim.places.items c.next-at.result c.loop-claim.invariant.few (few_at p d c.next-at.result (i + 1) on element (omega arith)));
    }
