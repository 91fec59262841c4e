use Rattle.std.proofs.Common.{◌≡◌, ◌+◌, ◌++◌, List, arith, drop, get_or, subst}
use Rattle.irig_explaining.specs.declared.claim.{Claim.Claim}
use Rattle.irig_explaining.specs.declared.claim.Kind.TheVariants.{Next}
use Rattle.irig_explaining.specs.{Explanation.AreClaims, Recorded.rises_of}
use Rattle.irig_telling.specs.{Bits.bits_from, Counting.begun}
use Rattle.irig_telling.proofs.{Claims.element_there, Claims.next_claim, Claims.there, Gathered.bit_more, Steps.counted_more, Steps.few_at}
use Rattle.irig_telling.proofs.gathering.bits_from.Goals as goal

pub push_bit-requires-clause-there : goal.push_bit-requires-clause-there
push_bit-requires-clause-there c =
    there (rises_of c.args.prices.now) c.loop-claim.before (drop c.loop-claim.claim-index c.args.rest.now) c.loop-claim.invariant.possible

pub push_bit-requires-clause-element : goal.push_bit-requires-clause-element
push_bit-requires-clause-element c =
    let p = c.args.prices.now in
    let lt = element_there (rises_of p) c.loop-claim.before (drop c.loop-claim.claim-index c.args.rest.now) c.loop-claim.invariant.possible in
    omega (arith, lt, c.requires.frames)

pub push_bit-requires-clause-few : goal.push_bit-requires-clause-few
push_bit-requires-clause-few c =
    let p = c.args.prices.now in let before = c.loop-claim.before in
    let lt = there (rises_of p) before (drop c.loop-claim.claim-index c.args.rest.now) c.loop-claim.invariant.possible in
    few_at p before c.loop-claim.at c.loop-claim.claim-index lt c.loop-claim.invariant.element (omega arith)

pub loop-claim-preserved : goal.loop-claim-preserved
loop-claim-preserved c =
    let i = c.loop-claim.claim-index in let p = c.args.prices.now in let rest = c.args.rest.now in let before = c.loop-claim.before in
    let f = c.args.code.now in let at = c.loop-claim.at in
    let none : Claim = record { rise = 0; element = 0; kind = Next } in
    let d = get_or rest i none in
    let split = next_claim rest i none (omega arith) in
    let all = bits_from f p c.args.most c.args.first (begun 0 c.args.first) rest in
    let so_far = subst (λ (ds : List Claim). c.loop-claim.bits.items ++ bits_from f p c.args.most before at ds ≡ all) split c.loop-claim.invariant.exact in
    let claims = subst (AreClaims (rises_of p) before) split c.loop-claim.invariant.possible in
    record {
      possible = claims.2;
      exact = bit_more f p c.args.most before d at c.next-at.result (drop (i + 1) rest) c.loop-claim.bits.items c.push_bit.new.bits.items all
          c.in_ok-push_bit.ensures.exact c.next-at.ensures.exact so_far;
      stretch = omega arith;
      element = counted_more p before d (drop (i + 1) rest) at c.next-at.result i claims c.next-at.ensures.element c.loop-claim.invariant.element;
      fits = c.in_ok-push_bit.ensures.fits;
    }
