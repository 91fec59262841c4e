use Rattle.std.proofs.Common.{◌≡◌, ◌+◌, ◌++◌, ◌∷◌, [], ◌∙◌, ℕ, List, add-one, ap, arith, drop, drop-cons, get_or, refl, subst, sym}
use Rattle.std.proofs.lemmas.List.{append-nil}
use Rattle.irig_explaining.specs.{Explanation.AreClaims, Recorded.rises_of}
use Rattle.irig_explaining.specs.declared.claim.Claim.{Claim}
use Rattle.irig_explaining.specs.declared.claim.Kind.TheVariants.{Next}
use Rattle.irig_happenings.specs.Margins.{MarginsAfter}
use Rattle.irig_happenings.proofs.Steps.{ended, one-more, there}
use Rattle.irig_happenings.proofs.margins.margins_after.Goals as goal

pub push_margin-requires-clause-there : goal.push_margin-requires-clause-there
push_margin-requires-clause-there c =
    there (rises_of c.args.prices.now) c.loop-claim.before (drop c.loop-claim.claim-index c.args.rest.now) c.loop-claim.invariant.possible

pub loop-claim-preserved : goal.loop-claim-preserved
loop-claim-preserved c =
    let i = c.loop-claim.claim-index in
    let p = c.args.prices.now in
    let rest = c.args.rest.now in
    let none : Claim = record { rise = 0; element = 0; kind = Next } in
    let d = get_or rest i none in
    let split : drop i rest ≡ d ∷ drop (i + 1) rest = drop-cons rest i none (omega arith) ∙ ap (λ (n : ℕ). d ∷ drop n rest) (sym (add-one i)) in
    let own = c.in_ok-push_margin.ensures in
    let so_far = c.loop-claim.margins.items in
    let before = c.loop-claim.before in record {
      possible = (subst (AreClaims (rises_of p) before) split c.loop-claim.invariant.possible).2;
      exact = subst (λ (xs : List ℕ). (later : List ℕ) → MarginsAfter p c.args.least d (drop (i + 1) rest) later
          → MarginsAfter p c.args.least c.args.first rest (xs ++ later)) (sym own.1)
          (one-more p c.args.least c.args.first before d rest (drop (i + 1) rest) so_far own.0 own.2
          (λ later h. c.loop-claim.invariant.exact later (subst (λ (ds : List Claim). MarginsAfter p c.args.least before ds later) (sym split) h)));
    }

pub returns : goal.returns
returns c =
    let rest = c.args.rest.now in
    let p = c.args.prices.now in
    let none = ended rest c.loop-claim.claim-index (omega arith) in
    subst (MarginsAfter p c.args.least c.args.first rest) (append-nil c.loop-claim.margins.items)
    (c.loop-claim.invariant.exact [] (subst (λ (ds : List Claim). MarginsAfter p c.args.least c.loop-claim.before ds []) (sym none) refl))
