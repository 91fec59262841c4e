-- What all cheap explanations say of an interval.
use Rattle.std.proofs.Common.{◌≡◌, ◌+◌, ◌-◌, ◌*◌, ◌<◌, ◌≤◌, ◌⊎◌, ℕ, List, [], ◌∷◌, subst, inl, inr, arith, refl}
use Rattle.std.proofs.lemmas.{Bool.cases_lt, Bool.cases_eq}
use Rattle.irig_explaining.specs.declared.{claim.Claim.Claim, rises.Rises.Rises, nodes.Node.Node, asked.Asked.Asked}
use Rattle.irig_explaining.specs.Explanation.{Price, AreClaims, IsExplanation, cost, cost_after}
use Rattle.irig_explaining.specs.{Bounds.Elsewhere, Bounds.NoStep, Sure.Gives, Sure.GivesAfter, Turned.AreTables, Turned.turned}
use Rattle.irig_explaining.proofs.Least.{IsSpent, first_is, known_cheap, spent_first, spent_step}

-- the rise from the other end, turned back
pub turned_back : (count r : ℕ) → r < count → count - 1 - (count - 1 - r) ≡ r
turned_back count r lt = omega arith

-- the table of the turned recording has the least costs of what comes after claims
after_least : (price : Price) (rises : Rises) (before after : List Node) → AreTables price rises before after
    → (c : Claim) (cs : List Claim) → AreClaims rises c cs
    → IsSpent (turned price rises.count) rises after (rises.count - 1 - c.rise) c.element (cost_after price rises c cs)
after_least price rises before after are c [] h = λ low is.
    let same : rises.count - 1 - c.rise ≡ rises.count - c.rise - 1 = omega arith in
    subst (λ n. low ≤ rises.skip * n) same is.first
after_least price rises before after are c (d ∷ ds) h =
    let c_is = h.0 in let d_is = first_is rises d ds h.2 in let later = h.1.0 in let near = h.1.1 in
    let c_low = c_is.0 in let d_low = d_is.0 in
    let r = rises.count - 1 - d.rise in let q = rises.count - 1 - c.rise in
    let known = are.after_least.known r d.element (omega arith) d_is.1 in
    let step = spent_step (turned price rises.count) rises after r d.element q c.element (cost_after price rises d ds) d.kind known (omega arith) (omega arith)
    (after_least price rises before after are d ds h.2) in
    let paid : turned price rises.count r d.element q c.element d.kind ≡ price c.rise c.element d.rise d.element d.kind =
    rw (turned_back rises.count c.rise c_low, turned_back rises.count d.rise d_low) refl in
    λ low is. omega (arith, step low is, paid)

-- after a claim before the interval, at what was spent so far: the interval gets the place, or all of it costs the bound
placed_after : (price place : Price) (rises : Rises) (before after : List Node) (a : Asked) (bound best : ℕ)
    → AreTables price rises before after → NoStep rises before after a best → bound ≤ best
    → Elsewhere price place rises before after a (λ r e q f. Unit {0}) bound
    → (c : Claim) (cs : List Claim) (spent : ℕ) → IsSpent price rises before c.rise c.element spent → c.rise ≤ a.interval → AreClaims rises c cs
    → GivesAfter place a c cs ⊎ (bound ≤ spent + cost_after price rises c cs)
placed_after price place rises before after a bound best are alone kept other c [] spent paid early h =
    let known = are.before_least.known c.rise c.element h.0 h.1 in let same = known.beside in
    let ends = subst (λ n. best ≤ known.node.cost + rises.skip * (rises.count - n - 1)) known.beside
    (alone.ends known.node known.there (omega arith)) in
    inr (omega (arith, ends, known_cheap price rises before c.rise c.element spent known paid, kept))
placed_after price place rises before after a bound best are alone kept other c (d ∷ ds) spent paid early h =
    let c_is = h.0 in let d_is = first_is rises d ds h.2 in let later = h.1.0 in let near = h.1.1 in
    let known = are.before_least.known c.rise c.element c_is.0 c_is.1 in
    elim (cases_lt a.interval d.rise) [
      | inl over ↦ elim (cases_eq (place c.rise c.element d.rise d.element d.kind) a.place) [
        | inl same ↦ inl (inl ((early, over), same))
        | inr unlike ↦
            let rest = are.after_least.known (rises.count - 1 - d.rise) d.element (let d_low = d_is.0 in omega arith) d_is.1 in
            let dear = other.least c.rise c.element d.rise d.element d.kind known.least rest.least tt
            (record { early = omega arith; late = over; last = d_is.0; near = near; start = c_is.1; end = d_is.1 }) unlike known.costs rest.costs in
            let x = paid known.costs.way.cost known.costs.is.low in
            let y = after_least price rises before after are d ds h.2 rest.costs.way.cost rest.costs.is.low in
            inr (omega (arith, dear, x, y, known.costs.exact, rest.costs.exact))
      ]
      | inr not_over ↦
          let more = spent_step price rises before c.rise c.element d.rise d.element spent d.kind known later near paid in
          elim (placed_after price place rises before after a bound best are alone kept other d ds
          (spent + price c.rise c.element d.rise d.element d.kind) more not_over h.2) [
            | inl placed ↦ inl (inr placed)
            | inr dear ↦ inr (omega (arith, dear))
          ]
    ]

-- all explanations that are cheaper than the bound give the interval the place
pub placed : (price place : Price) (rises : Rises) (before after : List Node) (a : Asked) (bound best : ℕ)
    → AreTables price rises before after → NoStep rises before after a best → bound ≤ best
    → Elsewhere price place rises before after a (λ r e q f. Unit {0}) bound
    → (x : List Claim) → IsExplanation rises x → cost price rises x < bound → Gives place a x
placed price place rises before after a bound best are alone kept other [] h cheap = let none = alone.none in absurd (omega arith)
placed price place rises before after a bound best are alone kept other (c ∷ cs) h cheap =
    let c_is = first_is rises c cs h in let low = c_is.0 in
    elim (cases_lt a.interval c.rise) [
      | inl over ↦
          let q = rises.count - 1 - c.rise in
          let rest = are.after_least.known q c.element (omega arith) c_is.1 in let same = rest.beside in
          let back : rises.count - rest.node.rise - 1 ≡ c.rise = omega arith in
          let begins = subst (λ n. best ≤ rest.node.cost + rises.skip * n) back (alone.begins rest.node rest.there (omega arith)) in
          let less = known_cheap (turned price rises.count) rises after q c.element (cost_after price rises c cs) rest
          (after_least price rises before after are c cs h) in
          absurd (omega (arith, begins, less, kept, cheap))
      | inr early ↦
          elim (placed_after price place rises before after a bound best are alone kept other c cs (rises.skip * c.rise)
          (spent_first price rises before c.rise c.element) early h) [
            | inl there ↦ there
            | inr dear ↦ absurd (omega (arith, dear, cheap))
          ]
    ]
