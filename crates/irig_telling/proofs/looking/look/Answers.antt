use Rattle.std.proofs.Common.{◌≡◌, ◌∙◌, ℕ, ap}
use Rattle.irig_explaining.specs.{Wires.as_pulse}
use Rattle.irig_telling.specs.Looking.{end_of}
use Rattle.irig_telling.specs.declared.look.Look.{Look}
use Rattle.irig_telling.proofs.looking.look.Goals as goal

made : ℕ → ℕ → Look
made a b = record { zero = a; one = b }

same : (a b x y : ℕ) → a ≡ x → b ≡ y → made a b ≡ made x y
same a b x y e f = ap (λ (n : ℕ). made n b) e ∙ ap (λ (n : ℕ). made x n) f

pub returns-clause-exact : goal.returns-clause-exact
unfolding made
returns-clause-exact c =
    let p = c.args.prices.now in let r = c.args.from.rise in let end = c.end_of-end.ensures.exact in
    same c.as_pulse.result c.as_pulse-2.result (as_pulse p 2 r (end_of p c.args.from c.args.to)) (as_pulse p 5 r (end_of p c.args.from c.args.to))
    (c.as_pulse.ensures.exact ∙ ap (λ (e : ℕ). as_pulse p 2 r e) end) (c.as_pulse-2.ensures.exact ∙ ap (λ (e : ℕ). as_pulse p 5 r e) end)
