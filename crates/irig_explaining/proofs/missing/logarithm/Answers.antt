use Rattle.std.proofs.Common.{◌≡◌, ◌+◌, ◌/◌, ◌≤◌, ◌∙◌, ℕ, zero, suc, refl, arith}
use Rattle.irig_explaining.specs.Missing.{halved}
use Rattle.irig_explaining.proofs.Halved.{halved_high, halved_low, halved_same, halved_small}
use Rattle.irig_explaining.proofs.missing.logarithm.Goals as goal

-- one halving
halved_once : (n : ℕ) → 16 ≤ n → halved n n ≡ 11 + halved (n / 2) (n / 2)
halved_once zero le = absurd (omega arith)
halved_once (suc n) le = halved_high n (suc n) le ∙ (let same = halved_same n (suc n / 2) (suc n / 2) (omega arith) (omega arith) in rw same refl)

pub loop-left-preserved : goal.loop-left-preserved
loop-left-preserved c = let le = c.loop-left-test.true in record {
  exact = omega (arith, c.loop-left.invariant.exact, halved_once c.loop-left.left le);
  small = omega (arith, c.loop-left.invariant.small);
}

pub returns-clause-small : goal.returns-clause-small
returns-clause-small c =
    let left = c.loop-left.left in
    let same = halved_low left left (omega arith) (omega arith) in
    let small = halved_small 46 c.args.number c.args.number (omega arith) (omega arith) in
    omega (arith, c.loop-left.invariant.exact, same, small)
