use Rattle.std.proofs.Common.{◌+◌, ◌<◌, ◌≤◌, ℕ, List, length, get_or, take, sym, arith}
use Rattle.std.specs.List.{All}
use Rattle.std.proofs.lemmas.List.Elements.{All-more, All-same, All-weaker}
use Rattle.std.proofs.lemmas.List.{take_all}
use Rattle.irig_explaining.proofs.nodes.least_of.Goals as goal
use Rattle.irig_explaining.proofs.nodes.least_of.Goals.{then-row-index, else-row-index}

-- what is no less than the least so far is no less than a lower one
lower : (xs : List ℕ) (i least new : ℕ) → i < length xs → new ≤ least → new ≤ get_or xs i 0
    → All (λ x. least ≤ x) (take i xs) → All (λ x. new ≤ x) (take (i + 1) xs)
lower xs i least new lt le here so_far =
    All-more (λ x. new ≤ x) xs i 0 lt (All-weaker (λ x. least ≤ x) (λ x. new ≤ x) (λ x h. omega arith) (take i xs) so_far) here

pub loop-index-preserved : goal.loop-index-preserved
loop-index-preserved c =
    let xs = c.args.row.now in let i = c.loop-index.index in let least = get_or xs c.loop-index.best 0 in
    let lt : i < length xs = omega arith in
    elim c.if-row-index.branch [
      | then-row-index w ↦
          let less = w.if-row-index.true in
          rw w.best-is (record {
            there = λ _. lt;
            low = lower xs i least (get_or xs i 0) lt (omega (arith, less)) (omega arith) c.loop-index.invariant.low;
          })
      | else-row-index w ↦
          let more = w.if-row-index.false in
          rw w.best-is (record {
            there = c.loop-index.invariant.there;
            low = lower xs i least least lt (omega arith) (omega (arith, more)) c.loop-index.invariant.low;
          })
    ]

pub returns : goal.returns
returns c =
    let xs = c.args.row.now in let end = c.loop-index-test.false in let least = get_or xs c.loop-index.best 0 in record {
      there = c.loop-index.invariant.there;
      low = All-same (λ x. least ≤ x) xs (take c.loop-index.index xs) (sym (take_all c.loop-index.index xs (omega arith))) c.loop-index.invariant.low;
    }
