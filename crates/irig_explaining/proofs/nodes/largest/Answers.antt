use Rattle.std.proofs.Common.{◌≤◌, sym, take, arith}
use Rattle.std.proofs.lemmas.List.Elements.{All-more, All-same, All-weaker}
use Rattle.std.proofs.lemmas.List.{take_all}
use Rattle.irig_explaining.proofs.nodes.largest.Goals as goal

pub loop-index-preserved : goal.loop-index-preserved
loop-index-preserved c =
    let xs = c.args.mosts.now in let i = c.loop-index.index in let old = c.loop-index.most in let new = c.max-most.result in
    All-more (λ m. m ≤ new) xs i 0 (omega arith)
    (All-weaker (λ m. m ≤ old) (λ m. m ≤ new) (λ m h. omega (arith, h, c.max-most.ensures)) (take i xs) c.loop-index.invariant)
    (omega (arith, c.max-most.ensures))

pub returns : goal.returns
returns c =
    let xs = c.args.mosts.now in let end = c.loop-index-test.false in
    All-same (λ m. m ≤ c.loop-index.most) xs (take c.loop-index.index xs) (sym (take_all c.loop-index.index xs (omega arith))) c.loop-index.invariant
