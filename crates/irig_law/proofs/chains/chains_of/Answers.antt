use Rattle.std.proofs.Common.{◌+◌, ◌++◌, List, drop, arith, ap, sym, ◌∙◌}
use Rattle.irig_law.specs.Chains.{chains_from, chains_of}
use Rattle.irig_law.specs.declared.{chain.Chain.Chain, fine.Fine.Fine}
use Rattle.irig_law.proofs.ChainLists.{drop-at, drop-end, first-drop}
use Rattle.irig_law.proofs.chains.chains_of.Goals as goal

pub loop-place-init : goal.loop-place-init
loop-place-init c =
    let f = c.args.format in
    let xs = c.args.frames.now in
    let rest = drop 1 xs in
    record {
      many = let one = ap (λ (d : Chain). d.many) c.alone-chain.ensures in omega (arith, one);
      left = ap (λ (l : List Chain). l ++ chains_from f c.args.century c.alone-chain.result rest) c.new-list.ensures.items
          ∙ (ap (λ (d : Chain). chains_from f c.args.century d rest) c.alone-chain.ensures
          ∙ ap (λ (l : List Fine). chains_of f c.args.century l) (sym (first-drop Fine xs c.fine_at.result c.fine_at.ensures)));
    }

pub loop-place-preserved : goal.loop-place-preserved
loop-place-preserved c =
    let f = c.args.format in
    let xs = c.args.frames.now in
    let before = c.loop-place.invariant in
    let more = c.in_ok-chain.ensures.many in
    record {
      many = omega (arith, more, before.many);
      left = c.in_ok-chain.ensures.chains (drop (c.loop-place.place + 1) xs)
          ∙ (ap (λ (l : List Fine). c.loop-place.list.items ++ chains_from f c.args.century c.loop-place.chain l)
          (sym (drop-at Fine xs c.loop-place.place c.fine_at-frame.result c.fine_at-frame.ensures)) ∙ before.left);
    }

pub returns : goal.returns
returns c =
    let f = c.args.format in
    let xs = c.args.frames.now in
    record {
      chains = c.in_ok-push.ensures.items
          ∙ (ap (λ (l : List Fine). c.loop-place.list.items ++ chains_from f c.args.century c.loop-place.chain l)
          (sym (drop-end Fine xs c.loop-place.place c.loop-place-test.false)) ∙ c.loop-place.invariant.left);
    }
