use Rattle.std.proofs.Common.{◌≡◌, ◌<◌, ◌^◌, ℕ, arith, sym, ap, ◌∙◌}
use Rattle.irig_law.specs.OfOne.{size_of}
use Rattle.irig_law.proofs.Each.{at-more, one-longer}
use Rattle.irig_law.proofs.of_one.sizes_of.Goals as goal

pub loop-one-preserved : goal.loop-one-preserved
loop-one-preserved c =
    let f = c.args.format in
    let cs = c.args.chains.now in
    let before = c.loop-one.invariant in
    let x = c.size_of.result in
    let xs = c.loop-one.list.items in
    let pushed = c.in_ok-push.ensures.items in
    let longer = one-longer ℕ xs c.push.new.self.items x pushed in
    record {
      many = omega (arith, longer, before.many);
      each = at-more ℕ xs c.push.new.self.items x (λ (i n : ℕ). (n ≡ size_of f c.args.century cs i) × (n < 2 ^ 80)) pushed before.each
          (c.size_of.ensures.size ∙ ap (λ (i : ℕ). size_of f c.args.century cs i) (sym before.many), c.size_of.ensures.low);
    }
