use Rattle.std.proofs.Common.{◌≡◌, Bool, ℕ, length, arith, sym, ap, ◌∙◌}
use Rattle.irig_law.specs.OfOne.{is_right}
use Rattle.irig_law.proofs.ChainLists.{right-past, rights-are}
use Rattle.irig_law.proofs.Each.{at-more, one-longer}
use Rattle.irig_law.proofs.believed.rights_in.Goals as goal

pub loop-one-preserved : goal.loop-one-preserved
loop-one-preserved c =
    let f = c.args.format in
    let cs = c.args.chains.now in
    let before = c.loop-one.invariant in
    let x = c.is_right-right.result in
    let xs = c.loop-one.list.items in
    let pushed = c.in_ok-push.ensures.items in
    let longer = one-longer Bool xs c.push.new.self.items x pushed in
    record {
      many = omega (arith, longer, before.many);
      each = at-more Bool xs c.push.new.self.items x (λ (i : ℕ) (y : Bool). y ≡ is_right f c.args.century cs i) pushed before.each
          (c.is_right-right.ensures ∙ ap (λ (i : ℕ). is_right f c.args.century cs i) (sym before.many));
    }

pub returns : goal.returns
returns c =
    let f = c.args.format in
    let cs = c.args.chains.now in
    let past : c.loop-one.one ≡ length cs = omega (arith, c.loop-one.auto.one-end, c.loop-one-test.false) in
    record {
      right = rights-are c.loop-one.list.items (length cs) (is_right f c.args.century cs) (c.loop-one.invariant.many ∙ past) c.loop-one.invariant.each
          (right-past f c.args.century cs);
    }
