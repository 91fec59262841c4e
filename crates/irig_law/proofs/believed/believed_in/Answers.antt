use Rattle.std.proofs.Common.{Bool, List, length, map, arith, ap, sym, ◌∙◌}
use Rattle.std.specs.Prelude.{◌==◌, ◌||◌, if◌then◌else◌}
use Rattle.std.proofs.lemmas.Bool.{cond-false, ne_eqb}
use Rattle.irig_law.specs.{Believed.is_true_at, Believed.kept, Chains.chains_of, OfOne.is_right}
use Rattle.irig_law.specs.declared.{fine.Fine.Fine, frame.Frame.Frame}
use Rattle.irig_law.proofs.ChainLists.{kept-same}
use Rattle.irig_law.proofs.believed.believed_in.Goals as goal

pub returns : goal.returns
returns c =
    let f = c.args.format in
    let xs = c.args.frames.now in
    let right = is_right f c.args.century (chains_of f c.args.century xs) in
    let one = c.if-frames-eq1.false in
    let off = λ (yes no : List Frame). ap (λ (b : Bool). if b || (length xs == 1) then yes else no) c.if-alone.false
    ∙ cond-false (length xs == 1) yes no (ne_eqb (length xs) 1 (λ e. omega (arith, e, one))) in
    let all = map (λ (x : Fine). x.frame) xs in
    record {
      believed = c.in_ok-list.ensures ∙ (ap (λ (l : List Bool). kept f c.args.century (is_true_at l) xs) c.deref.ensures.value
          ∙ (kept-same f c.args.century (is_true_at c.in_ok-right.right.items) right c.in_ok-right.ensures.right xs
          ∙ sym (off all (kept f c.args.century right xs))));
    }
