use Rattle.std.proofs.Common.{◌+◌, ◌++◌, ℕ, Bool, List, [], drop, arith, ap, sym, ◌∙◌, append_assoc}
use Rattle.std.proofs.lemmas.List.{append-nil}
use Rattle.irig_law.specs.Believed.{chain_after, is_true_at, kept, kept_from, with_frame}
use Rattle.irig_law.specs.declared.{fine.Fine.Fine, frame.Frame.Frame}
use Rattle.irig_law.proofs.ChainLists.{drop-at, drop-end, first-drop, with-rest}
use Rattle.irig_law.proofs.believed.kept.Goals as goal

pub loop-place-init : goal.loop-place-init
loop-place-init c =
    let f = c.args.format in
    let xs = c.args.frames.now in
    let x = c.fine_at-before.result in
    let right = is_true_at c.args.right.now in
    let rest = kept_from f c.args.century right 0 x (drop 1 xs) in
    let b = c.is_true_at.ensures in
    record {
      low = omega arith;
      left = ap (λ (l : List Frame). l ++ rest) c.in_ok-keep.ensures
          ∙ (ap (λ (l : List Frame). (l ++ with_frame c.is_true_at.result x []) ++ rest) c.new-list.ensures.items
          ∙ (with-rest c.is_true_at.result x rest ∙ (ap (λ (b : Bool). with_frame b x rest) b
          ∙ ap (λ (l : List Fine). kept f c.args.century right l) (sym (first-drop Fine xs x c.fine_at-before.ensures)))));
    }

pub loop-place-preserved : goal.loop-place-preserved
loop-place-preserved c =
    let f = c.args.format in
    let xs = c.args.frames.now in
    let right = is_true_at c.args.right.now in
    let before = c.loop-place.invariant in
    let k = c.loop-place.place in
    let old = c.loop-place.list.items in
    let x = c.fine_at-frame.result in
    let n = c.chain_after-number.result in
    let next = chain_after f c.args.century c.loop-place.number c.loop-place.before x in
    let rest = λ (m : ℕ). kept_from f c.args.century right m x (drop (k + 1) xs) in
    let few = c.chain_after-number.ensures.low in
    record {
      low = omega (arith, few, before.low);
      left = ap (λ (l : List Frame). l ++ rest n) c.in_ok-keep-2.ensures
          ∙ (append_assoc old (with_frame c.is_true_at-in-loop-place.result x []) (rest n)
          ∙ (ap (λ (l : List Frame). old ++ l) (with-rest c.is_true_at-in-loop-place.result x (rest n))
          ∙ (ap (λ (b : Bool). old ++ with_frame b x (rest n)) c.is_true_at-in-loop-place.ensures
          ∙ (ap (λ (m : ℕ). old ++ with_frame (right m) x (rest m)) c.chain_after-number.ensures.number
          ∙ (ap (λ (l : List Fine). old ++ kept_from f c.args.century right c.loop-place.number c.loop-place.before l)
          (sym (drop-at Fine xs k x c.fine_at-frame.ensures)) ∙ before.left)))));
    }

pub returns : goal.returns
returns c =
    let f = c.args.format in
    let xs = c.args.frames.now in
    let list = c.loop-place.list.items in
    sym (append-nil list) ∙ (ap (λ (l : List Fine). list ++ kept_from f c.args.century (is_true_at c.args.right.now) c.loop-place.number c.loop-place.before l)
    (sym (drop-end Fine xs c.loop-place.place c.loop-place-test.false)) ∙ c.loop-place.invariant.left)
