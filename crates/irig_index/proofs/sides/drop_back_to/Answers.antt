use Rattle.std.proofs.Common.{◌≡◌, ◌-◌, ◌<◌, ◌∷◌, ◌++◌, [], length, ap, sym, ◌∙◌, arith, append_assoc, remove}
use Rattle.std.proofs.lemmas.{List.Edits.length-remove, Option.slice_get_within}
use Rattle.irig_index.specs.Sides.{left_of, right_of}
use Rattle.irig_index.proofs.SideLemmas.{left-cut, right-cut}
use Rattle.irig_index.proofs.sides.drop_back_to.Goals as goal

pub loop-records-2-preserved : goal.loop-records-2-preserved
loop-records-2-preserved c =
    let before = c.loop-records-2.invariant in
    let u = c.loop-records-2.records in
    let v = c.take_left.new.self in
    let n = c.args.pulses in
    let w = c.ends_within.ensures c.loop-records-2-test.true in
    let rest = c.take_left.ensures.rest (omega (arith, w.at)) in
    let number : u.place - 1 ≡ w.number = omega (arith, w.at) in
    let inside : w.number < length u.items = slice_get_within u.items w.number w.one w.there in
    let left = left-cut n w.number w.one u v w.at w.there rest in
    let right = right-cut n w.number w.one u v w.at w.there rest in
    record {
      gone = w.one ∷ before.gone;
      whole = before.whole
          ∙ (ap (λ rs. rs ++ (before.gone ++ right_of n u)) left
          ∙ (append_assoc (left_of v) (w.one ∷ []) (before.gone ++ right_of n u)
          ∙ ap (λ rs. left_of v ++ (w.one ∷ (before.gone ++ rs))) (sym right)));
      after = (w.after, before.after);
      up_to = (w.up_to, before.up_to);
      long = omega (
        arith,
        ap (λ g. length g.items) rest,
        length-remove u.items w.number inside,
        w.at,
        before.long,
        ap (λ k. length (remove u.items k)) number,
      );
      capacity = ap (λ g. g.capacity) rest ∙ before.capacity;
    }
