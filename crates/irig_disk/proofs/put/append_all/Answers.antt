use Rattle.std.proofs.Common.{◌+◌, ◌++◌, ◌∙◌, ap, length}
use Rattle.irig_disk.proofs.{Parts.more_text, Parts.whole_text, Parts.more_count, Adding.adds_more, Adding.spoils_later}
use Rattle.irig_disk.proofs.put.append_all.Goals as goal

pub returns-in-Ok-true-clause-count : goal.returns-in-Ok-true-clause-count
returns-in-Ok-true-clause-count g c =
    let inv = c.parts.invariant in
    let done = c.in-Ok-true.ensures.ok in
    let whole = whole_text inv.so_far done.0 _ _ _ inv.whole done.1 (c.in-Ok-true.ensures.end c.in-Ok-true.field-0-test) in
    more_count inv.so_far done.0 _ _ _ inv.count done.2 ∙ ap (λ all. c.args.new.now.count + length all) whole

pub returns-in-Ok-true-clause-ok : goal.returns-in-Ok-true-clause-ok
returns-in-Ok-true-clause-ok g c told =
    let inv = c.parts.invariant in
    let done = c.in-Ok-true.ensures.ok in
    let whole = whole_text inv.so_far done.0 _ _ _ inv.whole done.1 (c.in-Ok-true.ensures.end c.in-Ok-true.field-0-test) in
    rw whole at (adds_more _ _ _ _ _ _ _ _ inv.so_far done.0 (λ j. g.F.Folder.place (inv.dir j) (inv.beside j)) inv.file (inv.adds told) (done.3 told))

pub returns-in-Err-clause-err : goal.returns-in-Err-clause-err
returns-in-Err-clause-err g c told =
    let inv = c.parts.invariant in
    spoils_later _ _ _ _ _ _ _ _ inv.so_far (λ j. g.F.Folder.place (inv.dir j) (inv.beside j)) inv.file (inv.adds told) (c.in-Err.ensures.err told)

pub parts-preserved : goal.parts-preserved
parts-preserved g c =
    let inv = c.parts.invariant in
    let done = c.in-Ok-false.ensures.ok in
    record {
      dir = c.append_next.ensures.dir ∙ inv.dir;
      beside = c.append_next.ensures.beside ∙ inv.beside;
      target = c.append_next.ensures.target ∙ inv.target;
      mode = c.append_next.ensures.mode ∙ inv.mode;
      file = c.append_next.ensures.file ∙ inv.file;
      so_far = inv.so_far ++ done.0;
      whole = more_text inv.so_far done.0 _ _ _ inv.whole done.1;
      count = more_count inv.so_far done.0 _ _ _ inv.count done.2;
      adds = λ told. adds_more _ _ _ _ _ _ _ _ inv.so_far done.0 (λ j. g.F.Folder.place (inv.dir j) (inv.beside j)) inv.file (inv.adds told) (done.3 told);
    }
