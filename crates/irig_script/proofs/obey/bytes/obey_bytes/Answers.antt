use Rattle.std.proofs.Common.{◌+◌, ◌++◌, ◌∷◌, [], take, drop, get_or, true, false}
use Rattle.std.proofs.lemmas.List.{append-nil, take_all}
use Rattle.irig_script.proofs.ObeyLemmas.Lines.{obeyed_none, obeyed_more, obeyed_rest, broke_more, broke_rest, next_text, whole_text}
use Rattle.irig_script.proofs.obey.bytes.obey_bytes.Goals as goal

pub loop-byte-init : goal.loop-byte-init
loop-byte-init g c = record {
  since = g.met.S.Shelf.since_now _;
  so_far = λ text h. rw append-nil (obeyed_none _ _ text _ _ h);
}

pub returns-in-Err-clause-err : goal.returns-in-Err-clause-err
returns-in-Err-clause-err g c = λ text h.
    let i = c.loop-byte.byte-index in
    let l = c.args.bytes.now in
    let part = broke_more _ _ _ _ _ _ _ _ (text ++ take i l) (get_or l i 0 ∷ []) c.loop-byte.line (c.loop-byte.invariant.so_far text h) c.in-Err.ensures.err in
    rw (← whole_text text l i c.loop-byte-test.true) (broke_rest _ _ _ _ _ (drop (i + 1) l) part)

pub returns-in-Ok-true-clause-ok : goal.returns-in-Ok-true-clause-ok
returns-in-Ok-true-clause-ok g c = λ text h.
    let step = rw c.in-Ok-true.field-0-test at c.in-Ok-true.ensures.ok in
    let i = c.loop-byte.byte-index in
    let l = c.args.bytes.now in
    let upto =
    obeyed_more true _ _ _ _ _ _ _ _ _ (text ++ take i l) (get_or l i 0 ∷ []) c.loop-byte.line c.obey_byte.new.line (c.loop-byte.invariant.so_far text h)
    step in
    rw (← whole_text text l i c.loop-byte-test.true) (obeyed_rest _ _ _ _ _ _ _ (drop (i + 1) l) c.obey_byte.new.line upto)

pub loop-byte-preserved : goal.loop-byte-preserved
loop-byte-preserved g c = record {
  since = g.met.S.Shelf.since_then _ _ _ c.loop-byte.invariant.since c.in-Ok-false.ensures.since;
  so_far = λ text h.
      let step = rw c.in-Ok-false.field-0-test at c.in-Ok-false.ensures.ok in
      let i = c.loop-byte.byte-index in
      let l = c.args.bytes.now in
      rw (← next_text text l i c.loop-byte-test.true) (obeyed_more false _ _ _ _ _ _ _ _ _ (text ++ take i l) (get_or l i 0 ∷ []) c.loop-byte.line
      c.obey_byte.new.line (c.loop-byte.invariant.so_far text h) step);
}

pub returns-clause-ok : goal.returns-clause-ok
returns-clause-ok g c = λ text h.
    let all = take_all c.loop-byte.byte-index c.args.bytes.now c.loop-byte-test.false in
    rw all at (c.loop-byte.invariant.so_far text h)
