use Rattle.std.proofs.Common.{[], ◌++◌, ◌∙◌, ap, length, refl}
use Rattle.std.proofs.KnownBytes.{Appends-nil, Appends-trans}
use Rattle.irig_disk.proofs.Parts.{more_text, whole_text}
use Rattle.irig_files.proofs.Blocks.{one_block_more}
use Rattle.irig_files.proofs.in_place.write_in_place.Goals as goal

pub loop-init : goal.loop-init
loop-init g c = ([], refl, refl, Appends-nil _)

pub loop-preserved : goal.loop-preserved
loop-preserved g c =
    let inv = c.loop.invariant in
    let done = c.in_ok-write_next.ensures.ok in
    (inv.0 ++ done.0, more_text inv.0 done.0 _ _ _ inv.1 done.1, one_block_more inv.0 done.0 _ _ inv.2 done.2, Appends-trans _ _ _ inv.0 done.0 inv.3 done.3)

pub returns-then-branch-clause-appended : goal.returns-then-branch-clause-appended
returns-then-branch-clause-appended g c =
    let inv = c.loop.invariant in
    let done = c.in_ok-write_next.ensures.ok in
    let whole = whole_text inv.0 done.0 _ _ _ inv.1 done.1 (c.in_ok-write_next.ensures.end c.if-branch.true) in
    rw whole at (Appends-trans _ _ _ inv.0 done.0 inv.3 done.3)

pub returns-then-branch-clause-count : goal.returns-then-branch-clause-count
returns-then-branch-clause-count g c =
    let inv = c.loop.invariant in
    let done = c.in_ok-write_next.ensures.ok in
    let whole = whole_text inv.0 done.0 _ _ _ inv.1 done.1 (c.in_ok-write_next.ensures.end c.if-branch.true) in
    one_block_more inv.0 done.0 _ _ inv.2 done.2 ∙ ap length whole
