use Rattle.std.proofs.Common.{◌≡◌, ◌+◌, ◌≤◌, count_by, drop}
use Rattle.irig_comments.proofs.FineFrames.{fine_record}
use Rattle.irig_comments.proofs.framed.Framed.fine.Given as goal

-- what is counted, and what is left
abbrev pub invariant-loop-place : goal.invariant-loop-place
invariant-loop-place l =
    (l.count + count_by fine_record (drop l.place l.self-inside.index.records) ≡ count_by fine_record l.self-inside.index.records) × (l.count ≤ l.place)
