use Rattle.std.proofs.Common.{◌≡◌, ℕ, arith, subst}
use Rattle.irig_saved.specs.{Ranges.IsSingle, Ranges.AreSingles, SavedText.single_lines, SavedText.singles_lines, Reading.Reads}
use Rattle.irig_saved.proofs.{Carried.stopped, Repeats.row_begins, Repeats.row_next, Repeats.row_stops, SingleParts.single_family}
use Rattle.irig_saved.proofs.parts.singles.Goals as goal

pub loop-init : goal.loop-init
loop-init c = rw c.new-singles.ensures (row_begins IsSingle single_lines singles_lines single_family c.args.text.now)

pub loop-preserved : goal.loop-preserved
loop-preserved c =
    rw c.in-Ok-push.ensures.pushed (row_next IsSingle single_lines singles_lines single_family c.loop.counter c.args.text.now c.loop.singles c.loop.rest.now
    c.in-Ok.read.0 c.in-Ok.read.1.now c.loop.invariant c.in-Ok.ensures)

pub returns-in-Err : goal.returns-in-Err
returns-in-Err c =
    stopped c.in-Err.stop
    (λ rest s. row_stops IsSingle single_lines singles_lines single_family c.loop.counter c.args.count c.args.text.now c.loop.singles c.loop.rest.now rest
    (omega arith) c.loop.invariant s)
    (λ m. tt) c.in-Err.ensures

pub returns : goal.returns
returns c =
    let end : c.loop.counter ≡ c.args.count = omega arith in
    let P : ℕ → Type 0 = λ n. Reads (AreSingles n) singles_lines c.args.text.now c.loop.singles c.loop.rest.now in
    subst P end c.loop.invariant
