use Rattle.std.proofs.Common.{◌≡◌, ◌≤◌, ◌+◌, ◌-◌, ℕ, List, length, min, ap, subst, ◌∙◌, arith}
use Rattle.std.specs.Io.KnownBytes.{Appends}
use Rattle.irig_script.specs.Print.Listings.{list_text}
use Rattle.irig_script.proofs.PrintLemmas.Pieces.{listing_more, listing_front, listing_whole, piece_written}
use Rattle.irig_script.proofs.print.pulse_lines.print_in_blocks.Goals as goal

pub loop-done-preserved : goal.loop-done-preserved
loop-done-preserved g c =
    let s = c.args.session.now.state in
    let b = c.args.before in
    let d = c.loop-done.done in
    let k = c.min-lines.result in
    let few : d + k ≤ c.min-there.result = omega (arith, c.min-lines.ensures, c.loop-done-test.true) in
    let within : b + d ≤ length s.pulses = omega (arith, c.loop-done-test.true, c.min-there.ensures, c.saturating_sub.ensures, c.len.ensures) in
    let whole = piece_written s (b + d) k c.write_pulses-start.result c.write_pulses-start.new.bytes c.write_pulses-start.ensures.written in (
      few,
      c.write_pulses-start.ensures.within.1 ∙ c.loop-done.invariant.1,
      listing_more s b d k _ _ _ within c.loop-done.invariant.2 (rw whole at c.in-Ok.ensures),
    )

pub returns-in-Err : goal.returns-in-Err
returns-in-Err g c =
    let s = c.args.session.now.state in
    let b = c.args.before in
    let d = c.loop-done.done in
    let k = c.min-lines.result in
    let few : d + k ≤ c.args.count = omega (arith, c.min-lines.ensures, c.loop-done-test.true, c.min-there.ensures) in
    let within : b + (d + k) ≤ length s.pulses = omega (
      arith,
      c.min-lines.ensures,
      c.loop-done-test.true,
      c.min-there.ensures,
      c.saturating_sub.ensures,
      c.len.ensures,
    ) in
    let whole = piece_written s (b + d) k c.write_pulses-start.result c.write_pulses-start.new.bytes c.write_pulses-start.ensures.written in
    listing_front s b d k c.args.count _ _ _ within few c.loop-done.invariant.2 (rw whole at c.in-Err.ensures)

pub returns : goal.returns
returns g c =
    let s = c.args.session.now.state in
    let b = c.args.before in
    let last : c.loop-done.done ≡ c.min-there.result = omega (arith, c.loop-done.invariant.0, c.loop-done-test.false) in
    let there : c.min-there.result ≡ min c.args.count (length s.pulses - b) =
    c.min-there.ensures ∙ ap (λ n. min c.args.count n) (c.saturating_sub.ensures ∙ ap (λ n. n - b) c.len.ensures) in
    let all : list_text b c.loop-done.done s ≡ list_text b c.args.count s = ap (λ k. list_text b k s) (last ∙ there) ∙ listing_whole s b c.args.count in
    subst (λ (t : List ℕ). Appends (g.W.Write.contents c.args.out.now) (g.W.Write.contents c.loop-done.out) t) all c.loop-done.invariant.2
