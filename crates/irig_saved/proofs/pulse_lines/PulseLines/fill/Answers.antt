use Rattle.std.proofs.Common.{◌++◌, ◌+◌, ℕ, List, Option, ap, drop, sym, ◌∙◌, arith}
use Rattle.std.specs.Borrow.{Bor}
use Rattle.irig_saved.specs.{SavedText.pulse_line, SavedText.pulse_lines, LinesLeft.pulses_left}
use Rattle.irig_recording.specs.declared.pulse.Pulse.{Pulse}
use Rattle.irig_saved.proofs.LinesInRow.{line_first, pulses-end, pulses-next}
use Rattle.irig_saved.proofs.pulse_lines.PulseLines.fill.Goals as goal

pub loop-place-init : goal.loop-place-init
loop-place-init c = record {
  given = ap (λ (t : List ℕ). c.args.block.now.items ++ t) c.self.view_is;
  known = λ n. ap (λ (p : Option (Bor (List Pulse))). pulses_left p n) c.in-Some.is;
}

pub returns-then-len-enough-clause-bytes : goal.returns-then-len-enough-clause-bytes
returns-then-len-enough-clause-bytes c = c.loop-place.invariant.given

pub loop-place-preserved : goal.loop-place-preserved
loop-place-preserved c =
    let pulses = c.in-Some.pulses.now in
    let place = c.loop-place.place in
    let known = c.loop-place.invariant.known in
    record {
      given = ap (λ (t : List ℕ). c.put_pulse.new.text.items ++ t) (known (place + 1))
          ∙ (line_first c.loop-place.block.items c.put_pulse.new.text.items (pulse_line c.get.result) (pulse_lines (drop (place + 1) pulses))
          c.in-Ok.ensures
          ∙ (ap (λ (t : List ℕ). c.loop-place.block.items ++ t) (sym (known place ∙ pulses-next pulses place c.get.result c.get.ensures))
          ∙ c.loop-place.invariant.given));
      known = known;
    }

pub returns-clause-bytes : goal.returns-clause-bytes
returns-clause-bytes c =
    let pulses = c.in-Some.pulses.now in
    let inside = c.loop-place.self-inside in
    let known = c.loop-place.invariant.known in
    let none = pulses-end pulses c.len-len.result (omega (arith, c.len-len.ensures)) in
    let before = pulses-end pulses c.loop-place.place (omega (arith, c.len-len.ensures, c.loop-place-test.false)) in
    ap (λ (t : List ℕ). c.loop-place.block.items ++ t) (known c.len-len.result ∙ none ∙ sym before ∙ sym (known c.loop-place.place))
    ∙ c.loop-place.invariant.given

pub returns-clause-end : goal.returns-clause-end
returns-clause-end c =
    λ _. c.loop-place.invariant.known c.len-len.result ∙ pulses-end c.in-Some.pulses.now c.len-len.result (omega (arith, c.len-len.ensures))
