use Rattle.std.proofs.Common.{◌≡◌, ◌∙◌, ◌++◌, ◌∷◌, ◌-◌, ◌/◌, [], ℕ, List, true, false, length, refl, ap, sym, arith}
use Rattle.irig_recording.specs.{KeptPulse.HoldsPulse, KeptPulse.last_four, KeptPulse.front, FileText.lines_at}
use Rattle.irig_recording.proofs.{PulseText.digits_put, PulseText.parts_put, PulseText.edge_line, kept_pulse.KeptPulse.put.Goals.After-put_four-2}
use Rattle.irig_recording.proofs.kept_pulse.KeptPulse.put.Goals as goal

-- the lines hold both times, whether or not they were written
held : (c : After-put_four-2) → HoldsPulse (record c.args.self.now { bytes = c.put_four-2.new.bytes })
held c =
    let h = c.requires.holds in
    let p = c.args.self.now in
    record {
      rise = last_four (c.args.rise - p.base);
      fall = last_four (c.args.fall - p.base);
      pad = h.pad;
      is = digits_put p c.put_four.new.bytes c.put_four-2.new.bytes (last_four (c.args.rise - p.base)) (last_four (c.args.fall - p.base)) h refl
          c.put_four.ensures.before c.put_four.ensures.written c.put_four-2.ensures.before c.put_four-2.ensures.written;
      of_rise = refl;
      of_fall = refl;
      fits = h.fits;
      short = h.short;
      whole = h.whole;
      some = h.some;
    }

pub returns-in_err-extend_from_slice-clause-holds : goal.returns-in_err-extend_from_slice-clause-holds
returns-in_err-extend_from_slice-clause-holds c = held (goal.at.returns-in_err-extend_from_slice-clause-holds c).After-put_four-2

pub returns-clause-holds : goal.returns-clause-holds
returns-clause-holds c = held (goal.at.returns-clause-holds c).After-put_four-2

pub returns-clause-text : goal.returns-clause-text
returns-clause-text c =
    let h = c.requires.holds in
    let p = c.args.self.now in
    let text = c.args.text.now.items in
    let x = last_four (c.args.rise - p.base) in
    let y = last_four (c.args.fall - p.base) in
    let k = p.base / 10000 in
    let is = digits_put p c.put_four.new.bytes c.put_four-2.new.bytes x y h refl c.put_four.ensures.before c.put_four.ensures.written
    c.put_four-2.ensures.before c.put_four-2.ensures.written in
    let len : c.len-len.result ≡ length text = omega (arith, c.len-len.ensures) in
    let up = edge_line true p.base c.args.rise h.some h.whole c.requires.rise.from c.requires.rise.below (omega arith) in
    let down = edge_line false p.base c.args.fall h.some h.whole c.requires.fall.from c.requires.fall.below (omega arith) in
    c.truncate.ensures.items
    ∙ (rw (c.in_ok-extend_from_slice.ensures.items, len) (parts_put text c.put_four-2.new.bytes x y h.pad k p.long is refl refl h.fits h.short)
    ∙ (ap (λ (l : List ℕ). (text ++ l) ++ (front k ++ (y ++ (10 ∷ 48 ∷ 33 ∷ 10 ∷ [])))) (sym up)
    ∙ ap (λ (l : List ℕ). (text ++ lines_at true c.args.rise) ++ l) (sym down)))
