use Rattle.std.proofs.Common.{◌≡◌, ◌≤◌, ◌∙◌, ◌++◌, ◌∷◌, ◌+◌, ◌-◌, ◌/◌, ◌%◌, ℕ, List, length, set, take, drop, decimal, refl, ap, arith}
use Rattle.std.proofs.lemmas.{Fmt.length-decimal-le, List.length-append}
use Rattle.irig_recording.specs.KeptPulse.{last_four}
use Rattle.irig_recording.proofs.{PulseText.four_last, PulseText.level_again, PulseText.lines_made, TextParts.level_set, TextParts.digits_before}
use Rattle.irig_recording.proofs.kept_pulse.KeptPulse.renew.Goals as goal

pub returns-clause-holds : goal.returns-clause-holds
returns-clause-holds c =
    let time = c.args.time in
    let start = c.put_digits-start.result in
    let lines = c.requires.lines in
    let few : length (decimal time) ≤ 15 = length-decimal-le 15 time (omega arith) (omega arith) (omega arith) in
    let base : (time - time % 10000) / 10000 ≡ time / 10000 = omega arith in
    let digits = four_last time c.requires.some (omega arith) in
    let high = c.put_digits-start.ensures.written ∙ ap (λ (l : List ℕ). 35 ∷ decimal time ++ l)
    (level_set c.args.line.now 49 lines.level lines.pad lines.ends) in
    let low = level_again c.put_digits-start.new.line (decimal time) lines.pad start 49 48 high c.put_digits-start.ensures.start in
    let long : length (decimal time) ≡ length (decimal (time / 10000)) + 4 =
    ap length digits ∙ length-append (decimal (time / 10000)) (last_four (time % 10000)) in
    record {
      rise = last_four (time % 10000);
      fall = last_four (time % 10000);
      pad = take (start - 1) lines.pad ++ drop (25 - start + 24) c.put_part.new.bytes;
      is = rw base (lines_made c.put_digits-start.new.line (set c.put_digits-start.new.line 22 48) c.args.self.now.bytes c.put_part.new.bytes
          c.put_part-2.new.bytes lines.pad start (time / 10000) (decimal time) (last_four (time % 10000))
          digits refl c.put_digits-start.ensures.start (omega (arith, few, c.put_digits-start.ensures.start)) high low c.put_part.ensures c.put_part-2.ensures);
      of_rise = refl;
      of_fall = refl;
      fits = rw base (omega (arith, long, c.put_digits-start.ensures.start));
      short = omega (arith, few, c.put_digits-start.ensures.start);
      whole = omega arith;
      some = omega (arith, c.requires.some);
    }

pub returns-clause-lines : goal.returns-clause-lines
returns-clause-lines c =
    let lines = c.requires.lines in
    record {
      level = 48;
      pad = lines.pad;
      ends = level_set c.put_digits-start.new.line 48 49 lines.pad
          (digits_before c.put_digits-start.new.line (set c.args.line.now 22 49) (decimal c.args.time) c.put_digits-start.result
          c.put_digits-start.ensures.written c.put_digits-start.ensures.start
          ∙ level_set c.args.line.now 49 lines.level lines.pad lines.ends);
    }
