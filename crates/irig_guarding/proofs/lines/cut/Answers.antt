use Rattle.std.proofs.Common.{◌≡◌, ◌≤◌, ◌+◌, ◌++◌, ℕ, length, take, arith, ap, sym, subst, ◌∙◌}
use Rattle.irig_script.specs.Obey.Run.{IsPlain, unlines}
use Rattle.irig_guarding.specs.Repair.{texts}
use Rattle.irig_guarding.proofs.{GuardLemmas.on_ok, TrialLemmas.lines_read}
use Rattle.irig_guarding.proofs.LineLemmas.{line_cut, part, plain_none, plain_on, read_on}
use Rattle.irig_guarding.proofs.lines.cut.Goals.{else-script-at-eq10, then-script-at-eq10+in_ok-put_next}
use Rattle.irig_guarding.proofs.lines.cut.Goals as goal

pub loop-at-preserved : goal.loop-at-preserved
loop-at-preserved c =
    let l = c.loop-at in
    let script = c.args.script.now in
    let now = c.if-script-at-eq10 in
    elim now.branch [
      | then-script-at-eq10+in_ok-put_next w ↦
          (let h = line_cut script l.begin l.at (texts l.lines.items) (texts w.put_next.new.lines.items) c.loop-at-test.true w.if-script-at-eq10.true
          w.in_ok-put_next.ensures l.invariant.read in
          record {
            order = omega (arith, w.begin-is);
            plain = subst (λ (n : ℕ). IsPlain (part n (l.at + 1) script)) (sym w.begin-is) (plain_none script (l.at + 1));
            read = subst (λ (n : ℕ). take (l.at + 1) script ≡ unlines (texts now.lines.items) ++ part n (l.at + 1) script) (sym w.begin-is)
                (subst (λ v. take (l.at + 1) script ≡ unlines (texts v.items) ++ part (l.at + 1) (l.at + 1) script) (sym w.lines-is) h);
          })
      | else-script-at-eq10 w ↦
          (let h = read_on script l.begin l.at (texts l.lines.items) l.invariant.order c.loop-at-test.true l.invariant.read in
          record {
            order = omega (arith, w.begin-is, l.invariant.order);
            plain = subst (λ (n : ℕ). IsPlain (part n (l.at + 1) script)) (sym w.begin-is)
                (plain_on script l.begin l.at l.invariant.order c.loop-at-test.true w.if-script-at-eq10.false l.invariant.plain);
            read = subst (λ (n : ℕ). take (l.at + 1) script ≡ unlines (texts now.lines.items) ++ part n (l.at + 1) script) (sym w.begin-is)
                (subst (λ v. take (l.at + 1) script ≡ unlines (texts v.items) ++ part l.begin (l.at + 1) script) (sym w.lines-is) h);
          })
    ]

pub returns : goal.returns
returns c =
    let l = c.loop-at in
    let script = c.args.script.now in
    let end : l.at ≡ length script = omega (arith, c.loop-at-test.false, l.auto.at-end) in
    let past : length script ≤ l.at = omega (arith, end) in
    let read = l.invariant.read ∙ ap (λ (n : ℕ). unlines (texts l.lines.items) ++ part l.begin n script) end in
    on_ok c.put_last.result c.put_last.ensures
    (λ e. lines_read script (part l.begin (length script) script) l.lines.items c.put_last.new.lines.items l.at past read e)
