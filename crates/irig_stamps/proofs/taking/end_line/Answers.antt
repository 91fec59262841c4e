use Rattle.std.proofs.Common.{rules, ◌≡◌, List, ℕ, subst}
use Rattle.irig_stamps.specs.{Looks.look_at, Outs.IsOut, Outs.header_word}
use Rattle.irig_stamps.proofs.TakenBytes.{line-taken}
use Rattle.irig_stamps.proofs.taking.end_line.Goals as goal

pub returns-clause-taken : goal.returns-clause-taken
returns-clause-taken c =
    let f = c.args.format in
    let ps = c.args.pulses.now.track.pulses in
    let s = c.args.settings.now in
    let was = c.args.state.now in
    let st = c.in_ok-look.ensures.out in
    let is = subst (λ (l : List ℕ). IsOut f ps s (header_word s was.count) l st.0) c.as_slice-line.ensures.value st.1 in
    let look = subst (λ (l : List ℕ). c.in_ok-look.look ≡ look_at s was.count l st.0) c.as_slice-line.ensures.value st.3 in
    line-taken f ps s was c.args.text.now.items c.put_line_out.new.text.items st.0 _ c.in_ok-look.look _ _ c.requires.ready.1.1.1.1 is st.2 look
    c.clear.ensures.items (search rules) c.add.ensures
