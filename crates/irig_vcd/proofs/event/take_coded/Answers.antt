use Rattle.std.proofs.Common.{◌≡◌, ◌∷◌, [], Bool, true, None, Ok, cond, inr, refl, ap, rules, ◌∙◌}
use Rattle.std.specs.Str.{bytes_eq}
use Rattle.irig_vcd.specs.{Code.Token.word_of, Scan.closed, Scan.code_of}
use Rattle.irig_vcd.proofs.ScanSteps.{keeps_open, stays, takes_coded, takes_via, to_value, via}
use Rattle.irig_vcd.proofs.event.take_coded.Goals as goal

pub returns-in-None-clause-takes : goal.returns-in-None-clause-takes
returns-in-None-clause-takes c = λ unit s j none k.
    let no : c.args.tokens.now ≡ [] = search rules in
    let left : c.next.new.self ≡ [] = search rules in
    let w = word_of c.args.token in
    rw (no, left) (via c.args.code.now unit s (code_of w) (w ∷ []) [] None [] j _ (to_value c.args.code.now unit s w [] none c.requires)
    (stays c.args.code.now unit (record s { opened = code_of w }) [] j _ (inr refl) (record {
      holds = k.holds;
      means = (w, refl, record { offset = refl; level = c.own_level-level.ensures });
    })))

pub returns-in-Some-clause-takes : goal.returns-in-Some-clause-takes
returns-in-Some-clause-takes c = λ unit s j none k.
    let next : c.args.tokens.now ≡ word_of c.in-Some.next ∷ c.next.new.self = search rules in
    let same : bytes_eq c.in-Some.next.slice.now c.args.code.now ≡ true = search rules in
    let w = word_of c.args.token in
    let v = word_of c.in-Some.next in
    rw next (takes_via c.own_level.result c.args.code.now unit s (code_of w) (w ∷ v ∷ c.next.new.self) (v ∷ c.next.new.self) c.next.new.self j _
    (to_value c.args.code.now unit s w (v ∷ c.next.new.self) none c.requires)
    (takes_coded c.own_level.result c.args.code.now unit (record s { opened = code_of w }) w v c.next.new.self j _ refl
    (c.own_level.ensures c.args.code.now c.in-Some.next.slice.now ∙ ap (λ (b : Bool). cond b c.own_level.result (Ok None)) same)
    k.holds (keeps_open s j c.args.pending.now closed k none)))
