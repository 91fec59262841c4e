use Rattle.std.proofs.Common.{◌≡◌, ◌∷◌, [], Bool, true, false, Ok, None, cond, refl, inr, ap, subst, rules, ◌∙◌}
use Rattle.std.specs.Str.{bytes_eq}
use Rattle.irig_vcd.specs.{Code.Pending.Means, Code.Token.word_of}
use Rattle.irig_vcd.proofs.ScanSteps.{stays, takes_coded}
use Rattle.irig_vcd.proofs.event.take_code.Goals as goal

pub returns-in_default-clause-takes : goal.returns-in_default-clause-takes
returns-in_default-clause-takes c = λ unit s j k.
    let none : c.args.tokens.now ≡ [] = search rules in
    let left : c.next.new.self ≡ [] = search rules in
    rw (none, left) (stays c.args.code.now unit s [] j c.args.pending.now (inr refl) k)

pub returns-then-eq-clause-takes : goal.returns-then-eq-clause-takes
returns-then-eq-clause-takes c = λ unit s j k.
    let next : c.args.tokens.now ≡ word_of c.in-Some.next ∷ c.next.new.self = search rules in
    let same : bytes_eq c.in-Some.next.slice.now c.args.code.now ≡ true = search rules in
    let m = subst (λ p. Means p s.opened) c.requires k.means in
    rw next (takes_coded c.args.value.level c.args.code.now unit s m.0 (word_of c.in-Some.next) c.next.new.self j _ m.1
    (m.2.level c.args.code.now c.in-Some.next.slice.now ∙ ap (λ (b : Bool). cond b c.args.value.level (Ok None)) same) k.holds refl)

pub returns-else-eq-clause-takes : goal.returns-else-eq-clause-takes
returns-else-eq-clause-takes c = λ unit s j k.
    let next : c.args.tokens.now ≡ word_of c.in-Some.next ∷ c.next.new.self = search rules in
    let same : bytes_eq c.in-Some.next.slice.now c.args.code.now ≡ false = search rules in
    let m = subst (λ p. Means p s.opened) c.requires k.means in
    rw next (takes_coded (Ok None) c.args.code.now unit s m.0 (word_of c.in-Some.next) c.next.new.self j _ m.1
    (m.2.level c.args.code.now c.in-Some.next.slice.now ∙ ap (λ (b : Bool). cond b c.args.value.level (Ok None)) same) k.holds refl)
