use Rattle.std.proofs.Common.{◌≡◌, ◌∷◌, [], None, Some, true, false, inr, refl, rules, sym, ◌∙◌}
use Rattle.irig_vcd.specs.{Code.Token.word_of, Journals.comment, Scan.comment_of, Sections.is_end}
use Rattle.irig_vcd.proofs.ScanSteps.{holds_end, past_shut, reaches_shut, stays, to_first, via}
use Rattle.irig_vcd.proofs.journals.Journals.take_comment.Goals as goal

pub returns-in_default-clause-read : goal.returns-in_default-clause-read
returns-in_default-clause-read c = λ code unit s k.
    let none : c.args.tokens.now ≡ [] = search rules in
    let left : c.next.new.self ≡ [] = search rules in
    rw (none, left) (stays code unit s [] c.args.self.now _ (inr refl) k)

pub returns-then-is_end-clause-read : goal.returns-then-is_end-clause-read
returns-then-is_end-clause-read c = λ code unit s k.
    let next : c.args.tokens.now ≡ word_of c.in-Some.first ∷ c.next.new.self = search rules in
    let w = word_of c.in-Some.first in
    let ends : is_end c.in-Some.first.slice.now ≡ true = sym c.is_end.ensures ∙ c.if-is_end.true in
    rw next (reaches_shut code unit s _ c.next.new.self (comment w w.offset) _ (past_shut code unit s w c.next.new.self k.means ends)
    (holds_end c.args.self.now s w ends k.holds))

pub returns-clause-read : goal.returns-clause-read
returns-clause-read c = λ code unit s k.
    let next : c.args.tokens.now ≡ word_of c.in-Some.first ∷ c.next.new.self = search rules in
    let w = word_of c.in-Some.first in
    let dark : is_end c.in-Some.first.slice.now ≡ false = sym c.is_end.ensures ∙ c.if-is_end.false in
    rw next (via code unit s (comment_of (Some w)) _ c.next.new.self None _ _ _ (to_first code unit s w c.next.new.self k.means dark)
    (c.take_rest.ensures.read code unit (record s { opened = comment_of (Some w) })
    (record { holds = k.holds; means = (w, refl, c.journal_at.ensures) })))
