use Rattle.std.proofs.Common.{◌≡◌, ◌∙◌, ◌∷◌, [], Option, rules}
use Rattle.irig_vcd.specs.{Code.Scanned.Leads, Code.Token.word_of, Scan.Scan, declared.fault.VcdFault.VcdFault}
use Rattle.irig_vcd.proofs.{ScanSteps.leads_as, changes.follow_on.Goals.After-take_token}
use Rattle.irig_vcd.proofs.changes.follow_on.Goals as goal

-- where the code is before the token that is taken
at_token : (c : After-take_token) (end : Scan × Option VcdFault)
    → Leads c.args.code.now c.args.unit end c.args.trace.now c.args.from c.args.journals.now c.args.pending.now c.args.tokens.now
    → Leads c.args.code.now c.args.unit end c.follow_short.new.trace c.in-Ok.now c.tokens.journals c.tokens.pending
    (word_of c.in-Some.token ∷ c.next.new.self)
at_token c end l =
    let next : c.follow_short.new.tokens ≡ word_of c.in-Some.token ∷ c.next.new.self = search rules in
    leads_as c.args.code.now c.args.unit end c.follow_short.new.trace c.in-Ok.now c.tokens.journals c.tokens.pending c.follow_short.new.tokens _ next
    (c.in-Ok.ensures.scans end c.tokens.journals c.tokens.pending (c.tokens.invariant.leads end l))

pub returns-in-Err-clause-scans : goal.returns-in-Err-clause-scans
returns-in-Err-clause-scans c = λ end l. c.in-Err.ensures.scans end c.tokens.journals c.tokens.pending (c.tokens.invariant.leads end l)

pub returns-in_default-clause-scans : goal.returns-in_default-clause-scans
returns-in_default-clause-scans c = λ end l.
    let none : c.follow_short.new.tokens ≡ [] = search rules in
    leads_as c.args.code.now c.args.unit end c.follow_short.new.trace c.in-Ok.now c.tokens.journals c.tokens.pending c.follow_short.new.tokens _ none
    (c.in-Ok.ensures.scans end c.tokens.journals c.tokens.pending (c.tokens.invariant.leads end l))

pub tokens-preserved : goal.tokens-preserved
tokens-preserved c = record {
  time = c.in-Ok-take_token.ensures.time;
  extent = c.take_token.ensures.extent ∙ (c.follow_short.ensures.extent ∙ c.tokens.invariant.extent);
  leads = λ end l. c.in-Ok-take_token.ensures.scans end (at_token (goal.at.tokens-preserved c).After-take_token end l);
}

pub returns-in-Err-take_token-clause-scans : goal.returns-in-Err-take_token-clause-scans
returns-in-Err-take_token-clause-scans c = λ end l.
    c.in-Err-take_token.ensures.scans end (at_token (goal.at.returns-in-Err-take_token-clause-scans c).After-take_token end l)
