use Rattle.std.proofs.Common.{◌≡◌, ℕ, List, Option, Ok}
use Rattle.std.proofs.lemmas.Result.{IfOk-weaker}
use Rattle.irig_vcd.specs.{Answer.bytes_of, Parts.dump_parts, declared.fault.VcdFault.VcdFault}
use Rattle.irig_edit.specs.Opened.Openings.{IsOpened, IsUnopened}
use Rattle.irig_edit.specs.{Opened.Parts.HasNoSession, Opened.Parts.IsSessionOf, Session.Session.SessionView}
use Rattle.irig_edit.proofs.OpenedLemmas.Parts.{closed_session, err_so, parts_of, parts_opened, parts_unopened}
use Rattle.irig_edit.proofs.session.session.Session.open_parts.Goals as goal

pub returns-in-Ok-clause-opened : goal.returns-in-Ok-clause-opened
returns-in-Ok-clause-opened c =
    let so : (s : SessionView) → IsSessionOf c.args.recording c.in-Ok.journal c.args.format s
    → (wire : Option (List ℕ)) (bytes : List ℕ) → dump_parts wire bytes ≡ Ok (c.args.recording, bytes_of c.args.journal)
    → IsOpened wire bytes c.args.format s =
    λ s is wire bytes read. parts_opened wire bytes _ _ _ s (parts_of wire bytes _ _ _ c.in-Ok.ensures.saved read) is in
    IfOk-weaker _ _ _ so c.session_with.ensures.opened

pub returns-in-Ok-clause-fault : goal.returns-in-Ok-clause-fault
returns-in-Ok-clause-fault c =
    let so : (e : VcdFault) → HasNoSession c.args.recording c.in-Ok.journal e
    → (wire : Option (List ℕ)) (bytes : List ℕ) → dump_parts wire bytes ≡ Ok (c.args.recording, bytes_of c.args.journal)
    → IsUnopened wire bytes e =
    λ e bad wire bytes read. parts_unopened wire bytes _ _ e (parts_of wire bytes _ _ _ c.in-Ok.ensures.saved read) bad in
    err_so _ _ _ so c.session_with.ensures.fault

pub returns-in-Ok-clause-closed : goal.returns-in-Ok-clause-closed
returns-in-Ok-clause-closed c = IfOk-weaker _ _ _ (λ s is. closed_session _ _ _ s is) c.session_with.ensures.opened
