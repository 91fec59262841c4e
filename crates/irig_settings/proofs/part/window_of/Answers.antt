use Rattle.std.proofs.Common.{◌∙◌, sym}
use Rattle.irig_settings.proofs.Parts.{has_path, lacks_path, same_fault, same_window}
use Rattle.irig_settings.proofs.part.window_of.Goals as goal

pub returns-in-Err-clause-fault : goal.returns-in-Err-clause-fault
returns-in-Err-clause-fault c = same_fault _ _ _ _ c.get_str-from.ensures c.get_str-to.ensures c.in-Err.fault c.in-Err.ensures.fault

pub returns-then-lacks_path-clause-fault : goal.returns-then-lacks_path-clause-fault
returns-then-lacks_path-clause-fault c = lacks_path _ _ c.in-Ok.window _ _ (sym c.lacks_path.ensures ∙ c.if-lacks_path.true) c.get_str-out.ensures
    (same_window _ _ _ _ c.get_str-from.ensures c.get_str-to.ensures c.in-Ok.window c.in-Ok.ensures.window)

pub returns-clause-part : goal.returns-clause-part
returns-clause-part c = record {
  between = same_window _ _ _ _ c.get_str-from.ensures c.get_str-to.ensures c.in-Ok.window c.in-Ok.ensures.window;
  apart = has_path c.in-Ok.window _ _ (sym c.lacks_path.ensures ∙ c.if-lacks_path.false) c.get_str-out.ensures;
}
