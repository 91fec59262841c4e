-- What an edit of a stack leaves is its inverse. This project's own.
use Rattle.std.proofs.Common.{◌≡◌, ℕ, List, ap, ap₂}
use Rattle.irig_journal.specs.Held.{Alone, Group, Parts}
use Rattle.irig_journal.specs.Laws.Backs.{LeadsBack, lead_all_back, ways_back-ways_back}
use Rattle.irig_part_tests.specs.declared.stack.Single.{Single}
use Rattle.irig_part_tests.specs.Stack.{CanMake, made, CanEdit, edited}
use Rattle.irig_part_tests.specs.Laws.Stack.{CanMake-made, made-made}

-- any list of bytes is a stack
abbrev AnyList : List ℕ → Type 0
AnyList xs = Unit {0}

-- a push and a pop lead back
singles_lead_back : LeadsBack AnyList CanMake made
singles_lead_back = record {
  keeps = λ xs d _ can. tt;
  back_fits = λ xs d _ can. CanMake-made xs d can;
  back = λ xs d _ can. made-made xs d can;
}

-- the edit that leads back can be made
pub CanEdit-edited : (xs : List ℕ) (d : Parts Single) → CanEdit xs d
    → CanEdit (edited xs d).0 (edited xs d).1
CanEdit-edited xs (Alone single) can = CanMake-made xs single can
CanEdit-edited xs (Group singles) can =
    (lead_all_back AnyList CanMake made singles_lead_back xs singles tt can).fit

-- a stack, with an edit of one push or pop
abbrev pair_with_one : List ℕ × Single → List ℕ × Parts Single
pair_with_one p = (p.0, Alone p.1)

-- a stack, with a group
abbrev pub pair_with_group : List ℕ → List Single → List ℕ × Parts Single
pair_with_group xs singles = (xs, Group singles)

-- the edit that leads back gives back the stack and the edit
pub edited-edited : (xs : List ℕ) (d : Parts Single) → CanEdit xs d
    → edited (edited xs d).0 (edited xs d).1 ≡ (xs, d)
edited-edited xs (Alone single) can = ap pair_with_one (made-made xs single can)
edited-edited xs (Group singles) can =
    let laws = lead_all_back AnyList CanMake made singles_lead_back xs singles tt can in
    ap₂ pair_with_group laws.state (ways_back-ways_back CanMake made xs singles laws)
