-- A window of two times, wherever their texts lie in memory, and the path of what is written of it.
use Rattle.std.proofs.Common.{◌≡◌, ◌&&◌, ℕ, true, false, not, List, Option, Some, None, refl, subst, sym}
use Rattle.std.specs.Prelude.{is_some}
use denote.Ref.{Bor}
use Rattle.irig_vcd.specs.declared.window.Window.{Window}
use Rattle.irig_words.specs.{Formats.given, Windows.HasWindowFault, Windows.IsWindow, Windows.is_given}
use Rattle.irig_words.specs.declared.windows.WindowFault.{WindowFault}

module _ (from to first end : Option (List ℕ)) (is_first : from ≡ first) (is_end : to ≡ end) where
  -- the window of the same texts
  pub same_window : (window : Option Window) → IsWindow from to window → IsWindow first end window
  same_window window h = subst (λ (t : Option (List ℕ)). IsWindow t end window) is_first
      (subst (λ (t : Option (List ℕ)). IsWindow from t window) is_end h)

  -- and their fault
  pub same_fault : (why : WindowFault) → HasWindowFault from to why → HasWindowFault first end why
  same_fault why h = subst (λ (t : Option (List ℕ)). HasWindowFault t end why) is_first
      (subst (λ (t : Option (List ℕ)). HasWindowFault from t why) is_end h)

-- a window that does not lack a path has one
pub has_path : (window : Option Window) (out : Option (Bor (List ℕ))) (path : Option (List ℕ)) → (is_some window && not (is_some out)) ≡ false
    → given out ≡ path → is_some window ≡ true → is_some path ≡ true
has_path None out path tested is asked = absurd (cc asked)
has_path (Some w) None path tested is asked = absurd (cc tested)
has_path (Some w) (Some text) path tested is asked = subst (λ (t : Option (List ℕ)). is_some t ≡ true) is refl

-- one that lacks it was asked for, and no path was
pub lacks_path : (from to : Option (List ℕ)) (window : Option Window) (out : Option (Bor (List ℕ))) (path : Option (List ℕ))
    → (is_some window && not (is_some out)) ≡ true → given out ≡ path → IsWindow from to window → (is_given from to ≡ true) × (path ≡ None)
lacks_path from to None out path tested is between = absurd (cc tested)
lacks_path from to (Some w) (Some text) path tested is between = absurd (cc tested)
lacks_path from to (Some w) None path tested is between = (between.0, sym is)
