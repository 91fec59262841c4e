-- The text of a session that is kept before repairs are tried, since these take away what can be
-- redone. This project's own.
use Rattle.std.specs.Prelude.{◌≡◌, ℕ, List, [], ◌∷◌, Option, Some, None}
use Rattle.irig_edit.specs.{Saved.SavedSession.saved_text, Session.Session.work_in}
use Rattle.irig_script.specs.{Obey.Machine.Machine}
use Rattle.irig_guarding.specs.GuardedRun.{product_texts}
use Rattle.irig_guarding.specs.declared.product.Product.{Product}
use Rattle.irig_guarding.specs.declared.product.Product.TheVariants as product

-- it was kept, or it is not asked for, or nothing can be redone
abbrev pub IsKept : Product → Machine → Option (List ℕ) → Type 0
IsKept asked m (Some text) = text ≡ saved_text (work_in m)
IsKept product.Nothing m None = Unit {0}
IsKept product.Track m None = Unit {0}
IsKept product.Session m None = m.future ≡ []

-- the texts that are written of a session, or instead of its own the one that was kept
abbrev pub texts_or : Option (List ℕ) → Product → Machine → List (List ℕ)
texts_or (Some text) product.Session m = text ∷ []
texts_or kept asked m = product_texts asked m
