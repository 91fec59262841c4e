-- Whether a record of those that were looked at is fine.
use Rattle.std.proofs.Common.{◌≡◌, ◌&&◌, ℕ, zero, suc, Bool, true, false, List, [], ◌∷◌, Some, slice_get, take, refl, ap, ◌∙◌, not}
use Rattle.std.specs.List.{list_all}
use Rattle.irig_index.specs.declared.record.Record.{Record}
use Rattle.irig_script.specs.Print.Fine.{is_fine}

-- a record that is not fine
abbrev pub is_other : Record → Bool
is_other r = not (is_fine r.verdict)

same_record : (x r : Record) → Some x ≡ Some r → x ≡ r
same_record x r e = cc

front_and_back : (x y : Bool) → (x && y) ≡ true → (x ≡ true) × (y ≡ true)
front_and_back true true e = (refl, refl)
front_and_back true false e = absurd (cc)
front_and_back false y e = absurd (cc)

-- one more that is not fine
pub none_more : (rs : List Record) (k : ℕ) (r : Record) → slice_get rs k ≡ Some r → is_fine r.verdict ≡ false → list_all is_other (take k rs) ≡ true
    → list_all is_other (take (suc k) rs) ≡ true
none_more [] k r here other h = absurd (cc)
none_more (x ∷ rs) zero r here other h = let e : is_fine x.verdict ≡ false = ap (λ (z : Record). is_fine z.verdict) (same_record x r here) ∙ other in rw e refl
none_more (x ∷ rs) (suc k) r here other h =
    let both = front_and_back (is_other x) (list_all is_other (take k rs)) h in
    rw both.0 (none_more rs k r here other both.1)

-- one that is fine
pub some_here : (rs : List Record) (k : ℕ) (r : Record) → slice_get rs k ≡ Some r → is_fine r.verdict ≡ true → list_all is_other rs ≡ false
some_here [] k r here fine = absurd (cc)
some_here (x ∷ rs) zero r here fine = let e : is_fine x.verdict ≡ true = ap (λ (z : Record). is_fine z.verdict) (same_record x r here) ∙ fine in rw e refl
some_here (x ∷ rs) (suc k) r here fine = by_first (is_other x) (some_here rs k r here fine)
  where
    by_first : (b : Bool) → list_all is_other rs ≡ false → (b && list_all is_other rs) ≡ false
    by_first true h = h
    by_first false h = refl
