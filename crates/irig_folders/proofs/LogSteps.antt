-- What each call adds to a log.
use Rattle.std.proofs.Common.{◌≡◌, ◌≢◌, ◌⊎◌, ◌<◌, inl, inr, ⊎_elim, refl, sym, ap, ◌∙◌, subst, arith, Bool, true, false, cond, nat_eq, ℕ, List, [], ◌∷◌, ◌++◌}
use Rattle.std.proofs.Common.{length, Some, None, Vec}
use Rattle.std.specs.{Bool.Decides, Str.bytes_eq, declared.alloc.Global.Global}
use Rattle.std.proofs.lemmas.{Bool.cases_eq, Bool.Decides.Decides-eqb, Slice.Eq.bytes_eq-Decides}
use Rattle.irig_folders.specs.{Log.leads_in, Log.holds_in, LogLeft.may_lead_in, LogLeft.may_hold_in, LogDisk.disk_of}
use Rattle.irig_folders.specs.declared.call.Call.TheVariants.{Make, Append, TakeMode, SyncFile, Rename, Remove, SyncNames}
use Rattle.irig_disk.specs.{Held.Held, Calls.Made, Calls.SyncedFile, Calls.SyncedNames, Moves.IsMoved}
use Rattle.irig_folders.specs.declared.call.Call.{Call}

false_where : (P : Type 0) (r : Bool) → Decides r P → (P → ⊥) → r ≡ false
false_where P true d none = absurd (none (d.0 refl))
false_where P false d none = refl

same_name : (a : List ℕ) → bytes_eq a a ≡ true
same_name a = (bytes_eq-Decides a a).1 refl

other_name : (a n : List ℕ) → n ≢ a → bytes_eq a n ≡ false
other_name a n ne = false_where (a ≡ n) (bytes_eq a n) (bytes_eq-Decides a n) (λ is. ne (sym is))

same_file : (i : ℕ) → nat_eq i i ≡ true
same_file i = (Decides-eqb i i).1 refl

pub other_file : (k i : ℕ) → i ≢ k → nat_eq k i ≡ false
other_file k i ne = false_where (k ≡ i) (nat_eq k i) (Decides-eqb k i) (λ is. ne (sym is))

of_cond : {A R : Type 0} (b : Bool) (x y z : A) → cond b x y ≡ z → (x ≡ z → R) → (y ≡ z → R) → R
of_cond true x y z is then other = then is
of_cond false x y z is then other = other is

-- a file's number is below the length of the log
pub leads_below : (calls : List Call) (n : List ℕ) (i : ℕ) → leads_in calls n ≡ Some i → i < length calls
leads_below [] n i is = absurd (cc is)
leads_below (Make name mode ∷ calls) n i is = of_cond (bytes_eq name.items n) (Some (length calls)) (leads_in calls n) (Some i) is
    (λ here. let at : length calls ≡ i = cc here in omega arith) (λ there. let below = leads_below calls n i there in omega arith)
leads_below (Rename «from» to ∷ calls) n i is = of_cond (bytes_eq to.items n) (leads_in calls «from».items)
    (cond (bytes_eq «from».items n) None (leads_in calls n)) (Some i) is
    (λ here. let below = leads_below calls «from».items i here in omega arith)
    (λ there. of_cond (bytes_eq «from».items n) None (leads_in calls n) (Some i) there (λ none. absurd (cc none))
    (λ older. let below = leads_below calls n i older in omega arith))
leads_below (Remove name ∷ calls) n i is = of_cond (bytes_eq name.items n) None (leads_in calls n) (Some i) is (λ none. absurd (cc none))
    (λ older. let below = leads_below calls n i older in omega arith)
leads_below (Append file bytes ∷ calls) n i is = let below = leads_below calls n i is in omega arith
leads_below (TakeMode file mode ∷ calls) n i is = let below = leads_below calls n i is in omega arith
leads_below (SyncFile file ∷ calls) n i is = let below = leads_below calls n i is in omega arith
leads_below (SyncNames front ∷ calls) n i is = let below = leads_below calls n i is in omega arith

pub may_lead_below : (calls : List Call) (n : List ℕ) (i : ℕ) → may_lead_in calls n (Some i) → i < length calls
may_lead_below [] n i is = absurd (cc is)
may_lead_below (Make name mode ∷ calls) n i (inl was) = let below = may_lead_below calls n i was in omega arith
may_lead_below (Make name mode ∷ calls) n i (inr now) = let is : Some i ≡ Some (length calls) = now.1 in let at : i ≡ length calls = cc is in omega arith
may_lead_below (Rename «from» to ∷ calls) n i (inl was) = let below = may_lead_below calls n i was in omega arith
may_lead_below (Rename «from» to ∷ calls) n i (inr (inl now)) = let below = leads_below calls «from».items i (sym now.1) in omega arith
may_lead_below (Rename «from» to ∷ calls) n i (inr (inr gone)) = absurd (cc gone.2)
may_lead_below (Remove name ∷ calls) n i (inl was) = let below = may_lead_below calls n i was in omega arith
may_lead_below (Remove name ∷ calls) n i (inr gone) = absurd (cc gone.1)
may_lead_below (Append file bytes ∷ calls) n i l = let below = may_lead_below calls n i l in omega arith
may_lead_below (TakeMode file mode ∷ calls) n i l = let below = may_lead_below calls n i l in omega arith
may_lead_below (SyncFile file ∷ calls) n i l = let below = may_lead_below calls n i l in omega arith
may_lead_below (SyncNames front ∷ calls) n i l = let below = may_lead_below calls n i l.0 in omega arith

-- what is seen may be left
by_name : (b : Bool) (a n : List ℕ) → b ≡ bytes_eq a n → ((a ≡ n) × (b ≡ true)) ⊎ (b ≡ false)
by_name true a n is = inl ((bytes_eq-Decides a n).0 (sym is), refl)
by_name false a n is = inr refl

pub leads_may : (calls : List Call) (n : List ℕ) → may_lead_in calls n (leads_in calls n)
leads_may [] n = refl
leads_may (Make name mode ∷ calls) n = ⊎_elim
    (λ at. inr (at.0, ap (λ b. cond b (Some (length calls)) (leads_in calls n)) at.1))
    (λ other. inl (subst (may_lead_in calls n) (sym (ap (λ b. cond b (Some (length calls)) (leads_in calls n)) other)) (leads_may calls n)))
    (by_name (bytes_eq name.items n) name.items n refl)
leads_may (Rename «from» to ∷ calls) n = ⊎_elim
    (λ at. inr (inl (at.0, ap (λ b. cond b (leads_in calls «from».items) (cond (bytes_eq «from».items n) None (leads_in calls n))) at.1)))
    (λ not_to. let skips = ap (λ b. cond b (leads_in calls «from».items) (cond (bytes_eq «from».items n) None (leads_in calls n))) not_to in
    let apart : n ≢ to.items = λ is. let clash : false ≡ true = sym not_to ∙ ((bytes_eq-Decides to.items n).1 (sym is)) in absurd (cc clash) in
    ⊎_elim
    (λ at. inr (inr (at.0, apart, skips ∙ ap (λ b. cond b None (leads_in calls n)) at.1)))
    (λ other. inl (subst (may_lead_in calls n) (sym (skips ∙ ap (λ b. cond b None (leads_in calls n)) other)) (leads_may calls n)))
    (by_name (bytes_eq «from».items n) «from».items n refl))
    (by_name (bytes_eq to.items n) to.items n refl)
leads_may (Remove name ∷ calls) n = ⊎_elim
    (λ at. inr (at.0, ap (λ b. cond b None (leads_in calls n)) at.1))
    (λ other. inl (subst (may_lead_in calls n) (sym (ap (λ b. cond b None (leads_in calls n)) other)) (leads_may calls n)))
    (by_name (bytes_eq name.items n) name.items n refl)
leads_may (Append file bytes ∷ calls) n = leads_may calls n
leads_may (TakeMode file mode ∷ calls) n = leads_may calls n
leads_may (SyncFile file ∷ calls) n = leads_may calls n
leads_may (SyncNames front ∷ calls) n = (leads_may calls n, λ rest is. refl)

changed_may : (calls : List Call) (k i : ℕ) (h : Held) → may_hold_in calls i (holds_in calls i)
    → (i ≡ k) ⊎ may_hold_in calls i (cond (nat_eq k i) h (holds_in calls i))
changed_may calls k i h was = ⊎_elim
    (λ is. inl is)
    (λ ne. inr (subst (may_hold_in calls i) (sym (ap (λ b. cond b h (holds_in calls i)) (other_file k i ne))) was))
    (cases_eq i k)

pub holds_may : (calls : List Call) (i : ℕ) → may_hold_in calls i (holds_in calls i)
holds_may [] i = refl
holds_may (Make name mode ∷ calls) i = changed_may calls (length calls) i (record { bytes = []; mode = mode }) (holds_may calls i)
holds_may (Append file bytes ∷ calls) i = changed_may calls file i (record { bytes = (holds_in calls i).bytes ++ bytes.items; mode = (holds_in calls i).mode })
    (holds_may calls i)
holds_may (TakeMode file mode ∷ calls) i = changed_may calls file i (record { bytes = (holds_in calls i).bytes; mode = mode }) (holds_may calls i)
holds_may (SyncFile file ∷ calls) i = (λ at. refl, λ ne. holds_may calls i)
holds_may (Rename «from» to ∷ calls) i = holds_may calls i
holds_may (Remove name ∷ calls) i = holds_may calls i
holds_may (SyncNames front ∷ calls) i = holds_may calls i

-- a new file
log_made : (calls : List Call) (v : Vec ℕ Global) (mode : ℕ) → leads_in calls v.items ≡ None
    → Made (disk_of calls) (disk_of (Make v mode ∷ calls)) v.items (length calls) mode
log_made calls v mode free = record {
  was_free = free;
  is_new = λ n is. let below = leads_below calls n (length calls) is in absurd (omega arith);
  is_new_left = λ n l. let below = may_lead_below calls n (length calls) l in absurd (omega arith);
  leads = ap (λ b. cond b (Some (length calls)) (leads_in calls v.items)) (same_name v.items);
  holds = ap (λ b. cond b (record { bytes = []; mode = mode }) (holds_in calls (length calls))) (same_file (length calls));
  left = λ x l. ⊎_elim (λ was. inl was) (λ now. inr now.1) l;
  paths = refl;
  regular = tt;
  log = refl;
  names = record {
    seen = λ n ne ne'. ap (λ b. cond b (Some (length calls)) (leads_in calls n)) (other_name v.items n ne);
    left = λ n x ne ne' l. ⊎_elim (λ was. was) (λ now. absurd (ne (sym now.0))) l;
  };
  files = record {
    seen = λ i ne. ap (λ b. cond b (record { bytes = []; mode = mode }) (holds_in calls i)) (other_file (length calls) i ne);
    left = λ i h ne l. ⊎_elim (λ is. absurd (ne is)) (λ was. was) l;
  };
}

pub log_makes : (calls later : List Call) (v : Vec ℕ Global) (name : List ℕ) (mode : ℕ) → v.items ≡ name → later ≡ Make v mode ∷ calls
    → leads_in calls name ≡ None → Made (disk_of calls) (disk_of later) name (length calls) mode
log_makes calls later v name mode is grown free = rw (grown, ← is) (log_made calls v mode (rw is free))

pub log_synced : (calls : List Call) (k : ℕ) → SyncedFile (disk_of calls) (disk_of (SyncFile k ∷ calls)) k
log_synced calls k = record {
  left = λ h l. l.0 refl;
  stays = record {
    names = record { seen = λ n. refl; left = λ n x l. l; paths = refl; regular = λ i r. r; log = refl };
    files = record {
      seen = λ i. refl;
      left = λ i h l. ⊎_elim (λ is. subst (may_hold_in calls i) (sym (l.0 is)) (holds_may calls i)) (λ ne. l.1 ne) (cases_eq i k);
    };
  };
}

pub log_synced_names : (calls : List Call) (front : Vec ℕ Global)
    → SyncedNames (disk_of calls) (disk_of (SyncNames front ∷ calls)) (λ n. front.items ++ n)
log_synced_names calls front = record {
  kept = λ n is x l. l.1 n refl;
  seen = λ n. refl;
  left = λ n x l. l.0;
  files = record { seen = λ i. refl; left = λ i h l. l };
  paths = refl;
  log = refl;
}

log_moved : (calls : List Call) (u v : Vec ℕ Global) → IsMoved (disk_of calls) (disk_of (Rename u v ∷ calls)) u.items v.items
log_moved calls u v = record {
  seen_to = ap (λ b. cond b (leads_in calls u.items) (cond (bytes_eq u.items v.items) None (leads_in calls v.items))) (same_name v.items);
  seen_from = λ ne. ap (λ b. cond b (leads_in calls u.items) (cond (bytes_eq u.items u.items) None (leads_in calls u.items))) (other_name v.items u.items ne)
      ∙ ap (λ b. cond b None (leads_in calls u.items)) (same_name u.items);
  log = refl;
  may = record {
    paths = λ i leads regular place. refl;
    left_to = λ x l. ⊎_elim (λ was. inl was) (λ rest. ⊎_elim (λ now. inr now.1) (λ gone. absurd (gone.1 refl)) rest) l;
    left_from = λ x l. ⊎_elim (λ was. inl was) (λ rest. ⊎_elim (λ now. inl (subst (may_lead_in calls u.items) (sym now.1) (leads_may calls u.items)))
        (λ gone. inr gone.2) rest) l;
    names = record {
      seen = λ n ne_from ne_to. ap (λ b. cond b (leads_in calls u.items) (cond (bytes_eq u.items n) None (leads_in calls n))) (other_name v.items n ne_to)
          ∙ ap (λ b. cond b None (leads_in calls n)) (other_name u.items n ne_from);
      left = λ n x ne_from ne_to l. ⊎_elim (λ was. was) (λ rest. ⊎_elim (λ now. absurd (ne_to (sym now.0))) (λ gone. absurd (ne_from (sym gone.0))) rest) l;
    };
    files = record { seen = λ i. refl; left = λ i h l. l };
  };
}

pub log_moves : (calls later : List Call) (u v : Vec ℕ Global) («from» to : List ℕ) → u.items ≡ «from» → v.items ≡ to → later ≡ Rename u v ∷ calls
    → IsMoved (disk_of calls) (disk_of later) «from» to
log_moves calls later u v «from» to is_from is_to grown = rw (grown, ← is_from, ← is_to) (log_moved calls u v)

pub log_syncs : (calls later : List Call) (k : ℕ) → later ≡ SyncFile k ∷ calls → SyncedFile (disk_of calls) (disk_of later) k
log_syncs calls later k grown = rw grown (log_synced calls k)

pub log_syncs_names : (calls later : List Call) (v : Vec ℕ Global) (front : List ℕ) → v.items ≡ front → later ≡ SyncNames v ∷ calls
    → SyncedNames (disk_of calls) (disk_of later) (λ n. front ++ n)
log_syncs_names calls later v front is grown = rw (grown, ← is) (log_synced_names calls v)
