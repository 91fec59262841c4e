-- One write is a run of writes.
use Rattle.std.proofs.Common.{◌≡◌, ◌≢◌, ◌⊎◌, inl, inr, ⊎_elim, refl, sym, ◌∙◌, ap, arith, ℕ, List, [], ◌∷◌, ◌++◌, Option, Some, None, Result, Ok, Err, ◌≤◌}
use Rattle.std.proofs.lemmas.List.{append-nil}
use Rattle.irig_disk.specs.Disk.{Disk, IsPlace, seen_under, MayLeave, LeavesOnly}
use Rattle.irig_disk.specs.Put.{IsKept, IsPut, IsPutLast, OldIfThere, OldOrNewIfThere, SeenSameIfThere, TriesOne}
use Rattle.irig_disk.specs.{Held.Held, Stays.Stays, Trail.Step, Trail.Moved, Trail.NotMoved, Trail.Synced, Writing.IsUnchanged}
use Rattle.irig_disk.proofs.Names.{same_or_not}
use Rattle.irig_files.specs.Once.{FailsToPut, PutsOnce}
use Rattle.irig_files.specs.{Goes.EachIsKept, Goes.Goes, Goes.IsMeant, Writes.AreAt, Writes.IsLeftBy, Writes.kept_by, Writes.write, Writes.writes_in}

-- what is seen is there
shown : (d : Disk) (n : List ℕ) (h : Held) → seen_under d n ≡ Some h → d.leads n ≢ None
shown d n h seen none =
    let clash : None ≡ Some h = sym (ap (λ x. elim x as (λ _. Option Held) [ None ↦ None | Some file ↦ Some (d.holds file) ]) none) ∙ seen in absurd (cc clash)

not_shown : (d : Disk) (x : Option ℕ) → elim x as (λ _. Option Held) [ None ↦ None | Some file ↦ Some (d.holds file) ] ≡ None → x ≡ None
not_shown d None is = refl
not_shown d (Some file) is = absurd (cc is)

still_there : (a b : Disk) (n : List ℕ) → seen_under b n ≡ seen_under a n → a.leads n ≢ None → b.leads n ≢ None
still_there a b n same is none = is (not_shown a (a.leads n)
    (sym same ∙ ap (λ x. elim x as (λ _. Option Held) [ None ↦ None | Some file ↦ Some (b.holds file) ]) none))

-- nothing is seen to have changed
same_holds : (a b : Disk) → Stays a b → (x : Option ℕ) → elim x as (λ _. Option Held) [ None ↦ None | Some file ↦ Some (b.holds file) ]
    ≡ elim x as (λ _. Option Held) [ None ↦ None | Some file ↦ Some (a.holds file) ]
same_holds a b stays None = refl
same_holds a b stays (Some file) = ap (λ h. Some h) (stays.files.seen file)

same_seen : (a b : Disk) → Stays a b → (n : List ℕ) → seen_under b n ≡ seen_under a n
same_seen a b stays n =
    ap (λ x. elim x as (λ _. Option Held) [ None ↦ None | Some file ↦ Some (b.holds file) ]) (stays.names.seen n) ∙ same_holds a b stays (a.leads n)

there_by_put : (a b : Disk) (place : List ℕ) (held : Held) → IsPut a b place held → (n : List ℕ) → a.leads n ≢ None → b.leads n ≢ None
there_by_put a b place held put n is = ⊎_elim
    (λ at none. shown b place held put.at_target (ap (λ m. b.leads m) (sym at) ∙ none))
    (λ ne. still_there a b n (put.others n ne) is)
    (same_or_not n place)

there_by_fault : (a b : Disk) (place : List ℕ) (held : Held) → SeenSameIfThere a b place ⊎ IsPutLast a b place held → (n : List ℕ) → a.leads n ≢ None
    → b.leads n ≢ None
there_by_fault a b place held (inl same) n is = still_there a b n (same n (inr is)) is
there_by_fault a b place held (inr put) n is = there_by_put a b place held put.0 n is

-- the target, and what was there, is no place of a new file
meant_there : (a : Disk) (place n : List ℕ) → IsMeant a (Some place) n → (n ≡ place) ⊎ (a.leads n ≢ None)
meant_there a place n (inl is) = inr is
meant_there a place n (inr at) = inl (cc at)

module _ (old new : Disk) (place : List ℕ) (held : Held)
    (counts : (t : ℕ) (n : List ℕ) (c : Option Held) → t ≤ old.moment → MayLeave old n c → old.left_since t n c)
    (at_first : (n : List ℕ) (c : Option Held) → old.left_since old.moment n c → MayLeave old n c) where
  one_moment : LeavesOnly old new (OldOrNewIfThere old place held) → (at : Option ℕ) → (t : ℕ) (n : List ℕ) (c : Option Held) → t ≤ old.moment
      → IsMeant old (Some place) n → new.left_since t n c → old.left_since t n c ⊎ IsLeftBy (write place held at ∷ []) n c
  one_moment only at t n c le meant l = ⊎_elim (λ was. inl was)
      (λ may. ⊎_elim (λ was. inl (counts t n c le was)) (λ is. inr (inl (sym is.0, is.1))) (may (meant_there old place n meant)))
      (only.before t n c le l)

  no_moment : LeavesOnly old new (OldIfThere old place) → (t : ℕ) (n : List ℕ) (c : Option Held) → t ≤ old.moment
      → IsMeant old (Some place) n → new.left_since t n c → old.left_since t n c ⊎ IsLeftBy [] n c
  no_moment only t n c le meant l = ⊎_elim (λ was. inl was)
      (λ may. inl (counts t n c le (may (meant_there old place n meant))))
      (only.before t n c le l)

  -- what is seen after one that came to its place
  seen_put : IsPut old new place held → (at : Option ℕ) (n : List ℕ)
      → (seen_under new n ≡ seen_under old n) ⊎ IsLeftBy (write place held at ∷ []) n (seen_under new n)
  seen_put put at n = ⊎_elim
      (λ is. inr (inl (sym is, ap (λ m. seen_under new m) is ∙ put.at_target)))
      (λ ne. inl (put.others n ne))
      (same_or_not n place)

  -- these steps were done, and their writes leave what a crash finds
  goes_by : (target : Option (List ℕ)) (more : List Step) → new.log ≡ old.log ++ more → kept_by more ≡ None → old.moment ≤ new.moment → new.paths ≡ old.paths
      → ((n : List ℕ) → old.leads n ≢ None → new.leads n ≢ None) → AreAt target (writes_in more)
      → ((n : List ℕ) → IsMeant old target n → (seen_under new n ≡ seen_under old n) ⊎ IsLeftBy (writes_in more) n (seen_under new n))
      → EachIsKept old new (writes_in more)
      → ((t : ℕ) (n : List ℕ) (c : Option Held) → t ≤ old.moment → IsMeant old target n → new.left_since t n c
      → old.left_since t n c ⊎ IsLeftBy (writes_in more) n c) → Goes old new target
  goes_by target more grows begins later paths there at_target seen kept before = record {
    more = more;
    grows = grows;
    begins = begins;
    later = later;
    paths = paths;
    there = there;
    at_target = at_target;
    seen = seen;
    any_moment = λ n c meant l. ⊎_elim (λ was. inl (at_first n c was)) (λ by. inr by) (before old.moment n c (omega arith) meant l);
    before = before;
    kept = kept;
  }

  -- one that failed
  goes_by_fault : IsPlace old place → LeavesOnly old new (OldOrNewIfThere old place held) → FailsToPut old new place held → Goes old new (Some place)
  goes_by_fault at only fault = go fault.seen fault.log
    where
      there : (n : List ℕ) → old.leads n ≢ None → new.leads n ≢ None
      there = there_by_fault old new place held fault.seen

      go : SeenSameIfThere old new place ⊎ IsPutLast old new place held → TriesOne old new place held → Goes old new (Some place)
      go (inr put) log =
          goes_by (Some place) (Moved place (Some held) ∷ []) put.1 refl only.later (fault.paths at) there (refl, tt) (λ n meant. seen_put put.0 None n)
          (tt, tt) (one_moment only None)
      go (inl same) (inl none) =
          goes_by (Some place) [] (none.log ∙ sym (append-nil old.log)) refl only.later (fault.paths at) there tt
          (λ n meant. inl (same n (meant_there old place n meant))) tt (no_moment none.moments)
      go (inl same) (inr (inl moved)) =
          goes_by (Some place) (Moved place (Some held) ∷ []) moved refl only.later (fault.paths at) there (refl, tt)
          (λ n meant. inl (same n (meant_there old place n meant))) (tt, tt) (one_moment only None)
      go (inl same) (inr (inr moved)) =
          goes_by (Some place) (NotMoved place (Some held) ∷ []) moved refl only.later (fault.paths at) there (refl, tt)
          (λ n meant. inl (same n (meant_there old place n meant))) (tt, tt) (one_moment only None)

  -- one that succeeded
  goes_by_write : IsPlace old place → LeavesOnly old new (OldOrNewIfThere old place held) → IsKept old new place held
      → ((n : List ℕ) (c : Option Held) → new.left_since new.moment n c → MayLeave new n c) → Goes old new (Some place)
  goes_by_write at only kept now = goes_by (Some place) (Moved place (Some held) ∷ Synced new.moment ∷ []) kept.log refl only.later (kept.paths at)
      (there_by_put old new place held kept.put) (refl, tt) (λ n meant. seen_put kept.put (Some new.moment) n) (
        record {
          began = only.later;
          ended = omega arith;
          there = shown new place held kept.put.at_target;
          seen = inl kept.put.at_target;
          left = λ c l. inl (kept.kept c (now place c l));
        },
        tt,
      )
      (one_moment only (Some new.moment))

  -- none, since no file was changed
  goes_unchanged : IsUnchanged old new → Goes old new None
  goes_unchanged same = goes_by None [] (same.stays.names.log ∙ sym (append-nil old.log)) refl same.moments.later same.stays.names.paths
      (λ n is none. is (sym (same.stays.names.seen n) ∙ none)) tt (λ n meant. inl (same_seen old new same.stays n)) tt
      (λ t n c le meant l. ⊎_elim (λ was. inl was) (λ may. inl (counts t n c le may)) (same.moments.before t n c le l))

-- one write, whatever the path leads to
pub goes_once : {T E : Type 0} (old new : Disk) (target : Option (List ℕ)) (path : List ℕ) (held : Held) (result : Result T E)
    → ((t : ℕ) (n : List ℕ) (c : Option Held) → t ≤ old.moment → MayLeave old n c → old.left_since t n c)
    → ((n : List ℕ) (c : Option Held) → old.left_since old.moment n c → MayLeave old n c)
    → ((n : List ℕ) (c : Option Held) → new.left_since new.moment n c → MayLeave new n c)
    → old.paths path ≡ target → PutsOnce old new target held result → Goes old new target
goes_once old new None path held result counts first now at once = goes_unchanged old new path held counts first once
goes_once old new (Some place) path held (Ok x) counts first now at once = goes_by_write old new place held counts first (path, at) once.any_moment once.ok now
goes_once old new (Some place) path held (Err e) counts first now at once = goes_by_fault old new place held counts first (path, at) once.any_moment once.err
