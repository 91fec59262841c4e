-- What each call makes of a new file next to its target.
use Rattle.std.proofs.Common.{◌≡◌, ◌≢◌, ◌⊎◌, inl, inr, ⊎_elim, refl, sym, ◌∙◌, ap, subst, ℕ, List, [], ◌∷◌, ◌++◌, append_assoc, Option, Some, None, Result, Ok}
use Rattle.std.proofs.Common.{Err, OnOk, OnErr, IfOk, IfErr, IsErrOf, MatchOption}
use Rattle.irig_disk.specs.declared.fault.PutFault.TheVariants.{Memory, NamesTaken, Failed, LeftBehind, Remains, NotKept}
use Rattle.irig_disk.specs.Put.{TriesOne, OldOrNew, OldOrNewIfThere, OldIfThere, SeenSame, SeenSameIfThere, IsKept, IsPut}
use Rattle.irig_disk.specs.Writing.{IsUnchanged, IsBeside, IsWriting, IsPlaced, IsStuck}
use Rattle.irig_disk.specs.Faults.{AfterFault, NotBegun, NotFinished, SeenAfter, SeenUnfinished, left_by}
use Rattle.irig_disk.specs.{declared.fault.PutFault.PutFault, Disk.Disk, Disk.IsPlace, Disk.seen_under, Disk.MayLeave, Disk.Elapses, Disk.LeavesOnly, Held.Held}
use Rattle.irig_disk.specs.{Stays.FilesStay, Stays.NamesStay, Stays.OtherFilesStay, Stays.Stays, Calls.Made, Calls.IsTaken, Calls.Wrote, Calls.TookMode}
use Rattle.irig_disk.specs.{Calls.MaySpoil, Calls.SyncedFile, Calls.SyncedNames, Moves.MayMove, Moves.IsMoved, Moves.IsNotMoved, Moves.MayRemove, Moves.Removed}
use Rattle.irig_disk.specs.{Moves.NotRemoved, Name.IsName, Trail.Moved, Trail.NotMoved, Trail.Synced, Parts.IsPassed, Parts.ComesTo}
use Rattle.std.proofs.lemmas.Result.{IfErr-at_err, IfErr-weaker}
use Rattle.irig_disk.proofs.{Moments.goes_on, Moments.weaker, Names.same_or_not}

-- a name that leads to the same file, which holds the same, shows the same
shows : (a b : Disk) (n : List ℕ) → b.leads n ≡ a.leads n → ((i : ℕ) → a.leads n ≡ Some i → b.holds i ≡ a.holds i) → seen_under b n ≡ seen_under a n
shows a b n same holds = go (a.leads n) (b.leads n) same holds
  where
    go : (x y : Option ℕ) → y ≡ x → ((i : ℕ) → x ≡ Some i → b.holds i ≡ a.holds i)
        → elim y as (λ _. Option Held) [ None ↦ None | Some file ↦ Some (b.holds file) ]
        ≡ elim x as (λ _. Option Held) [ None ↦ None | Some file ↦ Some (a.holds file) ]
    go None None same holds = refl
    go None (Some j) same holds = absurd (cc same)
    go (Some i) None same holds = absurd (cc same)
    go (Some i) (Some j) same holds = let ij : j ≡ i = cc same in ap (λ k. Some (b.holds k)) ij ∙ ap Some (holds i refl)

-- nothing that a name may be left with is new, if neither it nor the files that it led to change
may_follow : (a b : Disk) (n : List ℕ) → ((x : Option ℕ) → b.may_lead n x → a.may_lead n x)
    → ((i : ℕ) (h : Held) → a.may_lead n (Some i) → b.may_hold i h → a.may_hold i h) → (c : Option Held) → MayLeave b n c → MayLeave a n c
may_follow a b n leads holds None left = leads None left
may_follow a b n leads holds (Some h) left = (left.0, leads (Some left.0) left.1, holds left.0 h (leads (Some left.0) left.1) left.2)

pub stay_seen : (a b : Disk) → Stays a b → SeenSame a b
stay_seen a b stays n = shows a b n (stays.names.seen n) (λ i is. stays.files.seen i)

pub stay_left : (a b : Disk) → Stays a b → (n : List ℕ) (c : Option Held) → MayLeave b n c → MayLeave a n c
stay_left a b stays n = may_follow a b n (stays.names.left n) (λ i h leads. stays.files.left i h)

shows_none : (a : Disk) (n : List ℕ) → a.leads n ≡ None → seen_under a n ≡ None
shows_none a n none = ap (λ x. elim x as (λ _. Option Held) [ None ↦ None | Some file ↦ Some (a.holds file) ]) none

shows_some : (a : Disk) (n : List ℕ) (i : ℕ) (h : Held) → a.leads n ≡ Some i → a.holds i ≡ h → seen_under a n ≡ Some h
shows_some a n i h leads holds = ap (λ x. elim x as (λ _. Option Held) [ None ↦ None | Some file ↦ Some (a.holds file) ]) leads ∙ ap Some holds

-- the target, and a name that was there, is not the new file's name
there_apart : (start : Disk) (beside target : List ℕ) → beside ≢ target → start.leads beside ≡ None → (n : List ℕ) → (n ≡ target) ⊎ (start.leads n ≢ None)
    → n ≢ beside
there_apart start beside target apart was_free n (inl at) is = apart (sym is ∙ at)
there_apart start beside target apart was_free n (inr some) is = some (ap (λ m. start.leads m) is ∙ was_free)

pub unchanged_goes_on : (start a b : Disk) → IsUnchanged start a → Stays a b → Elapses a b → IsUnchanged start b
unchanged_goes_on start a b same stays time = record {
  stays = record {
    names = record {
      seen = λ n. stays.names.seen n ∙ same.stays.names.seen n;
      left = λ n x l. same.stays.names.left n x (stays.names.left n x l);
      paths = stays.names.paths ∙ same.stays.names.paths;
      regular = λ i r. stays.names.regular i (same.stays.names.regular i r);
      log = stays.names.log ∙ same.stays.names.log;
    };
    files = record { seen = λ i. stays.files.seen i ∙ same.stays.files.seen i; left = λ i h l. same.stays.files.left i h (stays.files.left i h l) };
  };
  moments = goes_on start a b (MayLeave start) same.moments time (λ n c l. stay_left start a same.stays n c (stay_left a b stays n c l));
}

pub begins : (start a b : Disk) (beside target : List ℕ) (file mode : ℕ) → beside ≢ target → IsUnchanged start a → Made a b beside file mode → Elapses a b
    → IsWriting start b beside target file [] mode
begins start a b beside target file mode apart same made time =
    let left : (n : List ℕ) (c : Option Held) → n ≢ beside → MayLeave b n c → MayLeave start n c = λ n c ne l.
    stay_left start a same.stays n c (may_follow a b n (λ x. made.names.left n x ne ne)
    (λ i h leads. made.files.left i h (λ e. made.is_new_left n (subst (λ k. a.may_lead n (Some k)) e leads))) c l) in
    record {
      holds = made.holds;
      stands = record {
        apart = apart;
        was_free = sym (same.stays.names.seen beside) ∙ made.was_free;
        leads = made.leads;
        alone = λ n ne is. made.is_new n (sym (made.names.seen n ne ne) ∙ is);
        alone_left = λ n ne l. made.is_new_left n (made.names.left n (Some file) ne ne l);
        seen = λ n ne. shows a b n (made.names.seen n ne ne) (λ i is. made.files.seen i (λ e. made.is_new n (is ∙ ap Some e))) ∙ stay_seen start a same.stays n;
        left = left;
        moments = goes_on start a b (λ n c. n ≢ beside → MayLeave start n c)
            (weaker start a (MayLeave start) (λ n c. n ≢ beside → MayLeave start n c) (λ n c l ne. l) same.moments) time (λ n c l ne. left n c ne l);
        paths = made.paths ∙ same.stays.names.paths;
        regular = made.regular;
        log = made.log ∙ same.stays.names.log;
      };
    }

-- a new file is made under a name, or it is taken
pub tried : {X : Type 0} (number : X → ℕ) (start a b : Disk) (place : List ℕ → List ℕ) (name stated target : List ℕ) (mode : ℕ) (made : Option X)
    → name ≡ stated → place name ≢ place target
    → IsUnchanged start a → MatchOption made (IsTaken a b (place name)) (λ file. Made a b (place name) (number file) mode) → Elapses a b
    → MatchOption made (IsPassed start b place stated target) (λ file. IsWriting start b (place name) (place target) (number file) [] mode)
tried number start a b place name stated target mode None is apart same taken time = record {
  same = unchanged_goes_on start a b same taken.stays time;
  taken = λ _ ne none. taken.taken (same.stays.names.seen (place name) ∙ (ap (λ n. start.leads (place n)) is ∙ none));
}
tried number start a b place name stated target mode (Some file) is apart same made time =
    begins start a b (place name) (place target) (number file) mode apart same made time

-- a name that is the target's own is not tried
pub not_tried : (start a : Disk) (place : List ℕ → List ℕ) (name stated target : List ℕ) → name ≡ stated → (IsName name → name ≢ target → ⊥)
    → IsUnchanged start a → IsPassed start a place stated target
not_tried start a place name stated target is at same = record { same = same; taken = λ a_name ne none. at (rw is a_name) (λ e. ne (sym is ∙ e)) }

-- a call that changes the new file alone
pub touched : (start a b : Disk) (beside target : List ℕ) (file : ℕ) → IsBeside start a beside target file → NamesStay a b → OtherFilesStay a b file
    → Elapses a b → IsBeside start b beside target file
touched start a b beside target file s names files time =
    let left : (n : List ℕ) (c : Option Held) → n ≢ beside → MayLeave b n c → MayLeave start n c = λ n c ne l.
    s.left n c ne (may_follow a b n (names.left n) (λ i h leads. files.left i h (λ e. s.alone_left n ne (subst (λ k. a.may_lead n (Some k)) e leads))) c l) in
    record {
      apart = s.apart;
      was_free = s.was_free;
      leads = names.seen beside ∙ s.leads;
      alone = λ n ne is. s.alone n ne (sym (names.seen n) ∙ is);
      alone_left = λ n ne l. s.alone_left n ne (names.left n (Some file) l);
      seen = λ n ne. shows a b n (names.seen n) (λ i is. files.seen i (λ e. s.alone n ne (is ∙ ap Some e))) ∙ s.seen n ne;
      left = left;
      moments = goes_on start a b (λ n c. n ≢ beside → MayLeave start n c) s.moments time (λ n c l ne. left n c ne l);
      paths = names.paths ∙ s.paths;
      regular = names.regular file s.regular;
      log = names.log ∙ s.log;
    }

pub wrote : (start a b : Disk) (beside target : List ℕ) (file mode : ℕ) (text bytes : List ℕ) → IsWriting start a beside target file text mode
    → Wrote a b file bytes
    → Elapses a b → IsWriting start b beside target file (text ++ bytes) mode
wrote start a b beside target file mode text bytes w did time =
    let more : Held → Held = λ h. record { bytes = h.bytes ++ bytes; mode = h.mode } in
    record {
      holds = did.holds ∙ ap more w.holds;
      stands = touched start a b beside target file w.stands did.names did.files time;
    }

-- the new file holds the text, and each crash leaves it so
record IsSealed (start now : Disk) (beside target : List ℕ) (file : ℕ) (text : Held) : Type 0 where
  pub stands : IsBeside start now beside target file
  pub holds : now.holds file ≡ text
  pub kept : (h : Held) → now.may_hold file h → h ≡ text

sealed : (start b c : Disk) (beside target : List ℕ) (file : ℕ) (text : List ℕ) (mode : ℕ) → IsWriting start b beside target file text mode
    → SyncedFile b c file → Elapses b c → IsSealed start c beside target file (record { bytes = text; mode = mode })
sealed start b c beside target file text mode w synced time =
    let holds : c.holds file ≡ record { bytes = text; mode = mode } = synced.stays.files.seen file ∙ w.holds in
    record {
      stands = touched start b c beside target file w.stands synced.stays.names
          (record { seen = λ i ne. synced.stays.files.seen i; left = λ i h ne l. synced.stays.files.left i h l }) time;
      holds = holds;
      kept = λ h l. synced.left h l ∙ holds;
    }

-- a new file takes a mode, or fails to
pub took_mode : (start a b : Disk) (beside target : List ℕ) (file first mode : ℕ) (text : List ℕ) → IsWriting start a beside target file text first
    → TookMode a b file mode → Elapses a b → IsWriting start b beside target file text mode
took_mode start a b beside target file first mode text w took time =
    let given : Held → Held = λ h. record { bytes = h.bytes; mode = mode } in
    record {
      holds = took.holds ∙ ap given w.holds;
      stands = touched start a b beside target file w.stands took.names took.files time;
    }

pub took_none : (start a b : Disk) (beside target : List ℕ) (file first : ℕ) (text : List ℕ) → IsWriting start a beside target file text first
    → MaySpoil a b file → Elapses a b → IsBeside start b beside target file
took_none start a b beside target file first text w may time = touched start a b beside target file w.stands may.names may.files time

-- what a rename may leave, whether it succeeds or not
module _ (start c d : Disk) (beside target : List ℕ) (file : ℕ) (text : Held) (s : IsSealed start c beside target file text) (may : MayMove c d beside target)
  where
    at_target : (k : Option Held) → MayLeave d target k → OldOrNew start target text target k
    at_target None l = ⊎_elim (λ was. inl (s.stands.left target None (λ e. s.stands.apart (sym e)) was))
        (λ is. let clash : None ≡ Some file = is ∙ s.stands.leads in absurd (cc clash)) (may.left_to None l)
    at_target (Some h) l =
        ⊎_elim
        (λ was. inl (s.stands.left target (Some h) (λ e. s.stands.apart (sym e)) (l.0, was, may.files.left l.0 h l.2)))
        (λ is. let same : Some l.0 ≡ Some file = is ∙ s.stands.leads in let same_file : l.0 ≡ file = cc same in
        inr (refl, ap Some (s.kept h (may.files.left file h (subst (λ k. d.may_hold k h) same_file l.2)))))
        (may.left_to (Some l.0) l.1)

    move_left : (n : List ℕ) (k : Option Held) → MayLeave d n k → OldOrNewIfThere start target text n k
    move_left n k l there =
        let ne = there_apart start beside target s.stands.apart s.stands.was_free n there in
        ⊎_elim
        (λ at. subst (λ m. OldOrNew start target text m k) (sym at) (at_target k (subst (λ m. MayLeave d m k) at l)))
        (λ nt. inl (s.stands.left n k ne (may_follow c d n (λ x. may.names.left n x ne nt) (λ i h leads. may.files.left i h) k l)))
        (same_or_not n target)

    -- paths lead where they led
    still_paths : IsPlace start target → d.paths ≡ start.paths
    still_paths place = may.paths file s.stands.leads s.stands.regular (place.0, ap (λ ps. ps place.0) s.stands.paths ∙ place.1) ∙ s.stands.paths

    -- what the new file holds is seen under its name
    seen_there : seen_under c beside ≡ Some text
    seen_there = shows_some c beside file text s.stands.leads s.holds

    but_beside : LeavesOnly start c (OldOrNewIfThere start target text)
    but_beside = weaker start c (λ n k. n ≢ beside → MayLeave start n k) (OldOrNewIfThere start target text)
        (λ n k l there. inl (l (there_apart start beside target s.stands.apart s.stands.was_free n there))) s.stands.moments

    moved_moments : Elapses c d → LeavesOnly start d (OldOrNewIfThere start target text)
    moved_moments time = goes_on start c d (OldOrNewIfThere start target text) but_beside time move_left

    placed : IsMoved c d beside target → Elapses c d → IsPlaced start d beside target text
    placed moved time = record {
      paths = still_paths;
      log = moved.log ∙ (λ j. s.stands.log j ++ Moved target (seen_there j) ∷ []);
      file = file;
      leads = moved.seen_to ∙ s.stands.leads;
      holds = may.files.seen file ∙ s.holds;
      kept = λ h l. s.kept h (may.files.left file h l);
      seen = λ n nt. ⊎_elim
          (λ e. shows_none d n (ap (λ m. d.leads m) e ∙ moved.seen_from s.stands.apart)
          ∙ sym (shows_none start n (ap (λ m. start.leads m) e ∙ s.stands.was_free)))
          (λ ne. shows c d n (may.names.seen n ne nt) (λ i is. may.files.seen i) ∙ s.stands.seen n ne)
          (same_or_not n beside);
      moments = moved_moments time;
      left = move_left;
    }

    not_placed : IsNotMoved c d beside target → Elapses c d → IsStuck start d beside target text
    not_placed not_moved time = record {
      paths = still_paths;
      file = file;
      leads = not_moved.seen beside ∙ s.stands.leads;
      regular = not_moved.regular file s.stands.regular;
      log = inr ((not_moved.log ∙ (λ j. s.stands.log j ++ NotMoved target (seen_there j) ∷ [])));
      apart = s.stands.apart;
      was_free = s.stands.was_free;
      seen = λ n ne. shows c d n (not_moved.seen n) (λ i is. may.files.seen i) ∙ s.stands.seen n ne;
      moments = moved_moments time;
      left = move_left;
    }

-- a new file that is given up
pub stuck : (start a : Disk) (beside target : List ℕ) (file : ℕ) (text : Held) → IsBeside start a beside target file → IsStuck start a beside target text
stuck start a beside target file text s = record {
  paths = λ place. s.paths;
  file = file;
  leads = s.leads;
  regular = s.regular;
  log = inl (
    record {
      log = s.log;
      moments = weaker start a (λ n k. n ≢ beside → MayLeave start n k) (OldIfThere start target)
          (λ n k l there. l (there_apart start beside target s.apart s.was_free n there)) s.moments;
    },
    λ n c l there. s.left n c (there_apart start beside target s.apart s.was_free n there) l,
  );
  apart = s.apart;
  was_free = s.was_free;
  seen = s.seen;
  moments = weaker start a (λ n k. n ≢ beside → MayLeave start n k) (OldOrNewIfThere start target text)
      (λ n k l there. inl (l (there_apart start beside target s.apart s.was_free n there))) s.moments;
  left = λ n c l there. inl (s.left n c (there_apart start beside target s.apart s.was_free n there) l);
}

-- the two further ways in which it does not come to its place
pub stuck_at_sync : (start b c : Disk) (beside target : List ℕ) (file : ℕ) (text : List ℕ) (mode : ℕ) (held : Held)
    → IsWriting start b beside target file text mode
    → MaySpoil b c file → Elapses b c → IsStuck start c beside target held
stuck_at_sync start b c beside target file text mode held w may time =
    stuck start c beside target file held (touched start b c beside target file w.stands may.names may.files time)

pub stuck_at_rename : (start b c d : Disk) (beside target : List ℕ) (file : ℕ) (text : List ℕ) (mode : ℕ) → IsWriting start b beside target file text mode
    → SyncedFile b c file → Elapses b c → Stays c d ⊎ IsNotMoved c d beside target → Elapses c d
    → IsStuck start d beside target (record { bytes = text; mode = mode })
stuck_at_rename start b c d beside target file text mode w synced time_synced (inl stays) time =
    let c_sealed = sealed start b c beside target file text mode w synced time_synced in
    stuck start d beside target file (record { bytes = text; mode = mode }) (touched start c d beside target file c_sealed.stands stays.names
    (record { seen = λ i ne. stays.files.seen i; left = λ i h ne l. stays.files.left i h l }) time)
stuck_at_rename start b c d beside target file text mode w synced time_synced (inr not_moved) time =
    not_placed start c d beside target file (record { bytes = text; mode = mode }) (sealed start b c beside target file text mode w synced time_synced)
    not_moved.may not_moved time

-- and the one in which it does
pub comes_to_its_place : (start b c d : Disk) (beside target : List ℕ) (file : ℕ) (text : List ℕ) (mode : ℕ) → IsWriting start b beside target file text mode
    → SyncedFile b c file → Elapses b c → IsMoved c d beside target → Elapses c d → IsPlaced start d beside target (record { bytes = text; mode = mode })
comes_to_its_place start b c d beside target file text mode w synced time_synced moved time =
    placed start c d beside target file (record { bytes = text; mode = mode }) (sealed start b c beside target file text mode w synced time_synced)
    moved.may moved time

-- the new file's name is freed, or not
module _ (start a b : Disk) (beside target : List ℕ) (text : Held) (s : IsStuck start a beside target text) (may : MayRemove a b beside) where
  seen_apart : (n : List ℕ) → n ≢ beside → seen_under b n ≡ seen_under start n
  seen_apart n ne = shows a b n (may.names.seen n ne ne) (λ i is. may.files.seen i) ∙ s.seen n ne

  pub freed_moments : Elapses a b → LeavesOnly start b (OldOrNewIfThere start target text)
  freed_moments time = goes_on start a b (OldOrNewIfThere start target text) s.moments time (λ n c l there.
      let ne = there_apart start beside target s.apart s.was_free n there in
      s.left n c (may_follow a b n (λ x. may.names.left n x ne ne) (λ i h leads. may.files.left i h) c l) there)

  pub freed : Removed a b beside → SeenSame start b
  freed removed n = ⊎_elim
      (λ e. shows_none b n (ap (λ m. b.leads m) e ∙ removed.seen) ∙ sym (shows_none start n (ap (λ m. start.leads m) e ∙ s.was_free)))
      (λ ne. seen_apart n ne)
      (same_or_not n beside)

  pub not_freed : SeenSameIfThere start b target
  not_freed n there = seen_apart n (there_apart start beside target s.apart s.was_free n there)

-- the new names are kept, or not
module _ (start a b : Disk) (beside target : List ℕ) (text : Held) (s : IsPlaced start a beside target text)
    (seen : (n : List ℕ) → b.leads n ≡ a.leads n) (left : (n : List ℕ) (x : Option ℕ) → b.may_lead n x → a.may_lead n x) (files : FilesStay a b) where
  pub stays_moments : Elapses a b → LeavesOnly start b (OldOrNewIfThere start target text)
  stays_moments time = goes_on start a b (OldOrNewIfThere start target text) s.moments time
      (λ n c l. s.left n c (may_follow a b n (left n) (λ i h leads. files.left i h) c l))

  still_seen : (n : List ℕ) → seen_under b n ≡ seen_under a n
  still_seen n = shows a b n (seen n) (λ i is. files.seen i)

  pub stays_put : IsPut start b target text
  stays_put = record {
    at_target = still_seen target ∙ shows_some a target s.file text s.leads s.holds;
    others = λ n nt. still_seen n ∙ s.seen n nt;
  }

  kept_at : ((x : Option ℕ) → b.may_lead target x → x ≡ b.leads target) → (c : Option Held) → MayLeave b target c → c ≡ Some text
  kept_at kept None l = let clash : None ≡ Some s.file = kept None l ∙ (seen target ∙ s.leads) in absurd (cc clash)
  kept_at kept (Some h) l =
      let same : Some l.0 ≡ Some s.file = kept (Some l.0) l.1 ∙ (seen target ∙ s.leads) in
      let same_file : l.0 ≡ s.file = cc same in
      ap Some (s.kept h (files.left s.file h (subst (λ k. b.may_hold k h) same_file l.2)))

-- they are kept
pub stays_kept : (start a b : Disk) (place : List ℕ → List ℕ) (beside name : List ℕ) (text : Held) → IsName name
    → IsPlaced start a beside (place name) text → SyncedNames a b place → IsKept start b (place name) text
stays_kept start a b place beside name text is s synced = record {
  put = stays_put start a b beside (place name) text s synced.seen synced.left synced.files;
  kept = kept_at start a b beside (place name) text s synced.seen synced.left synced.files (synced.kept name is);
  paths = λ at. synced.paths ∙ s.paths at;
  log = synced.log ∙ ap (λ l. l ++ Synced b.moment ∷ []) s.log ∙ append_assoc start.log (Moved (place name) (Some text) ∷ []) (Synced b.moment ∷ []);
}

-- or are not
pub not_kept : (start a b : Disk) (beside target : List ℕ) (text : Held) → IsPlaced start a beside target text → Stays a b
    → TriesOne start b target text
not_kept start a b beside target text s stays = inr (inl (stays.names.log ∙ s.log))

-- the same of a new file that is given up: no crash shows a new text
module _ (start a b : Disk) (beside target : List ℕ) (file : ℕ) (s : IsBeside start a beside target file) (may : MayRemove a b beside) where
  pub given_up_moments : Elapses a b → LeavesOnly start b (OldIfThere start target)
  given_up_moments time = goes_on start a b (OldIfThere start target)
      (weaker start a (λ n k. n ≢ beside → MayLeave start n k) (OldIfThere start target)
      (λ n k l there. l (there_apart start beside target s.apart s.was_free n there)) s.moments)
      time (λ n c l there.
      let ne = there_apart start beside target s.apart s.was_free n there in
      s.left n c ne (may_follow a b n (λ x. may.names.left n x ne ne) (λ i h leads. may.files.left i h) c l))

-- what a write leaves that has not begun
pub unchanged_seen : (start a : Disk) → IsUnchanged start a → SeenSame start a
unchanged_seen start a same = stay_seen start a same.stays

pub old_moments : (start a : Disk) (target : List ℕ) (text : Held) → LeavesOnly start a (OldIfThere start target)
    → LeavesOnly start a (OldOrNewIfThere start target text)
old_moments start a target text moments = weaker start a (OldIfThere start target) (OldOrNewIfThere start target text) (λ n c l there. inl (l there)) moments

-- what is left after a call has failed and the new file's name was to be freed
-- nothing was tried before it, or the rename
log_after : (start a b : Disk) (beside target : List ℕ) (text : Held) → IsStuck start a beside target text → MayRemove a b beside → Elapses a b
    → TriesOne start b target text
log_after start a b beside target text s may time = ⊎_elim
    (λ none. inl (record {
      log = may.log ∙ none.0.log;
      moments = goes_on start a b (OldIfThere start target) none.0.moments time (λ n c l there.
          let ne = there_apart start beside target s.apart s.was_free n there in
          none.1 n c (may_follow a b n (λ x. may.names.left n x ne ne) (λ i h leads. may.files.left i h) c l) there);
    }))
    (λ one. inr (inr (may.log ∙ one)))
    s.log

pub after_removal : {T X : Type 0} (start a b : Disk) (beside target : List ℕ) (text : Held) (removal : Result T X) (fault : X) (result : PutFault X)
    → IsStuck start a beside target text → OnOk removal (Removed a b beside) → OnErr removal (NotRemoved a b beside) → Elapses a b
    → result ≡ left_by (Some fault) removal → NotFinished start b target text result
after_removal start a b beside target text (Ok _) fault result s removed not_removed time is = record {
  seen = subst (λ r. SeenUnfinished start b target text r) (sym is) (freed start a b beside target text s removed.may removed);
  log = log_after start a b beside target text s removed.may time;
  paths = λ place. removed.may.paths s.file s.leads s.regular ∙ s.paths place;
}
after_removal start a b beside target text (Err other) fault result s removed not_removed time is = record {
  seen = subst (λ r. SeenUnfinished start b target text r) (sym is) (not_freed start a b beside target text s not_removed.may);
  log = log_after start a b beside target text s not_removed.may time;
  paths = λ place. not_removed.may.paths s.file s.leads s.regular ∙ s.paths place;
}

-- what a removal may leave, whether it succeeds or not
pub may_remove : {T X : Type 0} (a b : Disk) (beside : List ℕ) (removal : Result T X) → OnOk removal (Removed a b beside)
    → OnErr removal (NotRemoved a b beside) → MayRemove a b beside
may_remove a b beside (Ok _) removed not_removed = removed.may
may_remove a b beside (Err other) removed not_removed = not_removed.may

-- what a write leaves that has not begun, or has not succeeded
not_begun_same : {X : Type 0} (start now : Disk) (target : List ℕ) (text : Held) (fault : PutFault X) → NotBegun start now fault
    → IsUnchanged start now × SeenAfter start now target text fault
not_begun_same start now target text Memory same = (same, unchanged_seen start now same)
not_begun_same start now target text NamesTaken same = (same, unchanged_seen start now same)
not_begun_same start now target text (Failed _) same = (same, unchanged_seen start now same)
not_begun_same start now target text (LeftBehind _ _) none = absurd none
not_begun_same start now target text (Remains _) none = absurd none
not_begun_same start now target text (NotKept _) none = absurd none

pub not_begun : {X : Type 0} (start now : Disk) (target : List ℕ) (text : Held) (fault : PutFault X) → NotBegun start now fault
    → LeavesOnly start now (OldOrNewIfThere start target text) × AfterFault start now target text fault
not_begun start now target text fault not =
    let same = (not_begun_same start now target text fault not).0 in (
      weaker start now (MayLeave start) (OldOrNewIfThere start target text) (λ n c l there. inl l) same.moments,
      record {
        seen = (not_begun_same start now target text fault not).1;
        log = inl (record {
          log = same.stays.names.log;
          moments = weaker start now (MayLeave start) (OldIfThere start target) (λ n c l there. l) same.moments;
        });
        paths = λ place. same.stays.names.paths;
      },
    )

not_finished_seen : {X : Type 0} (start now : Disk) (target : List ℕ) (text : Held) (fault : PutFault X) → SeenUnfinished start now target text fault
    → SeenAfter start now target text fault
not_finished_seen start now target text Memory none = absurd none
not_finished_seen start now target text NamesTaken none = absurd none
not_finished_seen start now target text (Failed _) left = left
not_finished_seen start now target text (LeftBehind _ _) left = left
not_finished_seen start now target text (Remains _) none = absurd none
not_finished_seen start now target text (NotKept _) left = left

pub not_finished : {X : Type 0} (start now : Disk) (target : List ℕ) (text : Held) (fault : PutFault X) → NotFinished start now target text fault
    → AfterFault start now target text fault
not_finished start now target text fault left = record { seen = not_finished_seen start now target text fault left.seen; log = left.log; paths = left.paths }

pub not_taken : {T X : Type 0} (start now : Disk) (target : List ℕ) (text : Held) (r : Result T (PutFault X)) → IfErr r (NotFinished start now target text)
    → IsErrOf r NamesTaken → ⊥
not_taken start now target text r left is = (IfErr-at_err (NotFinished start now target text) is left).seen

-- what a write leaves that is given up
seen_given_up : {T X : Type 0} (start now : Disk) (target : List ℕ) (text : Held) (removal : Result T X) (fault : Option X) (result : PutFault X)
    → OnOk removal (SeenSame start now)
    → OnErr removal (SeenSameIfThere start now target) → result ≡ left_by fault removal → SeenAfter start now target text result
seen_given_up start now target text (Ok _) None result same but is = subst (λ r. SeenAfter start now target text r) (sym is) same
seen_given_up start now target text (Ok _) (Some fault) result same but is = subst (λ r. SeenAfter start now target text r) (sym is) same
seen_given_up start now target text (Err other) None result same but is = subst (λ r. SeenAfter start now target text r) (sym is) but
seen_given_up start now target text (Err other) (Some fault) result same but is = subst (λ r. SeenAfter start now target text r) (sym is) but

left_untaken : {T X : Type 0} (fault : Option X) (removal : Result T X) → left_by fault removal ≡ NamesTaken → ⊥
left_untaken None (Ok _) is = cc is
left_untaken None (Err other) is = cc is
left_untaken (Some fault) (Ok _) is = cc is
left_untaken (Some fault) (Err other) is = cc is

-- what a write comes to that has begun: it is finished, or given up
pub comes_to_its_end : {T X : Type 0} (start now : Disk) (target : List ℕ) (text : Held) (result : Result T (PutFault X))
    → LeavesOnly start now (OldOrNewIfThere start target text) → OnOk result (IsKept start now target text)
    → IfErr result (NotFinished start now target text) → ComesTo start now target text result
comes_to_its_end start now target text result moments kept left = record {
  any_moment = moments;
  ok = kept;
  err = IfErr-weaker result _ _ (not_finished start now target text) left;
  untaken = λ is. not_taken start now target text result left is;
}

pub comes_to_nothing : {K T X : Type 0} (start now : Disk) (target : List ℕ) (text : Held) (removal : Result T X) (fault : Option X) (left : PutFault X)
    → LeavesOnly start now (OldIfThere start target) → OnOk removal (SeenSame start now) → OnErr removal (SeenSameIfThere start now target)
    → (now.log ≡ start.log) × (now.paths ≡ start.paths) → left ≡ left_by fault removal → ComesTo {T = K} start now target text (Err left)
comes_to_nothing start now target text removal fault left moments same but rest by = record {
  any_moment = old_moments start now target text moments;
  ok = tt;
  err = record {
    seen = seen_given_up start now target text removal fault left same but by;
    log = inl (record { log = rest.0; moments = moments });
    paths = λ place. rest.1;
  };
  untaken = λ is. let taken : left ≡ NamesTaken = cc is in left_untaken fault removal (sym by ∙ taken);
}

-- the same under equal names
pub called : (start a : Disk) (b b' t t' : List ℕ) (f f' : ℕ) (text : List ℕ) (mode mode' : ℕ) → b' ≡ b → t' ≡ t → f' ≡ f → mode' ≡ mode
    → IsWriting start a b t f text mode → IsWriting start a b' t' f' text mode'
called start a b b' t t' f f' text mode mode' eb et ef em w = rw (eb, et, ef, em) w

-- what a write comes to, if its new file was made or not
pub comes_to_either : {N T X F : Type 0} (disk : F → Disk) (begun : Result N (PutFault X)) (result : Result T (PutFault X)) (start mid now : F)
    (target : List ℕ) (text : Held) → IfOk begun (λ _. ComesTo (disk start) (disk now) target text result) → IfErr begun (NotBegun (disk start) (disk mid))
    → IfErr begun (λ fault. result ≡ Err fault) → OnErr begun (now ≡ mid)
    → LeavesOnly (disk start) (disk now) (OldOrNewIfThere (disk start) target text) × OnOk result (IsKept (disk start) (disk now) target text)
    × IfErr result (AfterFault (disk start) (disk now) target text)
comes_to_either disk (Ok _) result start mid now target text comes not is same = (comes.any_moment, comes.ok, comes.err)
comes_to_either disk (Err fault) result start mid now target text comes not is same =
    let left = not_begun (disk start) (disk mid) target text fault not in rw (is, same) (left.0, tt, left.1)

pub taken_at_first : {N T X P : Type 0} (begun : Result N (PutFault X)) (result : Result T (PutFault X)) (start now : Disk) (target : List ℕ) (text : Held)
    → IfOk begun (λ _. ComesTo start now target text result) → (IsErrOf begun NamesTaken → P) → IfErr begun (λ fault. result ≡ Err fault)
    → IsErrOf result NamesTaken → P
taken_at_first (Ok _) result start now target text comes taken is e = absurd (comes.untaken e)
taken_at_first (Err fault) result start now target text comes taken is e = taken (let same : fault ≡ NamesTaken = cc (is, e) in ap Err same)
