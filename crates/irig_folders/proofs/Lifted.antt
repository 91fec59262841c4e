-- What a call makes of a log it makes of the folders of a layout.
use Rattle.std.proofs.Common.{◌≡◌, ◌⊎◌, ◌∙◌, ⊎_elim, inl, inr, refl, sym, ap, ℕ, List, Option, Some, None, Result, Ok, Err}
use Rattle.std.proofs.Common.{MatchOption, MatchResult, true, false}
use Rattle.std.proofs.Math.Path.{fun_ext}
use Rattle.irig_disk.specs.Calls.{Changed, IsTaken, Made, MaySpoil, SyncedFile, SyncedNames, WroteSome}
use Rattle.irig_disk.specs.Disk.{Disk, Elapses, IsPlace}
use Rattle.irig_disk.specs.Moves.{IsMoved, IsNotMoved, MayMove, MayRemove, NotRemoved, Removed}
use Rattle.irig_disk.specs.Stays.{FilesStay, NamesStay, OtherFilesStay, OtherNamesStay, Stays}
use Rattle.irig_disk.specs.Held.{Held}
use Rattle.irig_disk.proofs.Names.{same_or_not}
use Rattle.std.specs.Prelude.{is_none}
use Rattle.irig_folders.specs.TreeLaws.{at_other, no_other}
use Rattle.irig_folders.specs.Tree.{IsFound, IsOther, free_place, path_by, path_to, place_at, tree_disk}
use Rattle.irig_folders.specs.Places.{other_in, other_of, over, place_in}
use Rattle.irig_folders.specs.declared.layout.{Layout.Layout, Other.Other}

-- a place to which a path leads has no other file
free_is : (place to : List ℕ) (x : Option Other) → free_place place x ≡ Some to → (place ≡ to) × (x ≡ None)
free_is place to None is = (cc is, refl)
free_is place to (Some o) is = absurd (cc is)

free_at : (o : List ℕ → Option Other) (to : List ℕ) (x : Option (List ℕ)) → place_at o x ≡ Some to → o to ≡ None
free_at o to None is = absurd (cc is)
free_at o to (Some place) is = let free = free_is place to (o place) is in ap o (sym free.0) ∙ free.1

free_by : (w : Layout) (o : List ℕ → Option Other) (to : List ℕ) (x : Option (List ℕ)) → path_by w.folders.items o x ≡ Some to → o to ≡ None
free_by w o to None is = absurd (cc is)
free_by w o to (Some end) is = free_at o to (place_in w.folders.items end) is

-- nothing is there
pub none_is : (x : Option Other) → is_none x ≡ true → x ≡ None
none_is None is = refl
none_is (Some o) is = absurd (cc is)

some_is : (P : Type 0) (x : Option Other) → is_none x ≡ false → ((o : Other) → x ≡ Some o → P) → P
some_is P None is then = absurd (cc is)
some_is P (Some o) is then = then o refl

-- what a path leads to
pub found_none : (w : Layout) (leads : List ℕ → Option ℕ) (path : List ℕ) → IsFound w leads path None → IsOther w (over w leads) path → ⊥
found_none w leads path f = no_other w (over w leads) path f.end f.place f.ended f.placed (ap (other_of w.others.items) f.there)

pub found_regular : (w : Layout) (leads : List ℕ → Option ℕ) (path : List ℕ) (i : ℕ) → IsFound w leads path (Some i)
    → is_none (other_in w.others.items i) ≡ true → IsOther w (over w leads) path → ⊥
found_regular w leads path i f regular = no_other w (over w leads) path f.end f.place f.ended f.placed
    (ap (other_of w.others.items) f.there ∙ none_is (other_in w.others.items i) regular)

pub found_other : (w : Layout) (leads : List ℕ → Option ℕ) (path : List ℕ) (i : ℕ) → IsFound w leads path (Some i)
    → is_none (other_in w.others.items i) ≡ false → path_to w (over w leads) path ≡ None
found_other w leads path i f other = some_is _ (other_in w.others.items i) other (λ o is.
    at_other w (over w leads) path f.end f.place o f.ended f.placed (ap (other_of w.others.items) f.there ∙ is))

module _ (w : Layout) (a b : Disk) where
  same_paths : ((n : List ℕ) → over w b.leads n ≡ over w a.leads n) → (tree_disk w b).paths ≡ (tree_disk w a).paths
  same_paths same = ap (path_to w) (fun_ext same)

  seen_paths : ((n : List ℕ) → b.leads n ≡ a.leads n) → (tree_disk w b).paths ≡ (tree_disk w a).paths
  seen_paths seen = same_paths (λ n. ap (other_of w.others.items) (seen n))

  names_stay : NamesStay a b → NamesStay (tree_disk w a) (tree_disk w b)
  names_stay s = record { seen = s.seen; left = s.left; paths = seen_paths s.seen; regular = λ i r. r; log = s.log }

  other_names : (n m : List ℕ) → OtherNamesStay a b n m → OtherNamesStay (tree_disk w a) (tree_disk w b) n m
  other_names n m s = record { seen = s.seen; left = s.left }

  files_stay : FilesStay a b → FilesStay (tree_disk w a) (tree_disk w b)
  files_stay s = record { seen = s.seen; left = s.left }

  other_files : (i : ℕ) → OtherFilesStay a b i → OtherFilesStay (tree_disk w a) (tree_disk w b) i
  other_files i s = record { seen = s.seen; left = s.left }

  pub stays : Stays a b → Stays (tree_disk w a) (tree_disk w b)
  stays s = record { names = names_stay s.names; files = files_stay s.files }

  pub changed : (i : ℕ) (h : Held) → Changed a b i h → Changed (tree_disk w a) (tree_disk w b) i h
  changed i h s = record { holds = s.holds; names = names_stay s.names; files = other_files i s.files }

  pub wrote_some : (i : ℕ) (bytes : List ℕ) → WroteSome a b i bytes → WroteSome (tree_disk w a) (tree_disk w b) i bytes
  wrote_some i bytes s = (s.0, changed i _ s.1)

  pub may_spoil : (i : ℕ) → MaySpoil a b i → MaySpoil (tree_disk w a) (tree_disk w b) i
  may_spoil i s = record { names = names_stay s.names; files = other_files i s.files }

  pub synced_file : (i : ℕ) → SyncedFile a b i → SyncedFile (tree_disk w a) (tree_disk w b) i
  synced_file i s = record { left = s.left; stays = stays s.stays }

  pub synced_names : (place : List ℕ → List ℕ) → SyncedNames a b place → SyncedNames (tree_disk w a) (tree_disk w b) place
  synced_names place s = record {
    kept = s.kept;
    seen = s.seen;
    left = s.left;
    files = files_stay s.files;
    paths = seen_paths s.seen;
    log = s.log;
  }

  pub is_taken : (n : List ℕ) → IsTaken a b n → IsTaken (tree_disk w a) (tree_disk w b) n
  is_taken n s = record { taken = s.taken; stays = stays s.stays }

  pub made : (n : List ℕ) (i mode : ℕ) → other_in w.others.items i ≡ None → Made a b n i mode → Made (tree_disk w a) (tree_disk w b) n i mode
  made n i mode regular s = record {
    was_free = s.was_free;
    is_new = s.is_new;
    is_new_left = s.is_new_left;
    leads = s.leads;
    holds = s.holds;
    left = s.left;
    paths = same_paths (λ m. ⊎_elim
        (λ is. ap (over w b.leads) is ∙ ap (other_of w.others.items) s.leads ∙ regular ∙ sym (ap (over w a.leads) is ∙ ap (other_of w.others.items) s.was_free))
        (λ ne. ap (other_of w.others.items) (s.names.seen m ne ne))
        (same_or_not m n));
    regular = regular;
    log = s.log;
    names = other_names n n s.names;
    files = other_files i s.files;
  }

  may_move : («from» to : List ℕ) → MayMove a b «from» to
      → ((i : ℕ) → a.leads «from» ≡ Some i → other_in w.others.items i ≡ None → IsPlace (tree_disk w a) to
      → (tree_disk w b).paths ≡ (tree_disk w a).paths)
      → MayMove (tree_disk w a) (tree_disk w b) «from» to
  may_move «from» to s paths = record {
    left_to = s.left_to;
    left_from = s.left_from;
    paths = paths;
    names = other_names «from» to s.names;
    files = files_stay s.files;
  }

  pub moved : («from» to : List ℕ) → IsMoved a b «from» to → IsMoved (tree_disk w a) (tree_disk w b) «from» to
  moved «from» to s = record {
    seen_to = s.seen_to;
    seen_from = s.seen_from;
    log = s.log;
    may = may_move «from» to s.may (λ i leads regular at. same_paths (λ m.
        let was : over w a.leads «from» ≡ None = ap (other_of w.others.items) leads ∙ regular in
        let free : over w a.leads to ≡ None = free_by w (over w a.leads) to _ at.1 in
        ⊎_elim
        (λ is. ap (over w b.leads) is ∙ ap (other_of w.others.items) s.seen_to ∙ was ∙ sym (ap (over w a.leads) is ∙ free))
        (λ ne. ⊎_elim
        (λ is. ap (over w b.leads) is ∙ ap (other_of w.others.items) (s.seen_from (λ same. ne (is ∙ same))) ∙ sym (ap (over w a.leads) is ∙ was))
        (λ ne'. ap (other_of w.others.items) (s.may.names.seen m ne' ne))
        (same_or_not m «from»))
        (same_or_not m to)));
  }

  not_moved : («from» to : List ℕ) → IsNotMoved a b «from» to → IsNotMoved (tree_disk w a) (tree_disk w b) «from» to
  not_moved «from» to s = record {
    seen = s.seen;
    regular = λ i r. r;
    log = s.log;
    may = may_move «from» to s.may (λ i leads regular at. seen_paths s.seen);
  }

  pub not_moved_or_stays : («from» to : List ℕ) → Stays a b ⊎ IsNotMoved a b «from» to
      → Stays (tree_disk w a) (tree_disk w b) ⊎ IsNotMoved (tree_disk w a) (tree_disk w b) «from» to
  not_moved_or_stays «from» to (inl s) = inl (stays s)
  not_moved_or_stays «from» to (inr s) = inr (not_moved «from» to s)

  may_remove : (n : List ℕ) → MayRemove a b n
      → ((i : ℕ) → a.leads n ≡ Some i → other_in w.others.items i ≡ None → (tree_disk w b).paths ≡ (tree_disk w a).paths)
      → MayRemove (tree_disk w a) (tree_disk w b) n
  may_remove n s paths = record { left = s.left; paths = paths; log = s.log; names = other_names n n s.names; files = files_stay s.files }

  pub removed : (n : List ℕ) → Removed a b n → Removed (tree_disk w a) (tree_disk w b) n
  removed n s = record {
    seen = s.seen;
    may = may_remove n s.may (λ i leads regular. same_paths (λ m. ⊎_elim
        (λ is. ap (over w b.leads) is ∙ ap (other_of w.others.items) s.seen ∙ sym (ap (over w a.leads) is ∙ ap (other_of w.others.items) leads ∙ regular))
        (λ ne. ap (other_of w.others.items) (s.may.names.seen m ne ne))
        (same_or_not m n)));
  }

  pub not_removed : (n : List ℕ) → NotRemoved a b n → NotRemoved (tree_disk w a) (tree_disk w b) n
  not_removed n s = record {
    seen = s.seen;
    may = may_remove n s.may (λ i leads regular. seen_paths (λ m. ⊎_elim
        (λ is. ap b.leads is ∙ s.seen ∙ sym (ap a.leads is)) (λ ne. s.may.names.seen m ne ne) (same_or_not m n)));
  }

  pub elapses : Elapses a b → Elapses (tree_disk w a) (tree_disk w b)
  elapses s = record { later = s.later; nothing_else = s.nothing_else; keeps = s.keeps }

  -- what making a file comes to
  pub makes : {X E : Type 0} (number : X → ℕ) (n : List ℕ) (mode : ℕ) (result : Result (Option X) E)
      → ((file : X) → result ≡ Ok (Some file) → other_in w.others.items (number file) ≡ None)
      → MatchResult result (λ file. MatchOption file (IsTaken a b n) (λ f. Made a b n (number f) mode)) (λ _. Stays a b)
      → MatchResult result (λ file. MatchOption file (IsTaken (tree_disk w a) (tree_disk w b) n) (λ f. Made (tree_disk w a) (tree_disk w b) n (number f) mode))
      (λ _. Stays (tree_disk w a) (tree_disk w b))
  makes number n mode (Ok None) regular s = is_taken n s
  makes number n mode (Ok (Some f)) regular s = made n (number f) mode (regular f refl) s
  makes number n mode (Err e) regular s = stays s

pub same : (w : Layout) (a : Disk) → Stays (tree_disk w a) (tree_disk w a)
same w a = record {
  names = record { seen = λ n. refl; left = λ n x l. l; paths = refl; regular = λ i r. r; log = refl };
  files = record { seen = λ i. refl; left = λ i h l. l };
}
