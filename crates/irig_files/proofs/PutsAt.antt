-- The texts written at a place, one after another.
use Rattle.std.proofs.Common.{◌≡◌, ◌++◌, ◌∷◌, [], ℕ, List, Option, Some, None, Bool, true, false, refl, sym, ap, ◌∙◌, cond, inl, inr, Result, Ok, Err}
use Rattle.std.proofs.lemmas.{List.append-nil, Slice.Eq.bytes_eq-Decides}
use Rattle.std.specs.Prelude.{option_map, is_some, IsTrue}
use Rattle.std.specs.Str.{bytes_eq}
use Rattle.irig_text.specs.Shelved.{GrowsBy}
use Rattle.irig_disk.specs.{Disk.Disk, Disk.IsPlace, Held.Held, Put.IsKept, Put.TriesOne, Trail.Moved, Trail.NotMoved, Trail.Synced}
use Rattle.irig_files.specs.Puts.{with_text, texts_of, texts_at, writes_on}
use Rattle.irig_files.specs.{Once.FailsToPut, Once.PutsOnce, Once.PutsText, Taken.mode_at, Writes.Write, Writes.write, Writes.writes_in, WriteLists.writes_more}

-- a text at the end of others, whose first is at the path or is not, and was kept or was not
behind : (here is_kept : Bool) (first text : List ℕ) (xs ys : Option (List (List ℕ))) → ys ≡ option_map (λ ts. ts ++ text ∷ []) xs
    → cond here (with_text is_kept first ys) None ≡ option_map (λ ts. ts ++ text ∷ []) (cond here (with_text is_kept first xs) None)
behind false is_kept first text xs ys e = refl
behind true false first text xs ys e = e
behind true true first text None ys e = rw e refl
behind true true first text (Some ts) ys e = rw e refl

texts_of-append : (place : List ℕ) (held : Held) (m : ℕ) (ws : List Write)
    → texts_of place (ws ++ write place held (Some m) ∷ []) ≡ option_map (λ ts. ts ++ held.bytes ∷ []) (texts_of place ws)
texts_of-append place held m [] = rw ((bytes_eq-Decides place place).1 refl) refl
texts_of-append place held m (w ∷ ws) =
    behind (bytes_eq w.place place) (is_some w.kept_at) w.held.bytes held.bytes (texts_of place ws) _ (texts_of-append place held m ws)

texts_of-failed : (place : List ℕ) (held : Held) (ws : List Write) → texts_of place (ws ++ write place held None ∷ []) ≡ texts_of place ws
texts_of-failed place held [] = rw ((bytes_eq-Decides place place).1 refl) refl
texts_of-failed place held (w ∷ ws) =
    ap (λ ts. cond (bytes_eq w.place place) (with_text (is_some w.kept_at) w.held.bytes ts) None) (texts_of-failed place held ws)

grown : (text : List ℕ) (xs ys : Option (List (List ℕ))) → ys ≡ option_map (λ ts. ts ++ text ∷ []) xs → GrowsBy xs ys (text ∷ [])
grown text None ys e = tt
grown text (Some xs) ys e = rw e refl

grown_none : (xs ys : Option (List (List ℕ))) → ys ≡ xs → GrowsBy xs ys []
grown_none None ys e = tt
grown_none (Some xs) ys e = rw e (sym (append-nil xs))

-- the texts that a write adds
abbrev texts_put : {T E : Type 0} → List ℕ → Result T E → List (List ℕ)
texts_put text (Ok x) = text ∷ []
texts_put text (Err e) = []

-- a path leads where it led
still_at : (old new : Disk) (path place : List ℕ) → old.paths path ≡ Some place → (IsPlace old place → new.paths ≡ old.paths) → new.paths path ≡ Some place
still_at old new path place at paths = ap (λ ps. ps path) (paths (path, at)) ∙ at

module _ (old new : Disk) (path : List ℕ) (held : Held) where
  kept_in : (place : List ℕ) → old.paths path ≡ Some place → IsKept old new place held
      → GrowsBy (texts_of place (writes_in old.log)) (texts_at (new.paths path) (Some (writes_in new.log))) (held.bytes ∷ [])
  kept_in place at kept =
      let log : writes_in new.log ≡ writes_in old.log ++ write place held (Some new.moment) ∷ [] =
      ap writes_in kept.log ∙ writes_more old.log (Moved place (Some held) ∷ Synced new.moment ∷ []) refl in
      let same : texts_at (new.paths path) (Some (writes_in new.log)) ≡ texts_of place (writes_in new.log) =
      ap (λ p. texts_at p (Some (writes_in new.log))) (still_at old new path place at kept.paths) in
      grown held.bytes (texts_of place (writes_in old.log)) (texts_at (new.paths path) (Some (writes_in new.log)))
      (same ∙ ap (texts_of place) log ∙ texts_of-append place held new.moment (writes_in old.log))

  tried_in : (place : List ℕ) → old.paths path ≡ Some place → FailsToPut old new place held
      → GrowsBy (texts_of place (writes_in old.log)) (texts_at (new.paths path) (Some (writes_in new.log))) []
  tried_in place at fault =
      let same : texts_at (new.paths path) (Some (writes_in new.log)) ≡ texts_of place (writes_in new.log) =
      ap (λ p. texts_at p (Some (writes_in new.log))) (still_at old new path place at fault.paths) in
      grown_none (texts_of place (writes_in old.log)) (texts_at (new.paths path) (Some (writes_in new.log))) (same ∙ go fault.log)
    where
      go : TriesOne old new place held → texts_of place (writes_in new.log) ≡ texts_of place (writes_in old.log)
      go (inl none) = ap (λ l. texts_of place (writes_in l)) none.log
      go (inr (inl moved)) = ap (λ l. texts_of place (writes_in l)) moved
          ∙ ap (texts_of place) (writes_more old.log (Moved place (Some held) ∷ []) refl) ∙ texts_of-failed place held (writes_in old.log)
      go (inr (inr moved)) = ap (λ l. texts_of place (writes_in l)) moved
          ∙ ap (texts_of place) (writes_more old.log (NotMoved place (Some held) ∷ []) refl) ∙ texts_of-failed place held (writes_in old.log)

  put_on : {T E : Type 0} (target : Option (List ℕ)) (result : Result T E) → old.paths path ≡ target → PutsOnce old new target held result
      → GrowsBy (texts_at target (Some (writes_in old.log))) (texts_at (new.paths path) (Some (writes_in new.log))) (texts_put held.bytes result)
  put_on None result at once = tt
  put_on (Some place) (Ok x) at once = kept_in place at once.ok
  put_on (Some place) (Err e) at once = tried_in place at once.err

untold : (target : Option (List ℕ)) (new : Option (List (List ℕ))) (more : List (List ℕ)) → GrowsBy (texts_at target None) new more
untold None new more = tt
untold (Some place) new more = tt

-- a text written at what the path leads to, or none
pub texts_at-put : {T E : Type 0} (told : Bool) (old new : Disk) (path text : List ℕ) (result : Result T E)
    → (usual : ℕ) → (IsTrue told → PutsText usual old new (old.paths path) text result)
    → GrowsBy (texts_at (old.paths path) (writes_on told old)) (texts_at (new.paths path) (writes_on told new)) (texts_put text result)
texts_at-put false old new path text result usual once = untold (old.paths path) _ _
texts_at-put true old new path text result usual once =
    put_on old new path (record { bytes = text; mode = mode_at usual old (old.paths path) }) (old.paths path) result refl (once refl)

-- the texts at a place, by a path that leads there still
pub texts_where : (told : Bool) (old new : Disk) (path path' : List ℕ) → path' ≡ path → (IsTrue told → new.paths ≡ old.paths)
    → texts_at (new.paths path') (writes_on told new) ≡ texts_at (old.paths path) (writes_on told new)
texts_where true old new path path' same paths = λ j. texts_at (paths refl j (same j)) (Some (writes_in new.log))
texts_where false old new path path' same paths = none (new.paths path') ∙ sym (none (old.paths path))
  where
    none : (p : Option (List ℕ)) → texts_at p None ≡ None
    none None = refl
    none (Some place) = refl
