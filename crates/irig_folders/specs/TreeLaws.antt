-- Where paths lead in folders in memory.
use Rattle.std.proofs.Common.{◌≡◌, ◌∙◌, ◌++◌, ℕ, List, Option, Some, None, ap, refl, sym, subst}
use Rattle.std.specs.Path.{path_file_name}
use Rattle.irig_files.specs.Paths.{IsFolderOf, folder_of}
use Rattle.irig_folders.specs.Tree.{IsOdd, IsOther, IsOtherEnd, free_place, path_by, path_to}
use Rattle.irig_folders.specs.Places.{at_place, front_in, joined, place_in}
use Rattle.irig_folders.specs.Links.{ends, link_at, link_by, text_at}
use Rattle.irig_folders.specs.{LinkLaws.end_here, Tree.place_at}
use Rattle.irig_folders.specs.declared.layout.{Layout.Layout, Other.Other}

module _ (w : Layout) (o : List ℕ → Option Other) where
  -- a path whose end is a place with no other file
  pub at_regular : (path e place : List ℕ) → ends w o path ≡ Some e
      → place_in w.folders.items e ≡ Some place
      → o place ≡ None → path_to w o path ≡ Some place
  at_regular path e place ended placed none =
      ap (path_by w.folders.items o) ended ∙ ap (place_at o) placed
      ∙ ap (free_place place) none

  pub no_other : (path e place : List ℕ) → ends w o path ≡ Some e
      → place_in w.folders.items e ≡ Some place
      → o place ≡ None → IsOther w o path → ⊥
  no_other path e place ended placed none other =
      subst IsOdd (ap (at_place o) placed ∙ none) (subst (IsOtherEnd w.folders.items o) ended other)

  -- one with another file
  pub at_other : (path e place : List ℕ) (x : Other) → ends w o path ≡ Some e
      → place_in w.folders.items e ≡ Some place
      → o place ≡ Some x → path_to w o path ≡ None
  at_other path e place x ended placed some =
      ap (path_by w.folders.items o) ended ∙ ap (place_at o) placed
      ∙ ap (free_place place) some

  pub is_other : (path e place : List ℕ) (x : Other) → ends w o path ≡ Some e
      → place_in w.folders.items e ≡ Some place
      → o place ≡ Some x → IsOther w o path
  is_other path e place x ended placed some =
      subst (IsOtherEnd w.folders.items o) (sym ended)
      (subst IsOdd (sym (ap (at_place o) placed ∙ some)) tt)

  -- an open folder is the one of each path to a name in it
  module _ (folder front : List ℕ) (fronted : front_in w.folders.items folder ≡ Some front)
      (path name : List ℕ)
      (in_folder : folder_of path ≡ folder) (named : path_file_name path ≡ Some name)
      (no_link : link_at w o path ≡ None) (not_other : IsOther w o path → ⊥) where
    placed : place_in w.folders.items path ≡ Some (front ++ name)
    placed = ap (λ x. joined x (front_in w.folders.items (folder_of path))) named
        ∙ ap (joined (Some name)) (ap (front_in w.folders.items) in_folder ∙ fronted)

    by_other : (x : Option Other) → o (front ++ name) ≡ x → ends w o path ≡ Some path
        → path_to w o path ≡ Some (front ++ name)
    by_other None is ended = at_regular path path (front ++ name) ended placed is
    by_other (Some x) is ended =
        absurd (not_other (is_other path path (front ++ name) x ended placed is))

    by_end : (x : Option (List ℕ)) (t : List ℕ) → ends w o path ≡ x
        → text_at w.folders.items o path ≡ Some t
        → path_to w o path ≡ Some (front ++ name)
    by_end None t is text = absurd (not_other (subst (IsOtherEnd w.folders.items o) (sym is) tt))
    by_end (Some e) t is text =
        let clash : None ≡ Some t =
        sym no_link ∙ ap (λ x. link_by x (text_at w.folders.items o path)) is ∙ text in
        absurd (cc clash)

    by_text : (x : Option (List ℕ)) → text_at w.folders.items o path ≡ x
        → path_to w o path ≡ Some (front ++ name)
    by_text None is =
        by_other (o (front ++ name)) refl (end_here (text_at w.folders.items o) w.limit path is)
    by_text (Some t) is = by_end (ends w o path) t refl is

  pub opens : (folder front : List ℕ) → front_in w.folders.items folder ≡ Some front
      → IsFolderOf (link_at w o) (IsOther w o) (path_to w o) (λ name. front ++ name) folder
  opens folder front fronted path name in_folder named no_link not_other =
      by_text folder front fronted path name in_folder named no_link not_other
      (text_at w.folders.items o path) refl
