-- Lists that are turned over.
use Rattle.std.proofs.Common.{◌≡◌, ◌∷◌, ◌++◌, [], List, map, reverse, refl, ap, sym, ◌∙◌}
use Rattle.std.proofs.lemmas.List.{reverse-append}
use mathlib.Core.List.{map-append}

-- a list turned over and then shown, and the other way round
pub map-reverse : {A B : Type 0} (f : A → B) (xs : List A) → map f (reverse xs) ≡ reverse (map f xs)
map-reverse f [] = refl
map-reverse f (x ∷ xs) =
    ap (map f) (reverse-append (x ∷ []) xs) ∙ map-append f (reverse xs) (x ∷ []) ∙ ap (λ ys. ys ++ f x ∷ []) (map-reverse f xs)
    ∙ sym (reverse-append (f x ∷ []) (map f xs))
