-- The masks of used elements, by kind and expression.
use Rattle.std.proofs.Common.{◌≡◌, ℕ, ◌<◌, List, get_or, true, ap, subst, sym, ◌∙◌, arith}
use Rattle.std.proofs.lemmas.{Bool.Decides.nat_tests, List.FromFn.get_or-map-range_with_len, Slice.Eq.bytes_eq-Decides}
use Rattle.std.specs.{Bool.IsTrue, Str.bytes_eq}
use Rattle.irig_codes.specs.declared.format.Kind.TheVariants.{A, B, E, G}
use Rattle.irig_codes.specs.{Format.FormatView, Format.is_permitted, Slots.slots_at, Used.masks_of, Used.used_in, Used.used_of, declared.format.Kind.Kind}

-- a permitted expression is one of eight
pub permitted-below : (k : Kind) (n : ℕ) → IsTrue (is_permitted k n) → n < 8
permitted-below A n h = grind (arith, nat_tests)
permitted-below B n h = grind (arith, nat_tests)
permitted-below E n h = grind (arith, nat_tests)
permitted-below G n h = grind (arith, nat_tests)

-- the mask of a format is that of its expression
pub mask-of : (f : FormatView) (k : Kind) (n : ℕ) (masks : List ℕ) → k ≡ f.kind → n ≡ f.expression → IsTrue (is_permitted f.kind n) → masks ≡ masks_of k →
    get_or masks n 0 ≡ used_of (slots_at f)
unfolding masks_of
mask-of f k n masks kind expression permitted same =
    let few = subst (λ m. m < 8) expression (permitted-below f.kind n permitted) in
    ap (λ ms. get_or ms n 0) same ∙ ap (λ j. get_or (masks_of j) n 0) kind ∙ ap (λ m. get_or (masks_of f.kind) m 0) expression
    ∙ get_or-map-range_with_len (used_in f.kind) 0 8 f.expression f.expression 0 few (omega arith)

-- the masks of a kind, by a test that computes
pub masks-are : (k j : Kind) (masks : List ℕ) → j ≡ k → bytes_eq masks (masks_of k) ≡ true → masks ≡ masks_of j
masks-are k j masks kind same = (bytes_eq-Decides masks (masks_of k)).0 same ∙ ap masks_of (sym kind)
