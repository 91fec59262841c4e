-- The letters of a frame name its roles, of which there are a hundred.
use Rattle.std.proofs.Common.{◌≡◌, ◌∙◌, Bool, true, false, length, map, refl}
use Rattle.std.proofs.lemmas.List.{length-map}
use Rattle.std.proofs.lemmas.List.FromFn.{length-map-range_with_len}
use Rattle.irig_codes.specs.Format.{FormatView, has_control, has_sbs, has_year}
use Rattle.irig_codes.specs.{Slots.slot_of, Slots.slots_at, Slots.slots_of, declared.format.Kind.Kind}
use Rattle.irig_codes.specs.declared.format.Kind.TheVariants.{A, B, E, G}
use Rattle.irig_happenings.specs.{Letters.letters_of, Letters.named, Roles.role_of, Roles.roles_of}

pub named-are : (k : Kind) (y c s : Bool) → map (named c s) (letters_of k y) ≡ map role_of (slots_of k c s y)
unfolding slots_of
named-are A false false false = refl
named-are A false false true = refl
named-are A false true false = refl
named-are A false true true = refl
named-are A true false false = refl
named-are A true false true = refl
named-are A true true false = refl
named-are A true true true = refl
named-are B false false false = refl
named-are B false false true = refl
named-are B false true false = refl
named-are B false true true = refl
named-are B true false false = refl
named-are B true false true = refl
named-are B true true false = refl
named-are B true true true = refl
named-are E false false false = refl
named-are E false false true = refl
named-are E false true false = refl
named-are E false true true = refl
named-are E true false false = refl
named-are E true false true = refl
named-are E true true false = refl
named-are E true true true = refl
named-are G false false false = refl
named-are G false false true = refl
named-are G false true false = refl
named-are G false true true = refl
named-are G true false false = refl
named-are G true false true = refl
named-are G true true false = refl
named-are G true true true = refl

pub length-letters : (k : Kind) (y : Bool) → length (letters_of k y) ≡ 100
length-letters A false = refl
length-letters A true = refl
length-letters B false = refl
length-letters B true = refl
length-letters E false = refl
length-letters E true = refl
length-letters G false = refl
length-letters G true = refl

pub length-roles : (f : FormatView) → length (roles_of f) ≡ 100
unfolding slots_of
length-roles f =
    length-map (slots_at f) role_of
    ∙ length-map-range_with_len (slot_of f.kind (has_control f.expression) (has_sbs f.expression) (has_year f.expression)) 0 100
