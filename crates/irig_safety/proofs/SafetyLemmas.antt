-- What is left to be judged, at a place of the frames from before and of those from after.
use Rattle.std.proofs.Common.{◌≡◌, ◌↔◌, ◌+◌, ◌-◌, ◌<◌, ◌≤◌, ℕ, zero, suc, Bool, true, false, List, [], ◌∷◌, Option, Some, None, length, drop, slice_get}
use Rattle.std.proofs.Common.{drop-cons, inl, inr, refl, ap, sym, ◌∙◌, subst, add-one, arith, if◌then◌else◌}
use Rattle.std.proofs.Math.Seq.{drop-nil}
use Rattle.std.specs.Prelude.{IfErr, IfOk, IsTrue, Result, Ok, Err}
use Rattle.std.proofs.lemmas.{List.drop_all, Option.get_or_from_slice_get, Option.slice_get_within}
use Rattle.irig_codes.specs.Format.{FormatView}
use Rattle.irig_safety.specs.Faults.{FaultFrom, Finds, IsSpoiledBy, JudgedAt, JudgedFrom}
use Rattle.irig_safety.specs.Safety.{Comes, IsSafeFrom, LeadOn, NoneIsSpoiled, Stays, behind}
use Rattle.irig_safety.specs.declared.fault.Fault.TheVariants.{Changed, Lost, Unsupported}
use Rattle.irig_safety.specs.{Bearing.leads, Mended.Mends, Terms.OthersView, Witnesses.is_borne, declared.fault.Fault.Fault, declared.shown.Shown.Shown}

-- from a place on: what is there, and what follows
pub drop-item : (xs : List Shown) (i : ℕ) (x : Shown) → slice_get xs i ≡ Some x → drop i xs ≡ x ∷ drop (i + 1) xs
drop-item xs i x e = rw add-one
    (drop-cons xs i x (slice_get_within xs i x e) ∙ ap (λ y. y ∷ drop (suc i) xs) (get_or_from_slice_get xs i x x e))

pub drop_past : (k : ℕ) (xs : List Shown) → slice_get xs k ≡ None → drop k xs ≡ []
drop_past k [] e = drop-nil k
drop_past zero (x ∷ xs) e = absurd (cc)
drop_past (suc k) (x ∷ xs) e = drop_past k xs e

pub next_behind : (k : ℕ) (xs : List Shown) → behind (k + 1) xs ≡ slice_get xs k
next_behind k xs = ap (λ m. behind m xs) (add-one k)

-- what is after a place
pub get-drop : (k j : ℕ) (xs : List Shown) → slice_get (drop k xs) j ≡ slice_get xs (k + j)
get-drop zero j xs = let e : j ≡ 0 + j = omega arith in ap (slice_get xs) e
get-drop (suc k) j [] = refl
get-drop (suc k) j (x ∷ xs) = let e : suc (k + j) ≡ suc k + j = omega arith in get-drop k j xs ∙ ap (slice_get (x ∷ xs)) e

pub first_from : (k : ℕ) (xs : List Shown) → slice_get (drop k xs) 0 ≡ slice_get xs k
first_from k xs = let e : k + 0 ≡ k = omega arith in get-drop k 0 xs ∙ ap (slice_get xs) e

-- what is before the next place
next_two : (f : FormatView) (ws : OthersView) (old rest : List Shown) (k : ℕ) (o : Shown) (found : Option Fault) → slice_get old k ≡ Some o
    → JudgedAt f ws old (k + 1) rest found ≡ JudgedFrom f ws (behind k old) (Some o) (drop (k + 1) old) rest found
next_two f ws old rest k o found e =
    let one : k + 1 - 1 ≡ k = omega arith in
    λ i. JudgedFrom f ws (behind (one i) old) ((next_behind k old ∙ e) i) (drop (k + 1) old) rest found

-- a frame that was there
stay_on : (f : FormatView) (ws : OthersView) (a2 a : Option Shown) (o n : Shown) (old new : List Shown) (found : Option Fault) → o.rise ≡ n.rise
    → Stays f ws a2 a o old n → JudgedFrom f ws a (Some o) old new found → JudgedFrom f ws a2 a (o ∷ old) (n ∷ new) found
stay_on f ws a2 a o n old new None same stays h = inl (same, stays, h)
stay_on f ws a2 a o n old new (Some why) same stays h = inl (same, inr (stays, h))

pub at_stay : (f : FormatView) (ws : OthersView) (old : List Shown) (k : ℕ) (o n : Shown) (rest : List Shown) (found : Option Fault) → slice_get old k ≡ Some o
    → o.rise ≡ n.rise → Stays f ws (behind (k - 1) old) (behind k old) o (drop (k + 1) old) n → JudgedAt f ws old (k + 1) rest found
    → JudgedAt f ws old k (n ∷ rest) found
at_stay f ws old k o n rest found e same stays h =
    subst (λ (l : List Shown). JudgedFrom f ws (behind (k - 1) old) (behind k old) l (n ∷ rest) found) (sym (drop-item old k o e))
    (stay_on f ws (behind (k - 1) old) (behind k old) o n (drop (k + 1) old) rest found same stays
    (subst (λ (T : Type 0). T) (next_two f ws old rest k o found e) h))

-- one that is another now, and one that is passed
pub not_stay : (f : FormatView) (ws : OthersView) (old : List Shown) (k : ℕ) (o n : Shown) (rest : List Shown) → slice_get old k ≡ Some o → o.rise ≡ n.rise
    → (Stays f ws (behind (k - 1) old) (behind k old) o (drop (k + 1) old) n → ⊥) → JudgedAt f ws old k (n ∷ rest) (Some (Changed o))
not_stay f ws old k o n rest e same other =
    subst (λ (l : List Shown). FaultFrom f ws (behind (k - 1) old) (behind k old) l (n ∷ rest) (Changed o)) (sym (drop-item old k o e))
    (inl (same, inl (other, refl)))

pub at_lost : (f : FormatView) (ws : OthersView) (old : List Shown) (k : ℕ) (o n : Shown) (rest : List Shown) → slice_get old k ≡ Some o → o.rise < n.rise
    → JudgedAt f ws old k (n ∷ rest) (Some (Lost o))
at_lost f ws old k o n rest e less =
    subst (λ (l : List Shown). FaultFrom f ws (behind (k - 1) old) (behind k old) l (n ∷ rest) (Lost o)) (sym (drop-item old k o e))
    (inr (inr (less, refl)))

-- a frame before the next one of the former
abbrev pub IsBefore : List Shown → ℕ → Shown → Type 0
IsBefore old k n = (o : Shown) → slice_get old k ≡ Some o → n.rise < o.rise

none_later : (k : ℕ) (xs : List Shown) → slice_get xs k ≡ None → slice_get xs (k + 1) ≡ None
none_later k [] e = refl
none_later zero (x ∷ xs) e = absurd (cc)
none_later (suc k) (x ∷ xs) e = let same : suc k + 1 ≡ suc (k + 1) = omega arith in ap (slice_get (x ∷ xs)) same ∙ none_later k xs e

-- one that was not there, before the former that are left
come_on : (f : FormatView) (ws : OthersView) (a2 a : Option Shown) (old new : List Shown) (n : Shown) (found : Option Fault) → IsBefore old 0 n
    → Comes f a2 a old n → JudgedFrom f ws a2 a old new found → JudgedFrom f ws a2 a old (n ∷ new) found
come_on f ws a2 a [] new n None before comes h = (comes, h)
come_on f ws a2 a [] new n (Some why) before comes h = inr (comes, h)
come_on f ws a2 a (o ∷ old) new n None before comes h = inr (before o refl, comes, h)
come_on f ws a2 a (o ∷ old) new n (Some why) before comes h = inr (inl (before o refl, inr (comes, h)))

not_come : (f : FormatView) (ws : OthersView) (a2 a : Option Shown) (old new : List Shown) (n : Shown) → IsBefore old 0 n → (Comes f a2 a old n → ⊥)
    → FaultFrom f ws a2 a old (n ∷ new) (Unsupported n)
not_come f ws a2 a [] new n before other = inl (other, refl)
not_come f ws a2 a (o ∷ old) new n before other = inr (inl (before o refl, inl (other, refl)))

first_before : (old : List Shown) (k : ℕ) (n : Shown) → IsBefore old k n → IsBefore (drop k old) 0 n
first_before old k n before o e = before o (sym (first_from k old) ∙ e)

-- what is borne out at a place
comes_at : (f : FormatView) (old : List Shown) (k : ℕ) (n : Shown)
    → is_borne f (behind (k - 1) old) (behind k old) (slice_get (drop k old) 0) (slice_get (drop k old) 1) n
    ≡ is_borne f (behind (k - 1) old) (behind k old) (slice_get old k) (slice_get old (k + 1)) n
comes_at f old k n = λ i. is_borne f (behind (k - 1) old) (behind k old) (first_from k old i) (get-drop k 1 old i) n

-- what becomes of a place
abbrev pub Passes : FormatView → OthersView → List Shown → ℕ → Shown → Result ℕ Fault → List Shown → Type 0
Passes f ws old k n (Ok p) rest = (found : Option Fault) → JudgedAt f ws old p rest found → JudgedAt f ws old k (n ∷ rest) found
Passes f ws old k n (Err why) rest = JudgedAt f ws old k (n ∷ rest) (Some why)

pub comes_on : (f : FormatView) (ws : OthersView) (old : List Shown) (k : ℕ) (n : Shown) (r : Result ℕ Fault) (rest : List Shown) → IsBefore old k n
    → (borne : Bool) → is_borne f (behind (k - 1) old) (behind k old) (slice_get old k) (slice_get old (k + 1)) n ≡ borne
    → r ≡ (if borne then Ok k else Err (Unsupported n)) → Passes f ws old k n r rest
comes_on f ws old k n r rest before true so e =
    subst (λ (r : Result ℕ Fault). Passes f ws old k n r rest) (sym e)
    (λ found h. come_on f ws (behind (k - 1) old) (behind k old) (drop k old) rest n found (first_before old k n before) (comes_at f old k n ∙ so) h)
comes_on f ws old k n r rest before false not_so e =
    subst (λ (r : Result ℕ Fault). Passes f ws old k n r rest) (sym e)
    (not_come f ws (behind (k - 1) old) (behind k old) (drop k old) rest n (first_before old k n before)
    (λ s. let bad : true ≡ false = sym s ∙ (comes_at f old k n ∙ not_so) in absurd (cc)))

pub passes_ok : (f : FormatView) (ws : OthersView) (old : List Shown) (k : ℕ) (n : Shown) (r : Result ℕ Fault) (rest : List Shown) (found : Option Fault)
    → Passes f ws old k n r rest → IfOk r (λ p. JudgedAt f ws old p rest found → JudgedAt f ws old k (n ∷ rest) found)
passes_ok f ws old k n (Ok p) rest found h = h found
passes_ok f ws old k n (Err why) rest found h = tt

pub passes_err : (f : FormatView) (ws : OthersView) (old : List Shown) (k : ℕ) (n : Shown) (r : Result ℕ Fault) (rest : List Shown)
    → Passes f ws old k n r rest → IfErr r (λ why. JudgedAt f ws old k (n ∷ rest) (Some why))
passes_err f ws old k n (Ok p) rest h = tt
passes_err f ws old k n (Err why) rest h = h

pub none_before : (old : List Shown) (k : ℕ) (n : Shown) → slice_get old k ≡ None → IsBefore old k n
none_before old k n e o h = let bad : None ≡ Some o = sym e ∙ h in absurd (cc)

pub some_before : (old : List Shown) (k : ℕ) (n x : Shown) → slice_get old k ≡ Some x → n.rise < x.rise → IsBefore old k n
some_before old k n x e less o h =
    let both : Some x ≡ Some o = sym e ∙ h in
    let same : x ≡ o = cc in
    subst (λ (y : Shown). n.rise < y.rise) same less

pub come_within : (old : List Shown) (k : ℕ) (borne : Bool) (n : Shown) (r : Result ℕ Fault) → k ≤ length old
    → r ≡ (if borne then Ok k else Err (Unsupported n)) → IfOk r (λ p. p ≤ length old)
come_within old k true n r most e = subst (λ (r : Result ℕ Fault). IfOk r (λ p. p ≤ length old)) (sym e) most
come_within old k false n r most e = subst (λ (r : Result ℕ Fault). IfOk r (λ p. p ≤ length old)) (sym e) tt

-- what is left, as all was
abbrev pub Judges : FormatView → OthersView → List Shown → List Shown → ℕ → ℕ → Type 0
Judges f ws old new k i =
    (k ≤ length old) × ((found : Option Fault) → JudgedAt f ws old k (drop i new) found → JudgedFrom f ws None None old new found)

pub judge_on : (f : FormatView) (ws : OthersView) (old new : List Shown) (k i p : ℕ) (n : Shown) → slice_get new i ≡ Some n → p ≤ length old
    → ((rest : List Shown) (found : Option Fault) → JudgedAt f ws old p rest found → JudgedAt f ws old k (n ∷ rest) found) → Judges f ws old new k i
    → Judges f ws old new p (i + 1)
judge_on f ws old new k i p n h most on s = (
  most,
  λ found l. s.1 found (subst (λ (r : List Shown). JudgedAt f ws old k r found) (sym (drop-item new i n h)) (on (drop (i + 1) new) found l)),
)

pub judge_none : (f : FormatView) (ws : OthersView) (old new : List Shown) (k i : ℕ) (n : Shown) (why : Fault) → slice_get new i ≡ Some n
    → ((rest : List Shown) → JudgedAt f ws old k (n ∷ rest) (Some why)) → Judges f ws old new k i → FaultFrom f ws None None old new why
judge_none f ws old new k i n why h fault s =
    s.1 (Some why) (subst (λ (l : List Shown). JudgedAt f ws old k l (Some why)) (sym (drop-item new i n h)) (fault (drop (i + 1) new)))

-- at the end of the new frames
left_none : (f : FormatView) (ws : OthersView) (a2 a : Option Shown) (old : List Shown) → old ≡ [] → IsSafeFrom f ws a2 a old []
left_none f ws a2 a old e = subst (λ (l : List Shown). IsSafeFrom f ws a2 a l []) (sym e) tt

left_some : (f : FormatView) (ws : OthersView) (a2 a : Option Shown) (o : Shown) (old rest : List Shown) → old ≡ o ∷ rest → FaultFrom f ws a2 a old [] (Lost o)
left_some f ws a2 a o old rest e = subst (λ (l : List Shown). FaultFrom f ws a2 a l [] (Lost o)) (sym e) refl

pub judge_end : (f : FormatView) (ws : OthersView) (old new : List Shown) (k i : ℕ) → length new ≤ i → slice_get old k ≡ None → Judges f ws old new k i
    → IsSafeFrom f ws None None old new
judge_end f ws old new k i past none s =
    s.1 None (subst (λ (l : List Shown). JudgedAt f ws old k l None) (sym (drop_all i new past))
    (left_none f ws (behind (k - 1) old) (behind k old) (drop k old) (drop_past k old none)))

pub judge_left : (f : FormatView) (ws : OthersView) (old new : List Shown) (k i : ℕ) (o : Shown) → length new ≤ i → slice_get old k ≡ Some o
    → Judges f ws old new k i → FaultFrom f ws None None old new (Lost o)
judge_left f ws old new k i o past some s =
    s.1 (Some (Lost o)) (subst (λ (l : List Shown). JudgedAt f ws old k l (Some (Lost o))) (sym (drop_all i new past))
    (left_some f ws (behind (k - 1) old) (behind k old) o (drop k old) (drop (k + 1) old) (drop-item old k o some)))

-- the same of frames that are found again
find_here : (x n : Shown) (last rest : List Shown) (why : Option Fault) → x.rise ≡ n.rise → Finds last rest why → Finds (x ∷ last) (n ∷ rest) why
find_here x n last rest None same h = inl (same, h)
find_here x n last rest (Some why) same h = inl (same, h)

pub found_here : (last : List Shown) (k : ℕ) (x n : Shown) (rest : List Shown) (why : Option Fault) → slice_get last k ≡ Some x → x.rise ≡ n.rise
    → Finds (drop (k + 1) last) rest why → Finds (drop k last) (n ∷ rest) why
found_here last k x n rest why e same h =
    subst (λ (l : List Shown). Finds l (n ∷ rest) why) (sym (drop-item last k x e)) (find_here x n (drop (k + 1) last) rest why same h)

find_later : (n : Shown) (last rest : List Shown) (why : Option Fault) → IsBefore last 0 n → Finds last rest why → Finds last (n ∷ rest) why
find_later n [] rest None before h = tt
find_later n [] rest (Some why) before h = absurd h
find_later n (x ∷ last) rest None before h = inr (before x refl, h)
find_later n (x ∷ last) rest (Some why) before h = inr (inl (before x refl, h))

pub found_later : (last : List Shown) (k : ℕ) (n : Shown) (rest : List Shown) (why : Option Fault) → IsBefore last k n
    → Finds (drop k last) rest why → Finds (drop k last) (n ∷ rest) why
found_later last k n rest why before h = find_later n (drop k last) rest why (first_before last k n before) h

pub not_found : (last : List Shown) (k : ℕ) (x n : Shown) (rest : List Shown) → slice_get last k ≡ Some x → x.rise < n.rise
    → IsSpoiledBy (drop k last) (n ∷ rest) (Lost x)
not_found last k x n rest e less =
    subst (λ (l : List Shown). IsSpoiledBy l (n ∷ rest) (Lost x)) (sym (drop-item last k x e)) (inr (inr (less, refl)))

abbrev pub FindsAll : List Shown → List Shown → ℕ → ℕ → Type 0
FindsAll last new k i = (k ≤ length last) × ((why : Option Fault) → Finds (drop k last) (drop i new) why → Finds last new why)

pub find_on : (last new : List Shown) (k i p : ℕ) (n : Shown) → slice_get new i ≡ Some n → p ≤ length last
    → ((rest : List Shown) (why : Option Fault) → Finds (drop p last) rest why → Finds (drop k last) (n ∷ rest) why) → FindsAll last new k i
    → FindsAll last new p (i + 1)
find_on last new k i p n h most on s = (
  most,
  λ why l. s.1 why (subst (λ (r : List Shown). Finds (drop k last) r why) (sym (drop-item new i n h)) (on (drop (i + 1) new) why l)),
)

pub find_none : (last new : List Shown) (k i : ℕ) (n : Shown) (why : Fault) → slice_get new i ≡ Some n
    → ((rest : List Shown) → Finds (drop k last) (n ∷ rest) (Some why)) → FindsAll last new k i → IsSpoiledBy last new why
find_none last new k i n why h fault s =
    s.1 (Some why) (subst (λ (l : List Shown). Finds (drop k last) l (Some why)) (sym (drop-item new i n h)) (fault (drop (i + 1) new)))

unspoiled_none : (last : List Shown) → last ≡ [] → NoneIsSpoiled last []
unspoiled_none last e = subst (λ (l : List Shown). NoneIsSpoiled l []) (sym e) tt

spoiled_some : (x : Shown) (last rest : List Shown) → last ≡ x ∷ rest → IsSpoiledBy last [] (Lost x)
spoiled_some x last rest e = subst (λ (l : List Shown). IsSpoiledBy l [] (Lost x)) (sym e) refl

pub find_end : (last new : List Shown) (k i : ℕ) → length new ≤ i → slice_get last k ≡ None → FindsAll last new k i → NoneIsSpoiled last new
find_end last new k i past none s =
    s.1 None (subst (λ (l : List Shown). Finds (drop k last) l None) (sym (drop_all i new past)) (unspoiled_none (drop k last) (drop_past k last none)))

pub find_left : (last new : List Shown) (k i : ℕ) (x : Shown) → length new ≤ i → slice_get last k ≡ Some x → FindsAll last new k i
    → IsSpoiledBy last new (Lost x)
find_left last new k i x past some s =
    s.1 (Some (Lost x)) (subst (λ (l : List Shown). Finds (drop k last) l (Some (Lost x))) (sym (drop_all i new past))
    (spoiled_some x (drop k last) (drop (k + 1) last) (drop-item last k x some)))

-- frames that lead on from one of them
pub lead_step : (f : FormatView) (xs : List Shown) (k : ℕ) (x y : Shown) → slice_get xs k ≡ Some x → slice_get xs (k + 1) ≡ Some y → leads f x y ≡ true
    → LeadOn f (drop k xs) ↔ LeadOn f (drop (k + 1) xs)
lead_step f xs k x y e h led =
    let cut : drop k xs ≡ x ∷ (y ∷ drop (k + 1 + 1) xs) = drop-item xs k x e ∙ ap (λ l. x ∷ l) (drop-item xs (k + 1) y h) in
    let next : drop (k + 1) xs ≡ y ∷ drop (k + 1 + 1) xs = drop-item xs (k + 1) y h in
    rw (cut, next) (λ s. s.1, λ s. (led, s))

pub lead_stops : (f : FormatView) (xs : List Shown) (k : ℕ) (x y : Shown) → slice_get xs k ≡ Some x → slice_get xs (k + 1) ≡ Some y → leads f x y ≡ false
    → LeadOn f (drop k xs) → ⊥
lead_stops f xs k x y e h led s =
    let cut : drop k xs ≡ x ∷ (y ∷ drop (k + 1 + 1) xs) = drop-item xs k x e ∙ ap (λ l. x ∷ l) (drop-item xs (k + 1) y h) in
    let bad : true ≡ false = sym (subst (λ (l : List Shown). LeadOn f l) cut s).0 ∙ led in
    cc

pub lead_last : (f : FormatView) (xs : List Shown) (k : ℕ) → length xs ≤ k + 1 → LeadOn f (drop k xs)
lead_last f [] k few = subst (λ (l : List Shown). LeadOn f l) (sym (drop-nil k)) tt
lead_last f (x ∷ []) zero few = tt
lead_last f (x ∷ y ∷ xs) zero few = absurd (omega arith)
lead_last f (x ∷ xs) (suc k) few = lead_last f xs k (omega arith)

-- whether a frame stays
pub stays_if : (f : FormatView) (ws : OthersView) (a2 a : Option Shown) (o n : Shown) (old : List Shown) (k : ℕ) (r : Bool) → (o ≡ n → ⊥)
    → IsTrue r ↔ Mends f ws a2 a o (slice_get old (k + 1)) (slice_get old (k + 2)) n → IsTrue r ↔ Stays f ws a2 a o (drop (k + 1) old) n
stays_if f ws a2 a o n old k r other e =
    let first : slice_get (drop (k + 1) old) 0 ≡ slice_get old (k + 1) = first_from (k + 1) old in
    let at : k + 1 + 1 ≡ k + 2 = omega arith in
    let second : slice_get (drop (k + 1) old) 1 ≡ slice_get old (k + 2) = get-drop (k + 1) 1 old ∙ ap (slice_get old) at in
    let same : Mends f ws a2 a o (slice_get old (k + 1)) (slice_get old (k + 2)) n
    ≡ Mends f ws a2 a o (slice_get (drop (k + 1) old) 0) (slice_get (drop (k + 1) old) 1) n =
    λ i. Mends f ws a2 a o (sym first i) (sym second i) n in (
      λ t. inr (subst (λ (T : Type 0). T) same (e.0 t)),
      λ s. elim s [
        | inl one ↦ absurd (other one)
        | inr two ↦ e.1 (subst (λ (T : Type 0). T) (sym same) two)
      ],
    )

pub lead_at : (f : FormatView) (xs : List Shown) (p : ℕ) (x y : Shown) → 1 ≤ p → slice_get xs (p - 1) ≡ Some x → slice_get xs p ≡ Some y → leads f x y ≡ true
    → LeadOn f (drop (p - 1) xs) ↔ LeadOn f (drop (p + 1 - 1) xs)
lead_at f xs p x y least first second led =
    let here : p - 1 + 1 ≡ p = omega (arith, least) in
    let there : p + 1 - 1 ≡ p - 1 + 1 = omega (arith, least) in
    let on = lead_step f xs (p - 1) x y first (ap (slice_get xs) here ∙ second) led in
    rw there on
