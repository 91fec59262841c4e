-- What a witness sees before answers that are given in turn.
use Rattle.std.proofs.Common.{◌≡◌, ◌+◌, ◌++◌, ◌∷◌, ◌≤◌, [], ℕ, Option, Some, None, List, length, take, refl, ap, sym, ◌∙◌, subst, append_assoc, arith}
use Rattle.std.specs.Prelude.{IsSome}
use Rattle.std.proofs.KnownBytes.{Appends-trans}
use Rattle.std.specs.Io.KnownBytes.{Appends}
use Rattle.std.proofs.lemmas.{List.append-nil, List.take-append-le, Grind.flat_map-append}
use Rattle.std.proofs.Math.Seq.{take-append-add}
use Rattle.irig_script.specs.Obey.Seen.{AreSeen, numbers_in}
use Rattle.irig_script.specs.{Print.Printed.Answer, Print.Printed.printed, Print.Screen.Sight}
use Rattle.irig_text.specs.Shelved.{GrowsBy}

pub grows-grows : {T : Type 0} (a b c : Option (List T)) (ts us : List T) → GrowsBy a b ts → GrowsBy b c us → GrowsBy a c (ts ++ us)
grows-grows None b c ts us p q = tt
grows-grows (Some s) None c ts us p q = absurd p
grows-grows (Some s) (Some t) None ts us p q = absurd q
grows-grows (Some s) (Some t) (Some u) ts us p q = q ∙ ap (λ l. l ++ us) p ∙ append_assoc s ts us

pub grows_known : {T : Type 0} (a b : Option (List T)) (ts : List T) → GrowsBy a b ts → IsSome a → IsSome b
grows_known None b ts p known = absurd (cc)
grows_known (Some s) None ts p known = absurd p
grows_known (Some s) (Some t) ts p known = refl

pub numbers_in-append : (rs qs : List Answer) → numbers_in (rs ++ qs) ≡ numbers_in rs + numbers_in qs
numbers_in-append [] qs = omega arith
numbers_in-append (r ∷ rs) qs = omega (arith, numbers_in-append rs qs)

-- more texts come later
seen_more : (out : Option (List ℕ)) (shelf : Option (List (List ℕ))) (before rs : List Answer) (ts us : List (List ℕ)) (ss : List Sight)
    → numbers_in (before ++ rs) ≤ length ts → AreSeen out shelf before rs ts ss → AreSeen out shelf before rs (ts ++ us) ss
seen_more out shelf before [] ts us [] few h = tt
seen_more out shelf before [] ts us (s ∷ ss) few h = absurd h
seen_more out shelf before (r ∷ rs) ts us [] few h = absurd h
seen_more out shelf before (r ∷ rs) ts us (s ∷ ss) few h =
    let now = before ++ r ∷ [] in
    let rest : numbers_in (now ++ rs) ≤ length ts = subst (λ (l : List Answer). numbers_in l ≤ length ts) (sym (append_assoc before (r ∷ []) rs)) few in
    let here : numbers_in now ≤ length ts = omega (arith, rest, numbers_in-append now rs) in (
      record {
        printed = h.0.printed;
        put = subst (λ (l : List (List ℕ)). GrowsBy shelf s.texts l) (sym (take-append-le (numbers_in now) ts us here)) h.0.put;
      },
      seen_more out shelf now rs ts us ss rest h.1,
    )

-- answers in turn
seen-seen : (out : Option (List ℕ)) (shelf : Option (List (List ℕ))) (before rs qs : List Answer) (ts : List (List ℕ)) (ss zs : List Sight)
    → AreSeen out shelf before rs ts ss → AreSeen out shelf (before ++ rs) qs ts zs → AreSeen out shelf before (rs ++ qs) ts (ss ++ zs)
seen-seen out shelf before [] qs ts [] zs h k = subst (λ (l : List Answer). AreSeen out shelf l qs ts zs) (append-nil before) k
seen-seen out shelf before [] qs ts (s ∷ ss) zs h k = absurd h
seen-seen out shelf before (r ∷ rs) qs ts [] zs h k = absurd h
seen-seen out shelf before (r ∷ rs) qs ts (s ∷ ss) zs h k = (
  h.0,
  seen-seen out shelf (before ++ r ∷ []) rs qs ts ss zs h.1
      (subst (λ (l : List Answer). AreSeen out shelf l qs ts zs) (sym (append_assoc before (r ∷ []) rs)) k),
)

-- from an earlier desk on
seen_since : (out mid : Option (List ℕ)) (shelf then : Option (List (List ℕ))) (rs before qs : List Answer) (ts us : List (List ℕ)) (zs : List Sight)
    → Appends out mid (printed rs) → GrowsBy shelf then ts → length ts ≡ numbers_in rs → AreSeen mid then before qs us zs
    → AreSeen out shelf (rs ++ before) qs (ts ++ us) zs
seen_since out mid shelf then rs before [] ts us [] p g n h = tt
seen_since out mid shelf then rs before [] ts us (z ∷ zs) p g n h = absurd h
seen_since out mid shelf then rs before (q ∷ qs) ts us [] p g n h = absurd h
seen_since out mid shelf then rs before (q ∷ qs) ts us (z ∷ zs) p g n h =
    let now = before ++ q ∷ [] in
    let assoc : (rs ++ before) ++ q ∷ [] ≡ rs ++ now = append_assoc rs before (q ∷ []) in
    let count : numbers_in ((rs ++ before) ++ q ∷ []) ≡ length ts + numbers_in now =
    ap numbers_in assoc ∙ (numbers_in-append rs now ∙ ap (λ k. k + numbers_in now) (sym n)) in
    let texts : take (numbers_in ((rs ++ before) ++ q ∷ [])) (ts ++ us) ≡ ts ++ take (numbers_in now) us =
    ap (λ k. take k (ts ++ us)) count ∙ take-append-add ts us (numbers_in now) in
    let text : printed (rs ++ before) ≡ printed rs ++ printed before = flat_map-append (λ (answer : Answer). answer.text) rs before in (
      record {
        printed = subst (λ (l : List ℕ). Appends out z.out l) (sym text)
            (Appends-trans out mid z.out (printed rs) (printed before) p h.0.printed);
        put = subst (λ (l : List (List ℕ)). GrowsBy shelf z.texts l) (sym texts)
            (grows-grows shelf then z.texts ts (take (numbers_in now) us) g h.0.put);
      },
      subst (λ (l : List Answer). AreSeen out shelf l qs (ts ++ us) zs) (sym assoc) (seen_since out mid shelf then rs now qs ts us zs p g n h.1),
    )

pub seen_both : (out mid : Option (List ℕ)) (shelf then : Option (List (List ℕ))) (rs qs : List Answer) (ts us : List (List ℕ)) (ss zs : List Sight)
    → Appends out mid (printed rs) → GrowsBy shelf then ts → length ts ≡ numbers_in rs → AreSeen out shelf [] rs ts ss → AreSeen mid then [] qs us zs
    → AreSeen out shelf [] (rs ++ qs) (ts ++ us) (ss ++ zs)
seen_both out mid shelf then rs qs ts us ss zs p g n h k =
    seen-seen out shelf [] rs qs (ts ++ us) ss zs (seen_more out shelf [] rs ts us ss (omega (arith, n)) h)
    (subst (λ (l : List Answer). AreSeen out shelf l qs (ts ++ us) zs) (append-nil rs) (seen_since out mid shelf then rs [] qs ts us zs p g n k))
