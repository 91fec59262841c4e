-- What answers make of a desk: what is printed and written, one after another.
use Rattle.std.proofs.Common.{◌≡◌, ◌+◌, ◌++◌, ◌∷◌, [], ℕ, Option, Some, None, List, length, refl, ap, sym, ◌∙◌, subst, append_assoc, arith}
use Rattle.std.proofs.Common.{length-append}
use Rattle.std.proofs.KnownBytes.{Appends-nil, Appends-trans}
use Rattle.std.specs.Io.KnownBytes.{Appends}
use Rattle.std.proofs.lemmas.{List.append-nil, Grind.flat_map-append}
use Rattle.std.proofs.Math.Seq.{take-length}
use Rattle.irig_script.specs.Obey.Desk.{Desk, Tells, failures_in, failures_of, status_after}
use Rattle.irig_script.specs.{Obey.Seen.numbers_in, Obey.Seen.numbers_of, Print.Screen.sight}
use Rattle.irig_script.specs.{Print.Printed.Answer, Print.Printed.printed, declared.obey.status.Status.Status}
use Rattle.irig_text.specs.Shelved.{Shelved, Puts, GrowsBy}
use Rattle.irig_script.proofs.ObeyLemmas.Sights.{grows-grows, grows_known, numbers_in-append, seen_both}

grows_none : {T : Type 0} (a : Option (List T)) → GrowsBy a a []
grows_none None = tt
grows_none (Some s) = sym (append-nil s)

-- a shelf to which nothing is written, and writes in turn
pub puts_none : (a : Shelved) → Puts a a [] 0
puts_none a = record { put = grows_none a.texts; failed = omega arith; label = refl }

puts-puts : (a b c : Shelved) (ts us : List (List ℕ)) (x y : ℕ) → Puts a b ts x → Puts b c us y → Puts a c (ts ++ us) (x + y)
puts-puts a b c ts us x y h k = record {
  put = grows-grows a.texts b.texts c.texts ts us h.put k.put;
  failed = omega (arith, h.failed, k.failed);
  label = k.label ∙ h.label;
}

failures_in-append : (rs qs : List Answer) → failures_in (rs ++ qs) ≡ failures_in rs + failures_in qs
failures_in-append [] qs = omega arith
failures_in-append (r ∷ rs) qs = omega (arith, failures_in-append rs qs)

failures_in-one : (r : Answer) → failures_in (r ∷ []) ≡ failures_of r.reply
failures_in-one r = omega arith

pub status_after-append : (s : Status) (rs qs : List Answer) → status_after s (rs ++ qs) ≡ status_after (status_after s rs) qs
status_after-append s [] qs = refl
status_after-append s (r ∷ rs) qs = status_after-append _ rs qs

-- a desk that stays as it is, and what is answered in turn
pub tells_none : (a : Desk) → Tells a a [] [] []
tells_none a = record {
  printed = Appends-nil a.out;
  put = puts_none a.shelf;
  many = refl;
  sights = [];
  seen = grows_none a.seen;
  each = λ known. tt;
}

tells-tells : (a b c : Desk) (y : List ℕ) (rs qs : List Answer) (ts us : List (List ℕ)) → Tells a b (printed rs) rs ts → Tells b c y qs us
    → Tells a c (printed rs ++ y) (rs ++ qs) (ts ++ us)
tells-tells a b c y rs qs ts us h k = record {
  printed = Appends-trans a.out b.out c.out (printed rs) y h.printed k.printed;
  put = subst (λ (n : ℕ). Puts a.shelf c.shelf (ts ++ us) n) (sym (failures_in-append rs qs))
      (puts-puts a.shelf b.shelf c.shelf ts us (failures_in rs) (failures_in qs) h.put k.put);
  many = omega (arith, length-append ts us, numbers_in-append rs qs, h.many, k.many);
  sights = h.sights ++ k.sights;
  seen = grows-grows a.seen b.seen c.seen h.sights k.sights h.seen k.seen;
  each = λ known. seen_both a.out b.out a.shelf.texts b.shelf.texts rs qs ts us h.sights k.sights h.printed h.put.put h.many (h.each known)
      (k.each (grows_known a.seen b.seen h.sights h.seen known));
}

-- answers that were printed whole
pub tells-answers : (a b c : Desk) (rs qs : List Answer) (ts us : List (List ℕ)) → Tells a b (printed rs) rs ts → Tells b c (printed qs) qs us
    → Tells a c (printed (rs ++ qs)) (rs ++ qs) (ts ++ us)
tells-answers a b c rs qs ts us h k =
    subst (λ (l : List ℕ). Tells a c l (rs ++ qs) (ts ++ us)) (sym (flat_map-append (λ (answer : Answer). answer.text) rs qs))
    (tells-tells a b c (printed qs) rs qs ts us h k)

-- an answer that was printed in front, after answers that were printed whole
pub tells-part : (a b c : Desk) (rs qs : List Answer) (last : Answer) (front : List ℕ) (ts us : List (List ℕ)) → Tells a b (printed rs) rs ts
    → Tells b c (printed qs ++ front) (qs ++ last ∷ []) us → Tells a c (printed (rs ++ qs) ++ front) ((rs ++ qs) ++ last ∷ []) (ts ++ us)
tells-part a b c rs qs last front ts us h k =
    let text : printed rs ++ (printed qs ++ front) ≡ printed (rs ++ qs) ++ front = sym (append_assoc (printed rs) (printed qs) front)
    ∙ ap (λ l. l ++ front) (sym (flat_map-append (λ (answer : Answer). answer.text) rs qs)) in
    subst (λ (l : List Answer). Tells a c (printed (rs ++ qs) ++ front) l (ts ++ us)) (sym (append_assoc rs qs (last ∷ [])))
    (subst (λ (l : List ℕ). Tells a c l (rs ++ (qs ++ last ∷ [])) (ts ++ us)) text (tells-tells a b c _ rs _ ts us h k))

-- one answer, printed whole or in front
pub tells_front : (a b : Desk) (texts : List (List ℕ)) (r : Answer) (front : List ℕ) → Appends a.out b.out front
    → Puts a.shelf b.shelf texts (failures_of r.reply) → length texts ≡ numbers_of r.reply → GrowsBy a.seen b.seen (sight a.out b.shelf.texts ∷ [])
    → Tells a b front (r ∷ []) texts
tells_front a b texts r front p h n g =
    let many : length texts ≡ numbers_in (r ∷ []) = omega (arith, n) in
    record {
      printed = p;
      put = subst (λ (k : ℕ). Puts a.shelf b.shelf texts k) (sym (failures_in-one r)) h;
      many = many;
      sights = sight a.out b.shelf.texts ∷ [];
      seen = g;
      each = λ known.
          (record { printed = Appends-nil a.out; put = rw (← many, take-length texts) h.put }, tt);
    }

pub tells_one : (a b : Desk) (texts : List (List ℕ)) (r : Answer) → Appends a.out b.out r.text → Puts a.shelf b.shelf texts (failures_of r.reply)
    → length texts ≡ numbers_of r.reply → GrowsBy a.seen b.seen (sight a.out b.shelf.texts ∷ []) → Tells a b (printed (r ∷ [])) (r ∷ []) texts
tells_one a b texts r p h n g = tells_front a b texts r (printed (r ∷ [])) (rw append-nil p) h n g
