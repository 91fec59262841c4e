-- A script has one run, but for the lines that run out of memory or fail to write.
use Rattle.std.proofs.Common.{◌≡◌, ◌++◌, ◌∷◌, [], ℕ, Option, Some, None, List, map, refl, sym, ap, ap₂, ◌∙◌, subst, arith, ◌⊎◌, inl, inr}
use Rattle.std.specs.Prelude.{IsSome}
use Rattle.std.specs.Io.KnownBytes.{Appends}
use Rattle.irig_edit.specs.{Session.Runs.OneOutcome, Saved.SavedSession.saved_text, Session.Session.work_in}
use Rattle.irig_script.specs.Obey.Answer.{Answered, IsBad, IsObeyedAs, IsTooLong, Step, texts_of}
use Rattle.irig_script.specs.Print.Listings.{info_text, list_text, marks_text}
use Rattle.irig_script.specs.Print.Printed.{Answer, frames_text, printed, reply_text}
use Rattle.irig_script.specs.{Obey.Desk.status_after, Obey.Machine.Machine, Obey.Obeying.Obeys, Obey.OneRun.OneRun, Obey.OneRun.tells_failed_put}
use Rattle.irig_script.specs.{Obey.OneRun.wants_memory, Obey.Replies.texts_put, Obey.Run.Runs, declared.print.reply.Reply.Reply}
use Rattle.irig_text.specs.Shelved.{GrowsBy}
use Rattle.irig_lines.specs.{Lines.script_lines, declared.command.Command.Command}
use Rattle.irig_script.specs.declared.print.reply.Reply.TheVariants as told
use Rattle.irig_lines.specs.declared.command.Command.TheVariants as command
use Rattle.irig_lines.proofs.LineOrders.{means_one}
use Rattle.irig_script.proofs.LawLemmas.SameReply.{bare, dump_same, obeys_one, stays}

-- what a reply prints and writes does not depend on the looks
text_same : (r : Reply) (a b : Machine) → work_in a ≡ work_in b → reply_text a r ≡ reply_text b r
text_same (told.Listed before count) a b e = ap (λ k. list_text before count k.state) e
text_same told.Frames a b e = ap (λ k. frames_text k.state) e
text_same told.Marks a b e = ap (λ k. marks_text k.state) e
text_same told.Info a b e = ap (λ k. info_text (bare k)) e
text_same _ a b e = refl

texts_same : (c : Command) (a b : Machine) → work_in a ≡ work_in b → texts_of c a ≡ texts_of c b
texts_same command.Write a b e = ap (λ t. t ∷ []) (dump_same a b e)
texts_same command.Save a b e = ap (λ k. saved_text k ∷ []) e
texts_same _ a b e = refl

module _ (outcome : OneOutcome) where
  asked_one : (o p : Machine) (line : List ℕ) → work_in o ≡ work_in p → (r s : Reply) (ts us : List (List ℕ)) (a b : Machine)
      → IsObeyedAs o line r ts a → IsObeyedAs p line s us b
      → wants_memory r ≡ wants_memory s → tells_failed_put r ≡ tells_failed_put s → (r ≡ s) × (ts ≡ us) × (work_in a ≡ work_in b)
  asked_one o p line e r s ts us a b h k w f =
      let same : h.1.0 ≡ k.1.0 = means_one line h.1.0 k.1.0 h.1.1 k.1.1 in
      let obeyed : Obeys k.1.0 o r a = subst (λ (c : Command). Obeys c o r a) same h.1.2 in
      let one = obeys_one outcome k.1.0 o p e r s a b obeyed k.1.2 w f in
      let texts : texts_of h.1.0 o ≡ texts_of k.1.0 p = ap (λ c. texts_of c o) same ∙ texts_same k.1.0 o p e in
      (one.0, h.1.3 ∙ ap₂ texts_put texts one.0 ∙ sym k.1.3, one.1)

  -- a line has one outcome
  line_one : (o p : Machine) (line : List ℕ) → work_in o ≡ work_in p → (r s : Reply) (ts us : List (List ℕ)) (a b : Machine)
      → Step o line r ts a → Step p line s us b
      → wants_memory r ≡ wants_memory s → tells_failed_put r ≡ tells_failed_put s → (r ≡ s) × (ts ≡ us) × (work_in a ≡ work_in b)
  line_one o p line e r s ts us a b h k w f = go h k
    where
      go : IsTooLong o line r ts a ⊎ (IsBad o line r ts a ⊎ IsObeyedAs o line r ts a)
          → IsTooLong p line s us b ⊎ (IsBad p line s us b ⊎ IsObeyedAs p line s us b)
          → (r ≡ s) × (ts ≡ us) × (work_in a ≡ work_in b)
      go (inl x) (inl y) = (x.1 ∙ sym y.1, x.2 ∙ sym y.2, stays o p a b e x.3 y.3)
      go (inl x) (inr (inl y)) = absurd (omega (arith, x.0, y.0))
      go (inl x) (inr (inr y)) = absurd (omega (arith, x.0, y.0))
      go (inr (inl x)) (inl y) = absurd (omega (arith, x.0, y.0))
      go (inr (inl x)) (inr (inl y)) = (x.2 ∙ sym y.2, x.3 ∙ sym y.3, stays o p a b e x.4 y.4)
      go (inr (inl x)) (inr (inr y)) = absurd (x.1 y.1.0 y.1.1)
      go (inr (inr x)) (inl y) = absurd (omega (arith, x.0, y.0))
      go (inr (inr x)) (inr (inl y)) = absurd (y.1 x.1.0 x.1.1)
      go (inr (inr x)) (inr (inr y)) = asked_one o p line e r s ts us a b x y w f

  answer_one : (o p : Machine) (line : List ℕ) → work_in o ≡ work_in p → (x y : Answer) (ts us : List (List ℕ)) (a b : Machine)
      → Answered o line x ts a → Answered p line y us b
      → wants_memory x.reply ≡ wants_memory y.reply → tells_failed_put x.reply ≡ tells_failed_put y.reply
      → (x ≡ y) × (ts ≡ us) × (work_in a ≡ work_in b)
  answer_one o p line e x y ts us a b h k w f =
      let all = line_one o p line e x.reply y.reply ts us a b h.0 k.0 w f in
      let text : x.text ≡ y.text = h.1 ∙ text_same x.reply a b all.2 ∙ ap (reply_text b) all.0 ∙ sym k.1 in
      let reply = all.0 in
      (λ i. record { reply = reply i; text = text i }, all.1, all.2)

  -- the lines of a script, one after another
  lines_one : (lines : List (List ℕ)) (o p : Machine) → work_in o ≡ work_in p → (xs ys : List Answer) (ts us : List (List ℕ)) (a b : Machine)
      → Runs o lines xs ts a → Runs p lines ys us b
      → map (λ x. wants_memory x.reply) xs ≡ map (λ x. wants_memory x.reply) ys
      → map (λ x. tells_failed_put x.reply) xs ≡ map (λ x. tells_failed_put x.reply) ys
      → (xs ≡ ys) × (ts ≡ us) × (work_in a ≡ work_in b)
  lines_one [] o p e [] [] ts us a b h k w f = (refl, h.0 ∙ sym k.0, stays o p a b e h.1 k.1)
  lines_one [] o p e [] (y ∷ ys) ts us a b h k w f = absurd k
  lines_one [] o p e (x ∷ xs) ys ts us a b h k w f = absurd h
  lines_one (line ∷ lines) o p e [] ys ts us a b h k w f = absurd h
  lines_one (line ∷ lines) o p e (x ∷ xs) [] ts us a b h k w f = absurd k
  lines_one (line ∷ lines) o p e (x ∷ xs) (y ∷ ys) ts us a b h k w f =
      let w_here : wants_memory x.reply ≡ wants_memory y.reply = cc in
      let f_here : tells_failed_put x.reply ≡ tells_failed_put y.reply = cc in
      let w_rest : map (λ (x : Answer). wants_memory x.reply) xs ≡ map (λ (x : Answer). wants_memory x.reply) ys = cc in
      let f_rest : map (λ (x : Answer). tells_failed_put x.reply) xs ≡ map (λ (x : Answer). tells_failed_put x.reply) ys = cc in
      let here = answer_one o p line e x y h.1 k.1 h.0 k.0 h.2 k.2 w_here f_here in
      let rest = lines_one lines h.0 k.0 here.2 xs ys h.3.0 k.3.0 a b h.3.2 k.3.2 w_rest f_rest in
      (ap₂ (λ z zs. z ∷ zs) here.0 rest.0, h.3.1 ∙ ap₂ (λ z zs. z ++ zs) here.1 rest.1 ∙ sym k.3.1, rest.2)

  -- what is known to grow by the same is the same
  grows_one : {T : Type 0} (old new other : Option (List T)) (more : List T) → IsSome old → GrowsBy old new more → GrowsBy old other more → new ≡ other
  grows_one None new other more known h k = absurd (cc)
  grows_one (Some xs) None other more known h k = absurd h
  grows_one (Some xs) (Some ys) None more known h k = absurd k
  grows_one (Some xs) (Some ys) (Some zs) more known h k = ap Some (h ∙ sym k)

  pub one_run : OneRun
  one_run script one other begin met =
      let x = one.ran in
      let y = other.ran in
      let all = lines_one (script_lines script) one.old other.old begin.machine x.answers y.answers x.texts y.texts one.new other.new x.runs y.runs met.memory
      met.puts in
      let status = begin.status in
      let answers : x.answers ≡ y.answers = all.0 in
      let out : Appends one.from.out other.to.out (printed x.answers) =
      subst (λ (o : Option (List ℕ)). Appends o other.to.out (printed x.answers)) (sym begin.printed)
      (subst (λ (a : List Answer). Appends other.from.out other.to.out (printed a)) (sym answers) y.told.printed) in
      let put : GrowsBy one.from.shelf.texts other.to.shelf.texts x.texts =
      subst (λ (o : Option (List (List ℕ))). GrowsBy o other.to.shelf.texts x.texts) (sym begin.put)
      (subst (λ (t : List (List ℕ)). GrowsBy other.from.shelf.texts other.to.shelf.texts t) (sym all.1) y.told.put.put) in
      record {
        answers = answers;
        texts = all.1;
        status = x.status ∙ (λ i. status_after (status i) (answers i)) ∙ sym y.status;
        machine = all.2;
        printed = λ known. grows_one one.from.out one.to.out other.to.out (printed x.answers) known x.told.printed out;
        put = λ known. grows_one one.from.shelf.texts one.to.shelf.texts other.to.shelf.texts x.texts known x.told.put.put put;
      }
