-- What holds whatever a call answers.
use Rattle.std.proofs.Common.{Result, Ok, Err, OnOk, OnErr, IfOk}

pub on_err : {T E P : Type 0} (r : Result T E) → P → OnErr r P
on_err (Ok x) p = tt
on_err (Err e) p = p

pub on_ok : {T E P : Type 0} (r : Result T E) → P → OnOk r P
on_ok (Ok x) p = p
on_ok (Err e) p = tt

-- what a call's answer gives, with what was known of either
pub either_way : {T E A B C D P : Type 0} (r : Result T E) → OnOk r A → OnErr r B → OnOk r C → OnErr r D → (A → C → P) → (B → D → P) → P
either_way (Ok x) a b c d done failed = done a c
either_way (Err e) a b c d done failed = failed b d

-- of a result that is Ok, all that is known together
pub if_ok_by : {T E : Type 0} (r : Result T E) {A B C D P : T → Type 0} → IfOk r A → IfOk r B → IfOk r C → IfOk r D
    → ((x : T) → A x → B x → C x → D x → P x) → IfOk r P
if_ok_by (Ok x) a b c d all = all x a b c d
if_ok_by (Err e) a b c d all = tt

pub both_ok : {T E : Type 0} (r : Result T E) (A B : T → Type 0) → IfOk r A → IfOk r B → IfOk r (λ x. A x × B x)
both_ok (Ok x) A B a b = (a, b)
both_ok (Err e) A B a b = tt
