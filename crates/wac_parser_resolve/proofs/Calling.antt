-- What holds after a call, whether it was refused or not.
use Rattle.std.proofs.Common.{Result, Ok, Err, IfOk, OnOk, OnErr}

-- of what it gives
pub call_gives : {T E : Type 0} {P Q : T → Type 0} (r : Result T E) → IfOk r P → ((x : T) → P x → Q x) → IfOk r Q
call_gives (Ok x) p f = f x p
call_gives (Err e) p f = tt

-- of what it leaves, by what it gives
pub call_leaves : {T E : Type 0} {P : T → Type 0} {K X : Type 0} (r : Result T E) → IfOk r P → OnErr r K →
    ((x : T) → P x → X) → (K → X) → X
call_leaves (Ok x) p k f g = f x p
call_leaves (Err e) p k f g = g k

-- of what it leaves, where it gives nothing
pub call_done : {T E : Type 0} {P K X : Type 0} (r : Result T E) → OnOk r P → OnErr r K → (P → X) → (K → X) → X
call_done (Ok x) p k f g = f p
call_done (Err e) p k f g = g k
