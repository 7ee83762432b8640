-- Answers that go on, and what each step of a list keeps.
use Rattle.std.proofs.Common.{◌≡◌, List, [], ◌∷◌, Ok, Err, refl, subst, ap, sym}
use Rattle.wac_parser_refusals.specs.Causes.{Answer, Cause, each, ◌>>=◌, ◌>>◌}

IsGiven : {X : Type 0} → Answer X → Type 0
IsGiven (Ok x) = Unit {0}
IsGiven (Err c) = ⊥

pub err_ok : {X : Type 0} (c : Cause) (x : X) → Ok x ≡ Err c → ⊥
unfolding IsGiven
err_ok c x e = subst IsGiven e tt

-- an answer that goes on to give something gives something
pub ok_of : {A B : Type 0} (r : Answer A) (f : A → Answer B) (b : B) → Ok b ≡ (r >>= f) → (a : A) × (r ≡ Ok a) × (Ok b ≡ f a)
ok_of (Ok a) f b e = (a, refl, e)
ok_of (Err c) f b e = absurd (err_ok c b e)

pub then_ok : {A B : Type 0} (r : Answer A) (q : Answer B) (b : B) → Ok b ≡ (r >> q) → Ok b ≡ q
then_ok (Ok a) q b e = e
then_ok (Err c) q b e = absurd (err_ok c b e)

abbrev pub given_or : {X : Type 0} → X → Answer X → X
given_or d (Ok x) = x
given_or d (Err c) = d

pub ok_is : {X : Type 0} (x y : X) → ◌≡◌ {A = Answer X} (Ok x) (Ok y) → x ≡ y
ok_is x y e = ap (given_or x) e

module _ {S A : Type 0} (f : S → A → Answer S) where
  pub each_keeps : (P : S → Type 0) → ((s t : S) (x : A) → P s → f s x ≡ Ok t → P t) → (s t : S) (xs : List A) → P s → Ok t ≡ each f s xs → P t
  each_keeps P step s t [] h e = subst P (ap (given_or s) (sym e)) h
  each_keeps P step s t (x ∷ xs) h e =
      let r = ok_of (f s x) (λ u. each f u xs) t e in each_keeps P step r.0 t xs (step s r.0 x h r.1) r.2
