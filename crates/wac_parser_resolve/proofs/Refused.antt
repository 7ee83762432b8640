-- What an ascribed document is refused for stands.
use Rattle.std.specs.Prelude.{Err}
use Rattle.std.proofs.Common.{◌≡◌, ℕ, ◌⊎◌, inl, inr, Bool, true, Option, Some, None, Ok, refl, ap, subst, ◌∙◌}
use Rattle.wac_types_base.specs.Stated.{Stated}
use Rattle.wac_composition.specs.Composition.{Composition}
use Rattle.wac_composition.specs.Conflicts as cause
use Rattle.wac_composition.specs.Conflicts.{first_cause, name_cause}
use Rattle.wac_composition.proofs.Against.{causes_stand}
use Rattle.wac_parser_refusals.specs.Causes.{Answer, Cause, ◌>>=◌, ◌>>◌, pure}
use Rattle.wac_parser_resolve.specs.Ascribing.{State}
use Rattle.wac_parser_resolve.specs.Meeting.{resolved}
use Rattle.wac_parser_resolve.specs.Ascribed.{Asker, composition, cause_said, unless_cause}
use Rattle.wac_parser_resolve.specs.Refused.{IsRefusedFor, standing, alike, Refusals_stand}
use Rattle.wac_parser_resolve.proofs.Answers.{err_ok}

cause_or : {A : Type 0} → Cause → Answer A → Cause
cause_or d (Ok a) = d
cause_or d (Err c) = c

err_is : {A : Type 0} (x y : Cause) → ◌≡◌ {A = Answer A} (Err x) (Err y) → x ≡ y
unfolding cause_or
err_is x y e = ap (cause_or x) e

module _ (define : Bool) (r : State × Option Stated) where
  abbrev after : Option (cause.Cause Asker) → Option (cause.Cause Asker) → Answer (Composition Asker ℕ × Option Stated)
  after o p = unless_cause o >> (unless_cause p >> pure (composition r.0, r.1))

  refused : (o p : Option (cause.Cause Asker)) → first_cause define (composition r.0) ≡ o → name_cause define true (composition r.0) ≡ p → (x : Cause) → after o p ≡ Err x → IsRefusedFor define r.0 x
  refused (Some c) p e f x q = subst (IsRefusedFor define r.0) (err_is (cause_said c) x q) (standing c ((causes_stand define (composition r.0)).stands c e))
  refused None (Some c) e f x q = subst (IsRefusedFor define r.0) (err_is (cause_said c) x q) (alike c f)
  refused None None e f x q = absurd (err_ok x (composition r.0, r.1) q)

pub refusals_stand : Refusals_stand
refusals_stand d ps define x e = go (resolved d ps) refl e
  where
    go : (a : Answer (State × Option Stated)) → resolved d ps ≡ a → (a >>= λ r. after define r (first_cause define (composition r.0)) (name_cause define true (composition r.0))) ≡ Err x
        → (resolved d ps ≡ Err x) ⊎ ((r : State × Option Stated) × (resolved d ps ≡ Ok r) × IsRefusedFor define r.0 x)
    go (Err c) q h = inl (q ∙ ap Err (err_is c x h))
    go (Ok r) q h = inr (r, q, refused define r (first_cause define (composition r.0)) (name_cause define true (composition r.0)) refl refl x h)
