-- Outcomes, step by step.
use Rattle.std.proofs.Common.{◌≡◌, Bool, true, false, true≢false, Option, Some, None, Result, Ok, Err, refl, sym, subst, IsErrAnd}
use Rattle.wac_types_base.specs.Stated.{Stated}
use Rattle.wac_types_fit.specs.declared.checker.SubtypeCheck.{SubtypeCheck}
use Rattle.wac_types_fit.specs.declared.error.SubtypeError.{SubtypeError}
use Rattle.wac_types_fit.specs.Errors.{words_of}
use Rattle.wac_parser_lexer.specs.declared.span.SourceSpan.{SourceSpan as Span}
use Rattle.wac_parser_refusals.specs.declared.refusal.Refusal.{Refusal}
use Rattle.wac_parser_refusals.specs.Causes.{Answer, Cause, Fault, ◌>>=◌, needs}
use Rattle.wac_parser_refusals.specs.Sources.{TellsBetween, between, reported}
use Rattle.wac_parser_refusals.specs.Views.{Names, cause_in, checked_at}
use Rattle.wac_parser_refusals.specs.Outcomes.{IsMemory, Tells, IsHeld, IsRefusal, IsOutcome}

tells_any : (o : Option Cause) (c : Cause) → IsMemory o → Tells o c
tells_any None c m = tt
tells_any (Some d) c m = absurd m

-- want of memory may always be answered
pub memory_refusal : {A : Type 0} (q : Answer A) (e : Refusal) → IsMemory (cause_in e) → IsRefusal q e
memory_refusal (Ok a) e m = m
memory_refusal (Err c) e m = tells_any (cause_in e) c m

-- what the checker says tells of the two that stand behind the cause
pub told_between : (e : Refusal) (f : Fault) (s : Option Span) (m : SubtypeError) (way : SubtypeCheck) (x y : Stated) → Names e (checked_at f s m) → TellsBetween way x y (reported (words_of m))
    → Tells (cause_in e) (record { fault = f; span = s; source = between way x y })
told_between (Refusal.Named b) f s m way x y h t =
    subst (λ (o : Option Cause). Tells o (record { fault = f; span = s; source = between way x y })) (sym h) (refl, refl, t)
told_between Refusal.Memory f s m way x y h t = tt

-- what is needed is so, or it is not and that is told
pub needs_held : {B : Type 0} (H : B → Type 0) (b : Bool) (c : Cause) (v : B) → b ≡ true → H v → IsHeld (λ u w. H w) (needs b c) v
needs_held H true c v e h = h
needs_held H false c v e h = absurd (true≢false (sym e))

pub needs_refused : (b : Bool) (c : Cause) (e : Refusal) → b ≡ false → Tells (cause_in e) c → IsRefusal (needs b c) e
needs_refused true c e n t = absurd (true≢false n)
needs_refused false c e n t = t

module _ {A B : Type 0} (h : A → B → Type 0) where
  pub memory_outcome : (q : Answer A) (r : Result B Refusal) → IsErrAnd r (λ f. f ≡ Refusal.Memory) → IsOutcome h q r
  memory_outcome q (Ok b) m = absurd m
  memory_outcome q (Err f) m = memory_refusal q f (subst (λ (f : Refusal). IsMemory (cause_in f)) (sym m) tt)

  pub refused_outcome : (q : Answer A) (r : Result B Refusal) (e : Refusal) → IsErrAnd r (λ f. f ≡ e) → IsRefusal q e → IsOutcome h q r
  refused_outcome q (Ok b) e m x = absurd m
  refused_outcome q (Err f) e m x = subst (λ (f : Refusal). IsRefusal q f) (sym m) x

module _ {A C : Type 0} (f : A → Answer C) where
  -- the first step is refused
  pub then_refused : (q : Answer A) (e : Refusal) → IsRefusal q e → IsRefusal (q >>= f) e
  then_refused (Ok a) e m = memory_refusal (f a) e m
  then_refused (Err c) e m = m

  module _ {B : Type 0} (h : A → B → Type 0) where
    pub after_refused : (q : Answer A) (b : B) (e : Refusal) → IsHeld h q b → ((a : A) → h a b → IsRefusal (f a) e) → IsRefusal (q >>= f) e
    after_refused (Ok a) b e x step = step a x
    after_refused (Err c) b e x step = absurd x

    module _ {D : Type 0} (k : C → D → Type 0) where
      pub after_held : (q : Answer A) (b : B) (d : D) → IsHeld h q b → ((a : A) → h a b → IsHeld k (f a) d) → IsHeld k (q >>= f) d
      after_held (Ok a) b d x step = step a x
      after_held (Err c) b d x step = absurd x

      pub after_outcome : (q : Answer A) (b : B) (r : Result D Refusal) → IsHeld h q b → ((a : A) → h a b → IsOutcome k (f a) r) → IsOutcome k (q >>= f) r
      after_outcome (Ok a) b r x step = step a x
      after_outcome (Err c) b r x step = absurd x
