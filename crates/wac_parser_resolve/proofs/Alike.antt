-- What expressions change of what was said: instances and aliases alone.
use Rattle.std.proofs.Common.{◌≡◌, List, [], ◌∷◌, ◌++◌, Bool, true, false, Ok, Err, Result, refl, subst, ◌∙◌}
use Rattle.std.specs.Prelude.{if◌then◌else◌}
use Rattle.wac_types_base.specs.Entries.{Name}
use Rattle.wac_parser_tree.specs.Trees as t
use Rattle.wac_parser_tree.specs.Trees.{Span}
use Rattle.wac_parser_tree.specs.Accessors.{postfix_expr_span as postfix_span}
use Rattle.wac_parser_refusals.specs.declared.refusal.Refusal.{Refusal}
use Rattle.wac_parser_refusals.specs.Causes.{Answer, ◌>>=◌, ◌>>◌, each}
use Rattle.wac_parser_refusals.specs.Outcomes.{IsHeld, IsOutcome}
use Rattle.wac_parser_resolve.specs.Ascribing.{Denoted, State, denoted_by, speak_of}
use Rattle.wac_parser_resolve.specs.Denoting as stated
use Rattle.wac_parser_resolve.specs.Denoting.{access, access_by, accesses, export_named, left_names, needs_instance, spoken, spread_all, spread_given, spread_one}
use Rattle.wac_parser_refusals.specs.declared.error.InstanceOperation.{InstanceOperation}

-- all but instances and aliases is the same
pub record Alike (s q : State) : Type 0 where
  pub own : q.own ≡ s.own
  pub packages : q.packages ≡ s.packages
  pub root : q.root ≡ s.root
  pub imports : q.imports ≡ s.imports
  pub definitions : q.definitions ≡ s.definitions
  pub exports : q.exports ≡ s.exports

pub alike_refl : (s : State) → Alike s s
alike_refl s = record { own = refl; packages = refl; root = refl; imports = refl; definitions = refl; exports = refl }

pub alike_trans : (s q r : State) → Alike s q → Alike q r → Alike s r
alike_trans s q r a b = record {
  own = b.own ∙ a.own;
  packages = b.packages ∙ a.packages;
  root = b.root ∙ a.root;
  imports = b.imports ∙ a.imports;
  definitions = b.definitions ∙ a.definitions;
  exports = b.exports ∙ a.exports;
}

-- ---- steps

module _ {A B : Type 0} where
  -- what was answered first, where the whole was answered
  pub first_ok : (q : Answer A) (f : A → Answer B) (b : B) → (q >>= f) ≡ Ok b → (a : A) × (q ≡ Ok a) × (f a ≡ Ok b)
  first_ok (Ok a) f b e = (a, refl, e)
  first_ok (Err c) f b e = absurd (cc e)

  then_ok : (q : Answer A) (r : Answer B) (b : B) → (q >> r) ≡ Ok b → r ≡ Ok b
  then_ok (Ok a) r b e = e
  then_ok (Err c) r b e = absurd (cc e)

module _ {A B : Type 0} (H K : A → B → Type 0) where
  held_with : (q : Answer A) (b : B) → ((a : A) → q ≡ Ok a → H a b → K a b) → IsHeld H q b → IsHeld K q b
  held_with (Ok a) b f h = f a refl h
  held_with (Err c) b f h = absurd h

  -- what is held, by what is answered
  pub outcome_with : (q : Answer A) (r : Result B Refusal) → ((a : A) (b : B) → q ≡ Ok a → H a b → K a b) → IsOutcome H q r → IsOutcome K q r
  outcome_with q (Ok b) f h = held_with q b (λ a e x. f a b e x) h
  outcome_with q (Err e) f h = h

-- ---- accesses

spoken_by : (s : State) (d : Denoted) (b : Bool) → Alike s (if b then s else record s { aliases = s.aliases ++ d ∷ [] })
spoken_by s d true = alike_refl s
spoken_by s d false = record { own = refl; packages = refl; root = refl; imports = refl; definitions = refl; exports = refl }

pub alike_speak : (s : State) (d : Denoted) → Alike s (speak_of s d)
alike_speak s d = spoken_by s d _

pub alike_spoken : (s : State) (q : Answer Denoted) (r : State × Denoted) → spoken s q ≡ Ok r → Alike s r.0
alike_spoken s (Ok d) r e = let is : (speak_of s d, d) ≡ r = cc e in subst (λ (p : State × Denoted). Alike s p.0) is (alike_speak s d)
alike_spoken s (Err c) r e = absurd (cc e)

pub alike_access : (before : Span) (s : State) (d : Denoted) (p : t.PostfixExpr) (r : State × Denoted) → access before s d p ≡ Ok r → Alike s r.0
alike_access before s d p r e =
    alike_spoken s (access_by d p) r (then_ok (needs_instance d InstanceOperation.Access before) (spoken s (access_by d p)) r e)

pub alike_accesses : (before : Span) (s : State) (d : Denoted) (ps : List t.PostfixExpr) (r : State × Denoted) → accesses before s d ps ≡ Ok r → Alike s r.0
alike_accesses before s d [] r e = let is : (s, d) ≡ r = cc e in subst (λ (p : State × Denoted). Alike s p.0) is (alike_refl s)
alike_accesses before s d (p ∷ ps) r e =
    let one = first_ok (access before s d p) (λ q. accesses (postfix_span p) q.0 q.1 ps) r e in
    alike_trans s one.0.0 r.0 (alike_access before s d p one.0 one.1) (alike_accesses (postfix_span p) one.0.0 one.0.1 ps r one.2)

-- ---- spreads

abbrev Both : Type 0
Both = State × List stated.Given

pub alike_each : {A : Type 0} (f : Both → A → Answer Both) → ((q : Both) (x : A) (r : Both) → f q x ≡ Ok r → Alike q.0 r.0) → (xs : List A) (q r : Both) → each f q xs ≡ Ok r → Alike q.0 r.0
alike_each f step [] q r e = let is : q ≡ r = cc e in subst (λ (p : Both). Alike q.0 p.0) is (alike_refl q.0)
alike_each f step (x ∷ xs) q r e =
    let one = first_ok (f q x) (λ p. each f p xs) r e in
    alike_trans q.0 one.0.0 r.0 (step q x one.0 one.1) (alike_each f step xs one.0 r one.2)

alike_given : (s : Span) (d : Denoted) (q : Both) (n : Name) (r : Both) → spread_given s d q n ≡ Ok r → Alike q.0 r.0
alike_given s d q n r e =
    let one = first_ok (spoken q.0 (export_named d n s)) (λ p. Ok (p.0, q.1 ++ record { name = n; denoted = p.1; span = s } ∷ [])) r e in
    let is : (one.0.0, q.1 ++ record { name = n; denoted = one.0.1; span = s } ∷ []) ≡ r = cc one.2 in
    subst (λ (p : Both). Alike q.0 p.0) is (alike_spoken q.0 (export_named d n s) one.0 one.1)

alike_all : (s : Span) (d : Denoted) (q : Both) (ns : List Name) (r : Both) → spread_all s d q ns ≡ Ok r → Alike q.0 r.0
alike_all s d q [] r e = absurd (cc e)
alike_all s d q (n ∷ ns) r e = alike_each (spread_given s d) (alike_given s d) (n ∷ ns) q r e

pub alike_spread : (ns : List Name) (q : Both) (i : t.Ident) (r : Both) → spread_one ns q i ≡ Ok r → Alike q.0 r.0
alike_spread ns q i r e =
    let one = first_ok (denoted_by q.0 i) (λ d. needs_instance d InstanceOperation.Spread i.span >> spread_all i.span d q (left_names q.1 ns d.item)) r e in
    let two = then_ok (needs_instance one.0 InstanceOperation.Spread i.span) (spread_all i.span one.0 q (left_names q.1 ns one.0.item)) r one.2 in
    alike_all i.span one.0 q (left_names q.1 ns one.0.item) r two

pub alike_spreads : (ns : List Name) (is : List t.Ident) (q r : Both) → each (spread_one ns) q is ≡ Ok r → Alike q.0 r.0
alike_spreads ns is q r e = alike_each (spread_one ns) (alike_spread ns) is q r e
