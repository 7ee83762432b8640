-- Expressions and arguments, step by step.
use Rattle.std.proofs.Common.{◌≡◌, ◌==◌, ℕ, zero, suc, ◌+◌, ◌<◌, ◌≤◌, List, [], ◌∷◌, Bool, true, false, map, get_or, drop, length, Ok, Err, Result, OnOk, refl, sym, ap, subst, ◌∙◌, arith}
use Rattle.std.specs.Prelude.{⊤, not}
use Rattle.std.specs.Cmp.Derive.{one_truth}
use Rattle.std.proofs.lemmas.Bool.Decides.{nat_tests}
use Rattle.std.proofs.lemmas.List.{drop_all, drop_more}
use Rattle.wac_types_base.specs.declared.item.ItemKind.{ItemKind}
use Rattle.wac_types_base.specs.Collection.{Stands}
use Rattle.wac_types_base.specs.Entries.{Name}
use Rattle.wac_types_base.specs.Stated.{Stated}
use Rattle.wac_types_names.specs.Keys.{Key}
use Rattle.wac_graph_core.specs.declared.ids.PackageId.{PackageId}
use Rattle.wac_graph_core.specs.Graph.{Graph}
use Rattle.wac_parser_tree.specs.Trees as t
use Rattle.wac_parser_tree.specs.declared.expr.InstantiationArgument.{InstantiationArgument}
use Rattle.wac_parser_tree.specs.Views.{view_instantiation_argument}
use Rattle.wac_parser_refusals.specs.declared.refusal.Refusal.{Refusal}
use Rattle.wac_parser_refusals.specs.Causes.{Answer, ◌>>=◌, ◌>>◌, FillArgumentNotLast, pure, unless_clear}
use Rattle.wac_parser_refusals.specs.Outcomes.{IsHeld, IsOutcome, IsRefusal, Refuses}
use Rattle.wac_parser_refusals.proofs.Outcomes.{memory_refusal, then_refused}
use Rattle.wac_parser_resolve.specs.Ascribing.{State}
use Rattle.wac_parser_resolve.specs.Denoting as stated
use Rattle.wac_parser_resolve.specs.Denoting.{add_given, is_last, one_argument}
use Rattle.wac_parser_resolve.specs.Knowing.{IsPackage}
use Rattle.wac_parser_resolve.specs.Later.{Later}
use Rattle.wac_parser_resolve.proofs.Growing.{as_it_was}
use Rattle.wac_parser_resolve.proofs.Nodes.{holds_stays}

-- ---- what is answered, step by step

pub on_ok_then : {T E P Q : Type 0} (r : Result T E) → OnOk r P → (P → Q) → OnOk r Q
on_ok_then (Ok x) p f = f p
on_ok_then (Err e) p f = tt

module _ {A B C : Type 0} (R : A → B → Type 0) (S : C → B → Type 0) (F : A → C) (step : (a : A) (b : B) → R a b → S (F a) b) where
  -- the same with what it is made into
  pub then_pure : (q : Answer A) (r : Result B Refusal) → IsOutcome R q r → IsOutcome S (q >>= λ a. pure (F a)) r
  then_pure (Ok a) (Ok b) h = step a b h
  then_pure (Ok a) (Err e) h = h
  then_pure (Err c) (Ok b) h = absurd h
  then_pure (Err c) (Err e) h = h

module _ {A C : Type 0} (F : A → C) where
  pub made_held : {B : Type 0} (R : C → B → Type 0) (q : Answer A) (b : B) → IsHeld R (q >>= λ a. pure (F a)) b → IsHeld (λ (a : A) (u : ⊤). R (F a) b) q (tt {0})
  made_held R (Ok a) b h = h
  made_held R (Err c) b h = absurd h

  pub made_refused : {D : Type 0} (f : A → Answer D) (q : Answer A) (e : Refusal) → IsRefusal (q >>= λ a. pure (F a)) e → IsRefusal (q >>= f) e
  made_refused f (Ok a) e m = memory_refusal (f a) e m
  made_refused f (Err c) e m = m

-- one more is given, by what was answered first
module _ {A : Type 0} (P : A → Type 0) (Q : State × List stated.Given → Type 0) (F : A → stated.Given) (S : A → State) (gs : List stated.Given) where
  added : (s : State) (q : Answer (List stated.Given)) (r : Result ⊤ Refusal) → IsOutcome (λ (hs : List stated.Given) (u : ⊤). Q (s, hs)) q r → IsOutcome (λ (p : State × List stated.Given) (u : ⊤). Q p) (q >>= λ hs. pure (s, hs)) r
  added s (Ok hs) (Ok u) h = h
  added s (Ok hs) (Err e) h = h
  added s (Err c) (Ok u) h = absurd h
  added s (Err c) (Err e) h = h

  pub adding : (q : Answer A) (r : Result ⊤ Refusal) → IsHeld (λ (a : A) (u : ⊤). P a) q (tt {0}) → ((a : A) → P a → IsOutcome (λ (hs : List stated.Given) (u : ⊤). Q (S a, hs)) (add_given gs (F a)) r)
      → IsOutcome (λ (p : State × List stated.Given) (u : ⊤). Q p) (q >>= λ a. add_given gs (F a) >>= λ hs. pure (S a, hs)) r
  adding (Ok a) r h step = added (S a) (add_given gs (F a)) r (step a h)
  adding (Err c) r h step = absurd h

-- ---- a package stays

pub package_stays : (g h : Graph) → Later g h → (k : Key) (w : Stated) (id : PackageId) (p : IsPackage g k w id) → Stands g.types (ItemKind.Component p.held.ty) → IsPackage h k w id
package_stays g h l k w id p stands = record {
  held = p.held;
  there = (as_it_was g h l.stays).held id p.held p.there;
  key = p.key;
  world = (holds_stays g h l w (ItemKind.Component p.held.ty) (record { stands = stands; same = p.world })).same;
}

-- ---- arguments, one behind the other

next_same : (i n : ℕ) → (suc i + 1 == suc n) ≡ (i + 1 == n)
next_same i n = one_truth (suc i + 1 == suc n) (i + 1 == n) (λ e. grind (arith, nat_tests, e)) (λ e. grind (arith, nat_tests, e))

abbrev views : List InstantiationArgument → t.Arguments
views xs = t.arguments (map view_instantiation_argument xs)

drop_next : (x : InstantiationArgument) (xs : List InstantiationArgument) (i j : ℕ) → j ≡ suc i → drop j (x ∷ xs) ≡ drop i xs
drop_next x xs i j e = ap (λ k. drop k (x ∷ xs)) e

-- whether an argument is the last
pub last_is : (xs : List InstantiationArgument) (i : ℕ) → i < length xs → is_last (views (drop (i + 1) xs)) ≡ (i + 1 == length xs)
last_is [] i lt = absurd (omega (arith, lt))
last_is (x ∷ []) zero lt = refl
last_is (x ∷ y ∷ xs) zero lt = one_truth false (zero + 1 == length (x ∷ y ∷ xs)) (λ e. absurd (cc e)) (λ e. grind (arith, nat_tests, e))
last_is (x ∷ y ∷ xs) (suc i) lt =
    ap (λ ys. is_last (views ys)) (drop_next x (y ∷ xs) (i + 1) (suc i + 1) (omega arith)) ∙ last_is (y ∷ xs) i (omega (arith, lt)) ∙ sym (next_same i (length (y ∷ xs)))
last_is (x ∷ []) (suc i) lt = absurd (omega (arith, lt))

module _ (ns : List Name) (xs : List InstantiationArgument) (i : ℕ) (x : InstantiationArgument) (lt : i < length xs) (is : x ≡ get_or xs i x) where
  abbrev Both : Type 0
  Both = State × List stated.Given

  abbrev rest : Both → Answer Both
  rest q = stated.arguments q.0 ns q.1 (views (drop (i + 1) xs))

  left : (q : Both) → stated.arguments q.0 ns q.1 (views (drop i xs)) ≡ (one_argument q.0 ns q.1 (view_instantiation_argument x) (is_last (views (drop (i + 1) xs))) >>= rest)
  left q = ap (λ ys. stated.arguments q.0 ns q.1 (views ys)) (drop_more xs i x lt ∙ ap (λ (y : InstantiationArgument). y ∷ drop (i + 1) xs) (sym is))

  -- an argument that is taken
  pub argument_next : (last : Bool) → last ≡ (i + 1 == length xs) → {B : Type 0} (h : Both → B → Type 0) (q : Both) (b : B) → IsHeld h (one_argument q.0 ns q.1 (view_instantiation_argument x) last) b
      → (p : Both) × h p b × (stated.arguments q.0 ns q.1 (views (drop i xs)) ≡ rest p)
  argument_next last same h q b y = go (one_argument q.0 ns q.1 (view_instantiation_argument x) (is_last (views (drop (i + 1) xs)))) refl
      (subst (λ (l : Bool). IsHeld h (one_argument q.0 ns q.1 (view_instantiation_argument x) l) b) (same ∙ sym (last_is xs i lt)) y)
    where
      go : (r : Answer Both) → one_argument q.0 ns q.1 (view_instantiation_argument x) (is_last (views (drop (i + 1) xs))) ≡ r → IsHeld h r b
          → (p : Both) × h p b × (stated.arguments q.0 ns q.1 (views (drop i xs)) ≡ rest p)
      go (Ok p) e z = (p, z, left q ∙ ap (λ (r : Answer Both). r >>= rest) e)
      go (Err c) e z = absurd z

  -- one that is refused
  pub argument_stops : (last : Bool) → last ≡ (i + 1 == length xs) → (q : Both) (e : Refusal) → IsRefusal (one_argument q.0 ns q.1 (view_instantiation_argument x) last) e → IsRefusal (stated.arguments q.0 ns q.1 (views (drop i xs))) e
  argument_stops last same q e y =
      subst (λ (r : Answer Both). IsRefusal r e) (sym (left q))
      (then_refused rest (one_argument q.0 ns q.1 (view_instantiation_argument x) (is_last (views (drop (i + 1) xs)))) e
      (subst (λ (l : Bool). IsRefusal (one_argument q.0 ns q.1 (view_instantiation_argument x) l) e) (same ∙ sym (last_is xs i lt)) y))

pub arguments_end : (ns : List Name) (xs : List InstantiationArgument) (i : ℕ) (q : State × List stated.Given) → length xs ≤ i → stated.arguments q.0 ns q.1 (views (drop i xs)) ≡ Ok q
arguments_end ns xs i q h = ap (λ ys. stated.arguments q.0 ns q.1 (views ys)) (drop_all i xs h)

-- ---- `...`

pub fill_held : {B : Type 0} (H : State × List stated.Given → B → Type 0) (last : Bool) (at : t.Span) (q : State × List stated.Given) (v : B) → last ≡ true → H q v → IsHeld H (unless_clear (not last) FillArgumentNotLast at >> pure (q.0, q.1)) v
fill_held H true at q v e h = h
fill_held H false at q v e h = absurd (cc e)

pub fill_refused : (last : Bool) (at : t.Span) (q : State × List stated.Given) (e : Refusal) → last ≡ false → Refuses e FillArgumentNotLast at → IsRefusal {A = State × List stated.Given} (unless_clear (not last) FillArgumentNotLast at >> pure (q.0, q.1)) e
fill_refused true at q e is r = absurd (cc is)
fill_refused false at q e is r = r
