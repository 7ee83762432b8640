-- Exports: the names that they may have, definitions, where things were exported last, and what is said behind an export.
use Rattle.std.specs.Prelude.{bytes_eq, option_map, unwrap_or}
use Rattle.std.proofs.Common.{◌≡◌, ℕ, List, [], ◌∷◌, ◌++◌, Bool, true, false, ◌==◌, if◌then◌else◌, Option, Some, None, IsSome, is_some, inl, inr, refl, sym, ap, subst, ◌∙◌}
use Rattle.std.specs.Cmp.Lexicographic.{bytes_decides}
use Rattle.std.proofs.lemmas.Bool.{or_left, or_right, false_from_ne_true, and_from, or_cases}
use Rattle.wac_types_base.specs.declared.item.«Type».{«Type» as TypeKind}
use Rattle.wac_types_base.specs.Entries.{Name, AreDistinct, value_at}
use Rattle.wac_types_base.specs.Graph.{Among}
use Rattle.wac_types_base.proofs.Replacing.{same_number, number_same}
use Rattle.wac_names.specs.declared.names.NameKind.TheVariants as kind
use Rattle.wac_names.specs.NameTests.{plain_test}
use Rattle.wac_names.proofs.NameKinds.{plain_decides}
use Rattle.wac_types_names.specs.InterfaceNames.{is_interface_name}
use Rattle.wac_graph_core.specs.Nodes.{NodeData, Role}
use Rattle.wac_graph_core.specs.Defining.{DefinesType}
use Rattle.wac_graph_core.specs.Exporting.{IsExportName}
use Rattle.wac_graph_core.specs.Graph.{Graph, IsGraph, node_at}
use Rattle.wac_composition.specs.Composition.{Origin, imported, instance, projected, defined}
use Rattle.wac_parser_tree.specs.Trees.{Span}
use Rattle.wac_parser_declare.specs.declared.scope.Binding.{Binding}
use Rattle.wac_parser_declare.specs.Holding.{meant_by, scope_of}
use Rattle.wac_parser_declare.specs.Scope.{Meant}
use Rattle.wac_parser_resolve.specs.Ascribing as stated
use Rattle.wac_parser_resolve.specs.Ascribing.{Bound, State, root_scope, same_origin, is_own_definition}
use Rattle.std.specs.Option.{option_or}
use Rattle.wac_types_base.proofs.Stating.{value_with}
use Rattle.wac_parser_resolve.specs.Holding.{AreNamed, InTurn, IsNode}
use Rattle.wac_parser_resolve.specs.InExports.{IsBoundTo, IsDefined, is_defined}
use Rattle.wac_parser_resolve.specs.Later.{first_name}
use Rattle.wac_parser_resolve.specs.Said.{IsNoted, last_noted}
use Rattle.wac_types_names.specs.InterfaceNames.{is_exportable}
use Rattle.wac_parser_resolve.specs.Saying.{last_span}
use Rattle.wac_types_names.proofs.InterfaceTests.{interface_told}
use Rattle.wac_parser_resolve.proofs.Nodes.{RoleTold, same_node, told_role}
use Rattle.wac_parser_resolve.proofs.Rooted.{AreFound, both_found}
use Rattle.wac_parser_resolve.proofs.Turns.{one_place}

-- ---- names of exports

-- the name of an export, by the test of documents
pub exportable : (n : Name) → IsExportName n → is_exportable n ≡ true
exportable n (kind.Plain, k, is) = or_left (plain_test n) (is_interface_name n) ((plain_decides n).1 is)
exportable n (kind.Interface, k, is) = or_right (plain_test n) (is_interface_name n) ((interface_told n).1 is)
exportable n (kind.Dependency, k, is) = absurd k
exportable n (kind.Url, k, is) = absurd k
exportable n (kind.Hash, k, is) = absurd k

pub unexportable : (n : Name) → (IsExportName n → ⊥) → is_exportable n ≡ false
unexportable n h = false_from_ne_true (is_exportable n) (λ e. elim (or_cases (plain_test n) (is_interface_name n) e) [
  | inl p ↦ h (kind.Plain, tt, (plain_decides n).0 p)
  | inr i ↦ h (kind.Interface, tt, (interface_told n).0 i)
])

-- ---- one node is one thing

module _ (g : Graph) (is : IsGraph g) (ms : List ℕ) where
  role_both : (o p : Origin ℕ) (k : ℕ) → IsNode g ms o k → IsNode g ms p k → (r : Role) × RoleTold o r × RoleTold p r
  role_both o p k a b =
      let x = told_role g is ms o k a in
      let y = told_role g is ms p k b in
      let e : Some y.0 ≡ Some x.0 = sym y.1 ∙ x.1 in
      let same : y.0 ≡ x.0 = cc e in
      (x.0.role, x.2, subst (λ (z : NodeData). RoleTold p z.role) same y.2)

  pub one_thing : AreDistinct ms → (o p : Origin ℕ) (k : ℕ) → IsNode g ms o k → IsNode g ms p k → same_origin o p ≡ true
  one_thing apart (imported m) (imported n) k a b =
      let r = role_both (imported m) (imported n) k a b in
      let e : Role.Imported m ≡ Role.Imported n = sym r.1 ∙ r.2 in
      let s : m ≡ n = cc e in
      (bytes_decides m n).1 s
  one_thing apart (instance l) (instance m) k a b = number_same l m (one_place ms l m k apart a.0 b.0)
  one_thing apart (projected o m) (projected p n) k a b =
      let s = is.keyed.one_source a.0 b.0 k m n a.3 b.3 in
      and_from (same_origin o p) (bytes_eq m n) (one_thing apart o p a.0 a.1 (subst (IsNode g ms p) (sym s.0) b.1)) ((bytes_decides m n).1 s.1)
  one_thing apart (defined m x) (defined n y) k a b =
      let e : Some m ≡ Some n = sym a.first ∙ b.first in
      let s : m ≡ n = cc e in
      (bytes_decides m n).1 s
  one_thing apart (imported m) (instance l) k a b = let r = role_both (imported m) (instance l) k a b in absurd (cc (r.1, r.2))
  one_thing apart (imported m) (projected p n) k a b = let r = role_both (imported m) (projected p n) k a b in absurd (cc (r.1, r.2))
  one_thing apart (imported m) (defined n y) k a b = let r = role_both (imported m) (defined n y) k a b in absurd (cc (r.1, r.2))
  one_thing apart (instance l) (imported n) k a b = let r = role_both (instance l) (imported n) k a b in absurd (cc (r.1, r.2))
  one_thing apart (instance l) (projected p n) k a b = let r = role_both (instance l) (projected p n) k a b in absurd (cc (r.1, r.2))
  one_thing apart (instance l) (defined n y) k a b = let r = role_both (instance l) (defined n y) k a b in absurd (cc (r.1, r.2))
  one_thing apart (projected o m) (imported n) k a b = let r = role_both (projected o m) (imported n) k a b in absurd (cc (r.1, r.2))
  one_thing apart (projected o m) (instance l) k a b = let r = role_both (projected o m) (instance l) k a b in absurd (cc (r.1, r.2))
  one_thing apart (projected o m) (defined n y) k a b = let r = role_both (projected o m) (defined n y) k a b in absurd (cc (r.1, r.2))
  one_thing apart (defined m x) (imported n) k a b = let r = role_both (defined m x) (imported n) k a b in absurd (cc (r.1, r.2))
  one_thing apart (defined m x) (instance l) k a b = let r = role_both (defined m x) (instance l) k a b in absurd (cc (r.1, r.2))
  one_thing apart (defined m x) (projected p n) k a b = let r = role_both (defined m x) (projected p n) k a b in absurd (cc (r.1, r.2))

  -- ---- the place of the last export

  module _ (apart : AreDistinct ms) (o : Origin ℕ) (j : ℕ) (here : IsNode g ms o j) where
    tested : (b c : Bool) → (b ≡ true → c ≡ true) → (c ≡ true → b ≡ true) → b ≡ c
    tested true c f h = sym (f refl)
    tested false true f h = absurd (cc (h refl))
    tested false false f h = refl

    same_test : (p : Origin ℕ) (k : ℕ) → IsNode g ms p k → same_origin o p ≡ (k == j)
    same_test p k a = tested (same_origin o p) (k == j)
        (λ e. number_same k j (sym (same_node g is ms o p j k e here a)))
        (λ e. one_thing apart o p j here (subst (IsNode g ms p) (same_number k j e) a))

    last_by : (l : Option Span) (s x : Span) (b : Bool) → unwrap_or l (if b then x else s) ≡ unwrap_or (option_or l (if b then Some x else None)) s
    last_by (Some y) s x b = refl
    last_by None s x true = refl
    last_by None s x false = refl

    pub last_is : (es : List (Name × Bound)) (noted : List (ℕ × Span)) (s : Span) → InTurn (IsNoted g ms) es noted → last_span s o es ≡ unwrap_or (last_noted noted j) s
    last_is [] [] s t = refl
    last_is [] (y ∷ noted) s t = absurd t
    last_is (x ∷ es) [] s t = absurd t
    last_is (x ∷ es) (y ∷ noted) s t =
        let b = same_test x.1.denoted.origin y.0 t.0.denotes.node in
        last_is es noted (if same_origin o x.1.denoted.origin then x.1.span else s) t.1
        ∙ ap (λ (c : Bool). unwrap_or (last_noted noted j) (if c then x.1.span else s)) b
        ∙ ap (λ (z : Span). unwrap_or (last_noted noted j) (if y.0 == j then z else s)) (sym t.0.span)
        ∙ last_by (last_noted noted j) s y.1 (y.0 == j)

    -- what is noted at least once
    some_by : (l : Option Span) (b : Bool) (x : Span) → b ≡ true → IsSome (option_or l (if b then Some x else None))
    some_by (Some y) b x e = refl
    some_by None true x e = refl
    some_by None false x e = absurd (cc e)

    some_else : (l o : Option Span) → IsSome l → IsSome (option_or l o)
    some_else (Some y) o e = refl
    some_else None o e = absurd (cc e)

    some_noted : (noted : List (ℕ × Span)) (e : ℕ × Span) → Among e noted → e.0 ≡ j → IsSome (last_noted noted j)
    some_noted [] e m s = absurd m
    some_noted (y ∷ noted) e (inl q) s = some_by (last_noted noted j) (y.0 == j) y.1 (number_same y.0 j (sym (ap (λ (z : ℕ × Span). z.0) q) ∙ s))
    some_noted (y ∷ noted) e (inr m) s = some_else (last_noted noted j) _ (some_noted noted e m s)

    unwrapped : (l : Option Span) (s u : Span) → IsSome l → unwrap_or l s ≡ unwrap_or l u
    unwrapped (Some x) s u e = refl
    unwrapped None s u e = absurd (cc e)

    pub export_place : (es : List (Name × Bound)) (noted : List (ℕ × Span)) (s u : Span) (e : ℕ × Span) → InTurn (IsNoted g ms) es noted → Among e noted → e.0 ≡ j → last_span s o es ≡ unwrap_or (last_noted noted j) u
    export_place es noted s u e t m at = last_is es noted s t ∙ unwrapped (last_noted noted j) s u (some_noted noted e m at)

-- ---- definitions of the root

module _ (g : Graph) (ms : List ℕ) (s : State) (nodes : List (Name × ℕ)) (n : Name) (all : AreNamed g ms s.root nodes) where
  found_at : (o : Option ℕ) → value_at nodes n ≡ o → AreFound g ms (value_at s.root n) o
  found_at o e = subst (AreFound g ms (value_at s.root n)) e (both_found g ms s.root nodes n all)

  pub no_node : value_at nodes n ≡ None → is_defined (value_at s.root n) ≡ false
  no_node e = by_found (value_at s.root n) (found_at None e)
    where
      by_found : (o : Option Bound) → AreFound g ms o None → is_defined o ≡ false
      by_found None f = refl
      by_found (Some b) f = absurd f

  pub lost_node : (k : ℕ) → value_at nodes n ≡ Some k → is_some (node_at g k) ≡ false → is_defined (value_at s.root n) ≡ false
  lost_node k e gone = by_found (value_at s.root n) (found_at (Some k) e)
    where
      by_found : (o : Option Bound) → AreFound g ms o (Some k) → is_defined o ≡ false
      by_found None f = refl
      by_found (Some b) f = absurd (cc (sym (ap is_some f.item.there) ∙ gone))

  -- a definition is one by its origin
  defined_by : (o : Origin ℕ) (r : Role) → RoleTold o r → r ≡ Role.Defined → is_own_definition o ≡ true
  defined_by (imported m) r t e = absurd (cc (t, e))
  defined_by (instance i) r t e = absurd (cc (t, e))
  defined_by (projected o m) r t e = absurd (cc (t, e))
  defined_by (defined m x) r t e = refl

  undefined_by : (o : Origin ℕ) (r : Role) → RoleTold o r → (r ≡ Role.Defined → ⊥) → is_own_definition o ≡ false
  undefined_by (imported m) r t h = refl
  undefined_by (instance i) r t h = refl
  undefined_by (projected o m) r t h = refl
  undefined_by (defined m x) r t h = absurd (h t)

  pub no_definition : IsGraph g → (k : ℕ) → value_at nodes n ≡ Some k → (IsDefined g k → ⊥) → is_defined (value_at s.root n) ≡ false
  no_definition is k e h = by_found (value_at s.root n) (found_at (Some k) e)
    where
      by_found : (o : Option Bound) → AreFound g ms o (Some k) → is_defined o ≡ false
      by_found None f = refl
      by_found (Some b) f = let x = told_role g is ms b.denoted.origin k f.node in undefined_by b.denoted.origin x.0.role x.2 (λ r. h (x.0, x.1, r))

  module _ (names : List (Name × Binding)) (scoped : scope_of g.types names ≡ root_scope s) where
    meant_same : option_map (meant_by g.types) (value_at names n) ≡ option_map stated.meant_by (value_at s.root n)
    meant_same =
        sym (value_with (meant_by g.types) names n) ∙ ap (λ (es : List (Name × Meant)). value_at es n) scoped ∙ value_with stated.meant_by s.root n

    pub no_binding : value_at names n ≡ None → is_defined (value_at s.root n) ≡ false
    no_binding e = by_meant (value_at s.root n) (sym (ap (option_map (meant_by g.types)) e) ∙ meant_same)
      where
        by_meant : (o : Option Bound) → None ≡ option_map stated.meant_by o → is_defined o ≡ false
        by_meant None m = refl
        by_meant (Some b) m = absurd (cc m)

    pub is_bound : IsGraph g → (k : ℕ) (b : Binding) → value_at nodes n ≡ Some k → value_at names n ≡ Some b → IsDefined g k → IsBoundTo g ms (value_at s.root n) (record { node = k; span = b.span })
    is_bound is k b e i d = by_both (value_at s.root n) refl (found_at (Some k) e) (sym (ap (option_map (meant_by g.types)) i) ∙ meant_same)
      where
        by_both : (o : Option Bound) → value_at s.root n ≡ o → AreFound g ms o (Some k) → Some (meant_by g.types b) ≡ option_map stated.meant_by o
            → IsBoundTo g ms (value_at s.root n) (record { node = k; span = b.span })
        by_both None q f m = absurd f
        by_both (Some x) q f m =
            let r = told_role g is ms x.denoted.origin k f.node in
            let same : Some r.0 ≡ Some d.0 = sym r.1 ∙ d.1 in
            let one : r.0 ≡ d.0 = cc same in
            let meant : meant_by g.types b ≡ stated.meant_by x = cc m in
            record {
              bound = x;
              is = q;
              defines = defined_by x.denoted.origin r.0.role r.2 (ap (λ (y : NodeData). y.role) one ∙ d.2);
              denotes = f;
              span = ap (λ (y : Meant). y.span) meant;
            }

-- ---- the first name of a definition

-- what is new is exported first under its last name
pub first_new : (es : List (Name × ℕ)) (n : Name) (k : ℕ) → ((m : Name) → Among (m, k) es → ⊥) → first_name (es ++ (n, k) ∷ []) k ≡ Some n
first_new [] n k h = ap (λ (c : Bool). if c then Some n else None) (number_same k k refl)
first_new (e ∷ es) n k h = by_test (e.1 == k) refl (first_new es n k (λ m a. h m (inr a)))
  where
    by_test : (c : Bool) → (e.1 == k) ≡ c → first_name (es ++ (n, k) ∷ []) k ≡ Some n → (if c then Some e.0 else first_name (es ++ (n, k) ∷ []) k) ≡ Some n
    by_test true q r = absurd (h e.0 (inl (ap (λ (j : ℕ). (e.0, j)) (sym (same_number e.1 k q)))))
    by_test false q r = r

pub declared_first : (g h : Graph) → IsGraph g → (n : Name) (x : TypeKind) (k : ℕ) → DefinesType g h n x k → first_name h.exports k ≡ Some n
declared_first g h is n x k step =
    ap (λ (es : List (Name × ℕ)). first_name es k) (ap (λ (y : Graph). y.exports) step.made)
    ∙ first_new g.exports n k (λ m a. absurd (cc (sym (ap is_some step.free) ∙ is.exported.stand m k a)))
