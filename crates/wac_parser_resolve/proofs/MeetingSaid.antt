-- The test of a graph that holds what was said is the test of that.
use Rattle.std.specs.Prelude.{⊤}
use Rattle.std.proofs.Common.{◌≡◌, ℕ, List, [], ◌∷◌, ◌++◌, map, filter, Bool, true, false, not, if◌then◌else◌, Option, Some, None, is_some, option_map, Result, Ok, Err, slice_get, refl, sym, ap, subst, ◌∙◌, inl, inr}
use Rattle.std.specs.List.{flat_map}
use Rattle.wac_types_base.specs.declared.item.ExternKind.{ExternKind}
use Rattle.wac_types_base.specs.declared.item.ItemKind.{ItemKind}
use Rattle.wac_types_base.specs.declared.ids.WorldId.{WorldId}
use Rattle.wac_types_base.specs.declared.defined.World.{World}
use Rattle.wac_types_base.specs.declared.implicit.TargetError.{TargetError}
use Rattle.wac_types_base.specs.Collection.{HasChildren, IsAcyclic, world_entry}
use Rattle.wac_types_base.specs.Entries.{AreDistinct, Name, has_name, names_of, value_at, with_values}
use Rattle.wac_types_base.specs.Graph.{Among}
use Rattle.wac_types_base.specs.Implicit as ids
use Rattle.wac_types_base.specs.Stated.{Stated, desc, exports_of, imports_of, promote, stated_of}
use Rattle.wac_types_base.proofs.Standing.{world_found}
use Rattle.wac_types_fit.specs.declared.checker.SubtypeCheck.{SubtypeCheck}
use Rattle.wac_graph_core.specs.declared.edge.Edge.{Edge}
use Rattle.wac_graph_core.specs.Edges.{HasArgument}
use Rattle.wac_graph_core.specs.Exporting.{import_name_of}
use Rattle.wac_graph_core.specs.Listing.{import_names, passed_list, passed_with, world_names}
use Rattle.wac_graph_core.specs.Nodes.{imported_as}
use Rattle.wac_graph_core.specs.Walking.{first_argument}
use Rattle.wac_graph_core.specs.Graph.{Graph, IsGraph, instantiated, node_at}
use Rattle.wac_graph_core.proofs.Found.{argument_found, no_argument}
use Rattle.wac_parser_tree.specs.Trees as t
use Rattle.wac_parser_tree.specs.Trees.{Span}
use Rattle.wac_parser_tree.specs.declared.import.PackagePath.{PackagePath}
use Rattle.wac_parser_tree.specs.Views.{view_package_path}
use Rattle.wac_parser_refusals.specs.declared.refusal.Refusal.{Refusal}
use Rattle.wac_parser_refusals.specs.Causes.{Answer, Fault, MissingTargetExport, TargetMismatch, TypeCannotBeWritten, each, pure, refuse, ◌>>◌}
use Rattle.wac_parser_refusals.specs.Outcomes.{IsHeld, IsMemory, IsRefusal}
use Rattle.wac_parser_refusals.specs.Views.{Names, anywhere, cause_in}
use Rattle.wac_parser_refusals.proofs.Outcomes.{memory_refusal}
use Rattle.wac_parser_declare.proofs.Exports.{component_imports}
use Rattle.wac_parser_declare.proofs.Members.{told}
use Rattle.wac_parser_resolve.specs.declared.targets.Target.{Target}
use Rattle.wac_parser_resolve.specs.Ascribing.{Bound, Denoted, Import, Made, State}
use Rattle.wac_parser_resolve.specs.Denoting.{fitting}
use Rattle.wac_parser_resolve.specs.Giving.{gives_of}
use Rattle.wac_parser_resolve.specs.Holding.{ArePassed, HasItem, InTurn, IsMade, Says}
use Rattle.wac_types_base.specs.Parts.{imports_in_world}
use Rattle.wac_parser_resolve.specs.InTargets.{IsFaultOf, IsTargetFor, IsTold, all_pass, export_at, export_test, filled_test, import_test, instance_test, is_passed_in, item_in, node_item, package_imports, path_of, statement_by, statement_test}
use Rattle.wac_parser_resolve.specs.Meeting as stated
use Rattle.wac_parser_resolve.specs.Meeting.{Wanted, refuse_at, uses_are_named, wanted, wanted_by_instance, wanted_by_statement, export_met, import_met}
use Rattle.wac_parser_resolve.specs.Said.{AreAsked, AreExported, IsAsked}
use Rattle.wac_parser_resolve.specs.Saying.{export_span}
use Rattle.wac_parser_resolve.proofs.Giving.{among_has}
use Rattle.wac_parser_resolve.proofs.Meeting.{Passed, held_then, named_among, pass_first, refused_then}
use Rattle.wac_parser_resolve.proofs.MeetingUses.{uses_unnamed}
use Rattle.wac_parser_resolve.proofs.Rooted.{AreFound, both_found}
use Rattle.wac_parser_resolve.proofs.TargetMet.{passed_has}
use Rattle.wac_parser_resolve.proofs.Declaring.{noted_span}
use Rattle.wac_graph_core.proofs.Rising.{rises_apart}

-- ---- tests, one after another

then_then : (q r u : Answer ⊤) → ((q >> r) >> u) ≡ (q >> (r >> u))
then_then (Ok v) r u = refl
then_then (Err c) r u = refl

pass_append : {A : Type 0} (f : A → Answer ⊤) (xs ys : List A) → all_pass f (xs ++ ys) ≡ (all_pass f xs >> all_pass f ys)
pass_append f [] ys = refl
pass_append f (x ∷ xs) ys =
    pass_first f x (xs ++ ys) ∙ ap (λ (q : Answer ⊤). f x >> q) (pass_append f xs ys) ∙ sym (then_then (f x) (all_pass f xs) (all_pass f ys))
    ∙ ap (λ (q : Answer ⊤). q >> all_pass f ys) (sym (pass_first f x xs))

module _ {A : Type 0} where
  pass_turn : {B : Type 0} (R : A → B → Type 0) (f : A → Answer ⊤) (g : B → Answer ⊤) → ((x : A) (y : B) → R x y → f x ≡ g y) → (xs : List A) (ys : List B) → InTurn R xs ys → all_pass f xs ≡ all_pass g ys
  pass_turn R f g same [] [] t = refl
  pass_turn R f g same [] (y ∷ ys) t = absurd t
  pass_turn R f g same (x ∷ xs) [] t = absurd t
  pass_turn R f g same (x ∷ xs) (y ∷ ys) t =
      pass_first f x xs ∙ ap (λ (q : Answer ⊤). q >> all_pass f xs) (same x y t.0) ∙ ap (λ (q : Answer ⊤). g y >> q) (pass_turn R f g same xs ys t.1) ∙ sym (pass_first g y ys)

  pass_map : {B : Type 0} (h : A → B) (f : B → Answer ⊤) (xs : List A) → all_pass f (map h xs) ≡ all_pass (λ x. f (h x)) xs
  pass_map h f [] = refl
  pass_map h f (x ∷ xs) =
      pass_first f (h x) (map h xs) ∙ ap (λ (q : Answer ⊤). f (h x) >> q) (pass_map h f xs) ∙ sym (pass_first (λ y. f (h y)) x xs)

  pass_flat : {B : Type 0} (h : A → List B) (f : B → Answer ⊤) (xs : List A) → all_pass f (flat_map h xs) ≡ all_pass (λ x. all_pass f (h x)) xs
  pass_flat h f [] = refl
  pass_flat h f (x ∷ xs) =
      pass_append f (h x) (flat_map h xs) ∙ ap (λ (q : Answer ⊤). all_pass f (h x) >> q) (pass_flat h f xs) ∙ sym (pass_first (λ y. all_pass f (h y)) x xs)

-- ---- what is passed

module _ (es : List Edge) (i : ℕ) where
  listed_by : (m : Name) (o : Option ℕ) (xs : List (Name × ℕ)) (n : Name) → Among n (names_of xs) → Among n (names_of (passed_with m o xs))
  listed_by m None xs n h = h
  listed_by m (Some a) xs n h = inr h

  listed_here : (m : Name) (o : Option ℕ) (xs : List (Name × ℕ)) (n : Name) (a : ℕ) → n ≡ m → o ≡ Some a → Among n (names_of (passed_with m o xs))
  listed_here m None xs n a e f = absurd (cc f)
  listed_here m (Some b) xs n a e f = inl e

  -- what is passed under a name of the world is listed
  passed_listed : (ns : List Name) (n : Name) (a : ℕ) → Among n ns → first_argument es i n ≡ Some a → Among n (names_of (passed_list es i ns))
  passed_listed [] n a m e = absurd m
  passed_listed (x ∷ ns) n a (inl h) e = listed_here x (first_argument es i x) (passed_list es i ns) n a h (ap (first_argument es i) (sym h) ∙ e)
  passed_listed (x ∷ ns) n a (inr m) e = listed_by x (first_argument es i x) (passed_list es i ns) n (passed_listed ns n a m e)

module _ (g : Graph) (ms : List ℕ) (i : ℕ) (as_ : List (Name × Denoted)) (all : ArePassed g ms i as_) where
  none_given : (n : Name) (o : Option Denoted) → value_at as_ n ≡ o → ((a : ℕ) → HasArgument g.edges i n a → ⊥) → is_some o ≡ false
  none_given n None e h = refl
  none_given n (Some d) e h = let p = all.passed n d e in absurd (h p.0 p.1)

  not_listed : (ns : List Name) (n : Name) → ((a : ℕ) → HasArgument g.edges i n a → ⊥) → has_name (names_of (passed_list g.edges i ns)) n ≡ false
  not_listed ns n h = by (has_name (names_of (passed_list g.edges i ns)) n) refl
    where
      by : (b : Bool) → has_name (names_of (passed_list g.edges i ns)) n ≡ b → has_name (names_of (passed_list g.edges i ns)) n ≡ false
      by true e = let m = named_among n (passed_list g.edges i ns) e in absurd (h m.0 (passed_has g.edges i ns (n, m.0) m.1))
      by false e = e

  pub passed_same : (ns : List Name) (n : Name) → Among n ns → has_name (names_of (passed_list g.edges i ns)) n ≡ is_some (value_at as_ n)
  passed_same ns n m = by (first_argument g.edges i n) refl
    where
      by : (o : Option ℕ) → first_argument g.edges i n ≡ o → has_name (names_of (passed_list g.edges i ns)) n ≡ is_some (value_at as_ n)
      by None e =
          let none : (a : ℕ) → HasArgument g.edges i n a → ⊥ = λ a h. no_argument g.edges i a n e h in
          not_listed ns n none ∙ sym (none_given n (value_at as_ n) refl none)
      by (Some a) e =
          among_has (names_of (passed_list g.edges i ns)) n (passed_listed g.edges i ns n a m e) ∙ sym (all.only n a (argument_found g.edges i a n e))

-- ---- the tests of what was said

module _ (g : Graph) (is : IsGraph g) (acyclic : IsAcyclic g.types) (tg : Target) (p : t.PackagePath) (path : p ≡ path_of tg) (s : State) (w : Stated) (gives : (n : Name) → stated.given_by w n ≡ option_map (stated_of g.types) (gives_of tg n)) where
  abbrev wants : Wanted → Answer ⊤
  wants a = import_met p a (stated.given_by w a.name)

  wants_same : (a : Wanted) → wants a ≡ import_test tg g.types a
  wants_same a = ap (import_met p a) (gives a.name) ∙ ap (λ (q : t.PackagePath). import_met q a (option_map (stated_of g.types) (gives_of tg a.name))) path

  item_same : (k : ℕ) (x : Stated) → HasItem g k x → node_item g k ≡ x
  item_same k x h = ap (item_in g) h.there ∙ h.kind.same

  asked_same : (ids : List (ℕ × Span)) (i : Import) (e : ℕ × Span) → IsAsked g ids i e → wants (wanted_by_statement i) ≡ statement_test tg g e
  asked_same ids i e h =
      let named : import_name_of (node_at g e.0) ≡ Some i.name = ap import_name_of h.import.there ∙ ap imported_as h.import.role in
      wants_same (wanted_by_statement i)
      ∙ sym (ap (statement_by tg g e.0 e.1) named
      ∙ ap (λ (x : Stated). import_test tg g.types (record { name = i.name; item = x; span = Some e.1 })) (item_same e.0 i.item h.item)
      ∙ ap (λ (x : Span). import_test tg g.types (record { name = i.name; item = i.item; span = Some x })) h.span)

  -- an instance
  abbrev open_of : Name × Stated → Wanted
  open_of e = record { name = e.0; item = e.1; span = None }

  filled_same : (m : List (Name × Denoted)) (k : ℕ) (es : List (Name × ItemKind)) → ((n : Name) → Among n (names_of es) → is_passed_in g k n ≡ is_some (value_at m n))
      → all_pass wants (map open_of (filter (λ e. not (is_some (value_at m e.0))) (with_values (stated_of g.types) es))) ≡ all_pass (filled_test tg g k) es
  filled_same m k [] same = refl
  filled_same m k (e ∷ es) same = by (is_some (value_at m e.0)) (same e.0 (inl refl)) (filled_same m k es (λ n h. same n (inr h)))
    where
      rest : List (Name × Stated)
      rest = filter (λ e. not (is_some (value_at m e.0))) (with_values (stated_of g.types) es)

      by : (b : Bool) → is_passed_in g k e.0 ≡ b → all_pass wants (map open_of rest) ≡ all_pass (filled_test tg g k) es
          → all_pass wants (map open_of (if not b then (e.0, stated_of g.types e.1) ∷ rest else rest)) ≡ all_pass (filled_test tg g k) (e ∷ es)
      by true h so =
          let here : filled_test tg g k e ≡ pure tt = ap (λ (b : Bool). if b then pure tt else import_test tg g.types (open_of (e.0, stated_of g.types e.1))) h in
          so ∙ sym (pass_first (filled_test tg g k) e es ∙ ap (λ (q : Answer ⊤). q >> all_pass (filled_test tg g k) es) here)
      by false h so =
          let here : filled_test tg g k e ≡ import_test tg g.types (open_of (e.0, stated_of g.types e.1)) = ap (λ (b : Bool). if b then pure tt else import_test tg g.types (open_of (e.0, stated_of g.types e.1))) h in
          pass_first wants (open_of (e.0, stated_of g.types e.1)) (map open_of rest)
          ∙ ap (λ (q : Answer ⊤). q >> all_pass wants (map open_of rest)) (wants_same (open_of (e.0, stated_of g.types e.1)) ∙ sym here)
          ∙ ap (λ (q : Answer ⊤). filled_test tg g k e >> q) so ∙ sym (pass_first (filled_test tg g k) e es)

  made_same : (ms : List ℕ) (m : Made) (e : ℕ × Span) → IsMade g ms m e → all_pass wants (wanted_by_instance m) ≡ instance_test tg g e.0
  made_same ms m e h =
      let f = world_found g.types h.of.ty h.world.stands in
      let imports : imports_of m.world ≡ with_values (stated_of g.types) f.value.imports = ap imports_of (sym h.world.same) ∙ component_imports g.types acyclic h.of.ty f.value f.at f.own in
      let own : package_imports g (instantiated g e.0) ≡ f.value.imports = ap (package_imports g) h.is ∙ ap imports_in_world f.at in
      let ns : import_names g (instantiated g e.0) ≡ names_of f.value.imports = ap (import_names g) h.is ∙ ap world_names f.at in
      ap (λ (es : List (Name × Stated)). all_pass wants (map open_of (filter (λ x. not (is_some (value_at m.arguments x.0))) es))) imports
      ∙ filled_same m.arguments e.0 f.value.imports
      (λ n a. passed_same g ms e.0 m.arguments h.arguments (import_names g (instantiated g e.0)) n (subst (λ (xs : List Name). Among n xs) (sym ns) a))
      ∙ ap (λ (es : List (Name × ItemKind)). all_pass (filled_test tg g e.0) es) (sym own)

  wanted_same : (is_ ids ms : List (ℕ × Span)) (names : List (Name × ℕ)) → AreAsked g is_ ids s.imports → Says g ms names s
      → all_pass wants (wanted s) ≡ (all_pass (statement_test tg g) is_ >> all_pass (λ e. instance_test tg g e.0) ms)
  wanted_same is_ ids ms names asked says =
      pass_append wants (map wanted_by_statement s.imports) (flat_map wanted_by_instance s.made)
      ∙ ap (λ (q : Answer ⊤). q >> all_pass wants (flat_map wanted_by_instance s.made))
      (pass_map wanted_by_statement wants s.imports ∙ pass_turn (IsAsked g ids) (λ i. wants (wanted_by_statement i)) (statement_test tg g) (asked_same ids) s.imports is_ asked.are)
      ∙ ap (λ (q : Answer ⊤). all_pass (statement_test tg g) is_ >> q)
      (pass_flat wanted_by_instance wants s.made ∙ pass_turn (IsMade g (names_of ms)) (λ m. all_pass wants (wanted_by_instance m)) (λ e. instance_test tg g e.0) (made_same (names_of ms)) s.made ms says.made)

  -- ---- exports

  module _ (ms : List ℕ) (apart : AreDistinct ms) (spans : List (ℕ × Span)) (exported : AreExported g ms spans s.exports) where
    exports_by : (e : Name × ItemKind) (o : Option Bound) (q : Option ℕ) → value_at s.exports e.0 ≡ o → AreFound g ms o q → export_met s p e.0 (stated_of g.types e.1) o ≡ export_at tg g spans e q
    exports_by e None None at f =
        ap (λ (x : t.PackagePath). refuse (MissingTargetExport e.0 (desc (stated_of g.types e.1)) x.string) x.span) path
    exports_by e None (Some k) at f = absurd f
    exports_by e (Some b) None at f = absurd f
    exports_by e (Some b) (Some k) at f =
        let x = promote (stated_of g.types e.1) in
        let c : Fault = TargetMismatch ExternKind.Export e.0 tg.path.now.string.now in
        ap (λ (y : t.PackagePath). fitting SubtypeCheck.Covariant b.denoted.item x (TargetMismatch ExternKind.Export e.0 y.string) (Some (export_span s b))) path
        ∙ ap (λ (y : Stated). fitting SubtypeCheck.Covariant y x c (Some (export_span s b))) (sym (item_same k b.denoted.item f.item))
        ∙ ap (fitting SubtypeCheck.Covariant (node_item g k) x c) (sym (noted_span g is ms apart s spans exported.noted e.0 b at k f))

    exports_same : (es : List (Name × ItemKind)) → all_pass (λ e. export_met s p e.0 e.1 (value_at s.exports e.0)) (with_values (stated_of g.types) es) ≡ all_pass (export_test tg g spans) es
    exports_same [] = refl
    exports_same (e ∷ es) =
        pass_first (λ e. export_met s p e.0 e.1 (value_at s.exports e.0)) (e.0, stated_of g.types e.1) (with_values (stated_of g.types) es)
        ∙ ap (λ (q : Answer ⊤). q >> all_pass (λ e. export_met s p e.0 e.1 (value_at s.exports e.0)) (with_values (stated_of g.types) es))
        (exports_by e (value_at s.exports e.0) (value_at g.exports e.0) refl (both_found g ms s.exports g.exports e.0 exported.are))
        ∙ ap (λ (q : Answer ⊤). export_test tg g spans e >> q) (exports_same es) ∙ sym (pass_first (export_test tg g spans) e es)

-- ---- the target

module _ (g : Graph) (acyclic : IsAcyclic g.types) (w : WorldId) (x : World) (at : slice_get g.types.worlds w.index ≡ Some x) (own : w.collection ≡ g.types.number) (has : HasChildren g.types (world_entry x)) (s : State) (p : t.PackagePath) where
  abbrev target : Stated
  target = stated_of g.types (ItemKind.Component w)

  -- the uses that have no names
  pub unnamed_refused : (e : Refusal) → ids.by_identifier g.types [] (ids.implicit_interfaces g.types x) ≡ None → Names e (anywhere (TypeCannotBeWritten p.string)) → IsRefusal (stated.target_met s p target) e
  unnamed_refused e none named = by (uses_are_named target) (uses_unnamed g.types acyclic w x at own has none)
    where
      rest : Answer ⊤
      rest = each (λ u a. import_met p a (stated.given_by target a.name)) tt (wanted s) >> each (λ u e. export_met s p e.0 e.1 (value_at s.exports e.0)) tt (exports_of target)

      by : (b : Bool) → b ≡ false → IsRefusal ((if b then pure tt else refuse_at (TypeCannotBeWritten p.string) None) >> rest) e
      by true n = absurd (cc n)
      by false n = told e (TypeCannotBeWritten p.string) None named

  pub fault_refused : (fault : TargetError) (path : PackagePath) (e : Refusal) → p ≡ view_package_path path → (fault ≡ TargetError.UsedWithoutIdentifier → ids.by_identifier g.types [] (ids.implicit_interfaces g.types x) ≡ None)
      → IsFaultOf path fault e → IsRefusal (stated.target_met s p target) e
  fault_refused TargetError.Memory path e same none h = memory_refusal (stated.target_met s p target) e (subst (λ (f : Refusal). IsMemory (cause_in f)) (sym h) tt)
  fault_refused TargetError.UsedWithoutIdentifier path e same none h =
      unnamed_refused e (none refl) (subst (λ (q : t.PackagePath). Names e (anywhere (TypeCannotBeWritten q.string))) (sym same) h)

-- the graph that holds what was said
module _ (g : Graph) (is : IsGraph g) (acyclic : IsAcyclic g.types) (tg : Target) (es : List (Name × ItemKind)) (s : State) (p : t.PackagePath) (w : Stated) (of : IsTargetFor tg g.types es p w)
    (is_ ids_ ms : List (ℕ × Span)) (names : List (Name × ℕ)) (spans : List (ℕ × Span)) (asked : AreAsked g is_ ids_ s.imports) (says : Says g ms names s) (exported : AreExported g (names_of ms) spans s.exports) where
  abbrev statements : Answer ⊤
  statements = all_pass (statement_test tg g) is_

  abbrev instances : Answer ⊤
  instances = all_pass (λ e. instance_test tg g e.0) ms

  abbrev exports : Answer ⊤
  exports = all_pass (export_test tg g spans) es

  named_same : (rest : Answer ⊤) (b : Bool) → b ≡ true → ((if b then pure tt else refuse_at (TypeCannotBeWritten p.string) None) >> rest) ≡ rest
  named_same rest true e = refl
  named_same rest false e = absurd (cc e)

  met_same : stated.target_met s p w ≡ ((statements >> instances) >> exports)
  met_same =
      let asks = each (λ u a. import_met p a (stated.given_by w a.name)) tt (wanted s) in
      named_same (asks >> each (λ u e. export_met s p e.0 e.1 (value_at s.exports e.0)) tt (exports_of w)) (uses_are_named w) of.named
      ∙ ap (λ (xs : List (Name × Stated)). asks >> each (λ u e. export_met s p e.0 e.1 (value_at s.exports e.0)) tt xs) of.exports
      ∙ ap (λ (q : Answer ⊤). asks >> q) (exports_same g is acyclic tg p of.path s w of.gives (names_of ms) (rises_apart (names_of ms) says.rising) spans exported es)
      ∙ ap (λ (q : Answer ⊤). q >> exports) (wanted_same g is acyclic tg p of.path s w of.gives is_ ids_ ms names asked says)

  pub statements_refused : (e : Refusal) → IsRefusal statements e → IsRefusal (stated.target_met s p w) e
  statements_refused e h = subst (λ (q : Answer ⊤). IsRefusal q e) (sym met_same) (refused_then (statements >> instances) exports e (refused_then statements instances e h))

  pub instances_refused : (e : Refusal) → IsHeld Passed statements tt → IsRefusal instances e → IsRefusal (stated.target_met s p w) e
  instances_refused e h m =
      subst (λ (q : Answer ⊤). IsRefusal q e) (sym met_same) (refused_then (statements >> instances) exports e (subst (λ (q : Answer ⊤). IsRefusal q e) (sym (held_then statements instances h)) m))

  pub exports_told : (r : Result ⊤ Refusal) → IsHeld Passed statements tt → IsHeld Passed instances tt → IsTold exports r → IsTold (stated.target_met s p w) r
  exports_told r h k m =
      subst (λ (q : Answer ⊤). IsTold q r) (sym (met_same ∙ ap (λ (q : Answer ⊤). q >> exports) (held_then statements instances h) ∙ held_then instances exports k)) m
