-- Statements say the same whatever the spans are, and over packages that are the same where they are named.
use Rattle.std.specs.Prelude.{Bool, true, false, not, cond, List, [], ◌∷◌, ◌++◌, map, Option, Some, None, is_some, is_none, filter, option_map, bytes_eq, unwrap_or}
use Rattle.std.specs.List.{flat_map}
use Rattle.std.proofs.Common.{◌≡◌, refl, sym, ap, ◌∙◌, subst}
use Rattle.std.proofs.lemmas.List.{map-append}
use Rattle.wac_types_base.specs.Entries.{Name, value_at, names_of}
use Rattle.wac_types_base.specs.Stated.{Stated, kind_of, promote, exports_of}
use Rattle.wac_types_base.proofs.Stating.{value_with}
use Rattle.wac_types_names.specs.Keys.{Key}
use Rattle.wac_composition.specs.Composition.{imported, defined}
use Rattle.wac_parser_tree.specs.Trees as t
use Rattle.wac_parser_tree.specs.Trees.{Span}
use Rattle.wac_parser_tree.specs.Bare.{nowhere, bare_ident, bare_package_path, bare_extern_name, bare_func, bare_inline_interface, bare_import_type, bare_import, bare_type_decl, bare_type_statement, bare_expr, bare_options, bare_statement, bare}
use Rattle.wac_parser_tree.specs.Named.{Named, in_import_type, in_statement, tracks_in_statement, tracks_named}
use Rattle.wac_parser_refusals.specs.declared.error.InstanceOperation.{InstanceOperation}
use Rattle.wac_parser_refusals.specs.Causes.{Answer, pure, each, ExportRequiresAs}
use Rattle.wac_parser_refusals.proofs.Alike.{IsAlike, both, neither, itself, AreSame, then_alike, next_alike, clear_alike, present_same, each_same}
use Rattle.wac_parser_declare.specs.Packages.{Content}
use Rattle.wac_parser_declare.specs.Scope.{Scope, Context, named, path_item}
use Rattle.wac_parser_declare.specs.Declarations.{free}
use Rattle.wac_parser_declare.specs.Interfaces.{inline_interface}
use Rattle.wac_parser_declare.specs.Worlds.{type_statement}
use Rattle.wac_parser_declare.proofs.AlikeScopes.{has_read, named_alike, AreSameIn, bare_context, path_alike}
use Rattle.wac_parser_declare.proofs.AlikeTypes.{free_alike}
use Rattle.wac_parser_declare.proofs.AlikeBodies.{inline_alike}
use Rattle.wac_parser_declare.proofs.AlikeWorlds.{type_statement_alike}
use Rattle.wac_parser_declare.proofs.Kept.{with_values-more}
use Rattle.wac_parser_resolve.specs.Ascribing.{Denoted, Import, Bound, State, start, root_scope, worlds_of, context, bound, speak_of, is_own_definition}
use Rattle.wac_types_names.specs.InterfaceNames.{is_exportable, is_extern_name}
use Rattle.wac_parser_resolve.specs.Saying.{asked, identified, written_name, told_name, import_name, import_called, not_imported, with_import, import_statement, not_exported, with_definition, declaration, type_id, declared_id, no_definition, new_export, exported, export_name, export_one, export_left, export_as, expr_span, statement, statements}
use Rattle.wac_parser_resolve.proofs.AlikeStates.{bare_bound, bare_asked, bare_exports, over, bare_over, scope_bare, context_bare, IsSaidAlike, bound_alike, spoken_over, spoken_bare}
use Rattle.wac_parser_resolve.proofs.AlikeExpressions.{AreHeld, back_held, front_held, needs_instance_alike, export_named_alike, denote_alike}

-- ---- names

written_bare : (n : t.ExternName) → written_name (bare_extern_name n) ≡ bare_ident (written_name n)
written_bare (t.ExternName.ident i) = refl
written_bare (t.ExternName.string x) = refl

called_bare : (is : List Import) (n : Name) → import_called (map bare_asked is) n ≡ option_map bare_asked (import_called is n)
called_bare [] n = refl
called_bare (i ∷ is) n = go (bytes_eq n i.name) (called_bare is n)
  where
    go : (b : Bool) → import_called (map bare_asked is) n ≡ option_map bare_asked (import_called is n)
        → cond b (Some (bare_asked i)) (import_called (map bare_asked is) n) ≡ option_map bare_asked (cond b (Some i) (import_called is n))
    go true e = refl
    go false e = e

not_imported_alike : (o : Option Import) (n : t.Ident) (b c : Bool) → AreSame (not_imported o n b) (not_imported (option_map bare_asked o) (bare_ident n) c)
not_imported_alike None n b c = both tt
not_imported_alike (Some i) n b c = neither _ _

type_id_bare : (d : t.TypeDecl) → type_id (bare_type_decl d) ≡ bare_ident (type_id d)
type_id_bare (t.TypeDecl.variant d) = refl
type_id_bare (t.TypeDecl.record_ d) = refl
type_id_bare (t.TypeDecl.flags d) = refl
type_id_bare (t.TypeDecl.enum d) = refl
type_id_bare (t.TypeDecl.alias d) = refl

declared_bare : (x : t.TypeStatement) → declared_id (bare_type_statement x) ≡ bare_ident (declared_id x)
declared_bare (t.TypeStatement.interface d) = refl
declared_bare (t.TypeStatement.world d) = refl
declared_bare (t.TypeStatement.ty d) = type_id_bare d

expr_span_bare : (e : t.Expr) → expr_span (bare_expr e) ≡ nowhere
expr_span_bare (t.expr s p ps) = refl

-- ---- what stands already

not_exported_alike : (g h : State) (o : Option Bound) (i : t.Ident) → AreSame (not_exported g o i) (not_exported h (option_map bare_bound o) (bare_ident i))
not_exported_alike g h None i = both tt
not_exported_alike g h (Some e) i = neither _ _

no_definition_alike : (n : t.Ident) (helped : Bool) (o : Option Bound) → AreSame (no_definition n helped o) (no_definition (bare_ident n) helped (option_map bare_bound o))
no_definition_alike n helped None = both tt
no_definition_alike n helped (Some b) = clear_alike (is_own_definition b.denoted.origin) _ _ _ _

new_export_alike : (g h : State) (n : t.Ident) (helped : Bool) (o : Option Bound) → AreSame (new_export g n helped o) (new_export h (bare_ident n) helped (option_map bare_bound o))
new_export_alike g h n helped None = both tt
new_export_alike g h n helped (Some e) = neither _ _

left_bare : (es : List (Name × Bound)) (ns : List Name) → filter (λ n. not (is_some (value_at (bare_exports es) n))) ns ≡ filter (λ n. not (is_some (value_at es n))) ns
left_bare es [] = refl
left_bare es (n ∷ ns) = go (is_some (value_at (bare_exports es) n)) (is_some (value_at es n)) (has_read bare_bound es n) (left_bare es ns)
  where
    go : (b c : Bool) → b ≡ c → filter (λ n. not (is_some (value_at (bare_exports es) n))) ns ≡ filter (λ n. not (is_some (value_at es n))) ns
        → cond (not b) (n ∷ filter (λ n. not (is_some (value_at (bare_exports es) n))) ns) (filter (λ n. not (is_some (value_at (bare_exports es) n))) ns) ≡ cond (not c) (n ∷ filter (λ n. not (is_some (value_at es n))) ns) (filter (λ n. not (is_some (value_at es n))) ns)
    go b c e f = ap (λ d. cond (not d) (n ∷ filter (λ n. not (is_some (value_at (bare_exports es) n))) ns) (filter (λ n. not (is_some (value_at (bare_exports es) n))) ns)) e ∙ ap (λ ms. cond (not c) (n ∷ ms) ms) f

module _ (ps qs : List (Key × Content)) where
  abbrev ArePackages : List Named → Type 0
  ArePackages ks = AreSameIn (worlds_of ps) (worlds_of qs) ks

  abbrev left_context : State → Context
  left_context g = context (over ps g)

  -- what is stated in a context is the same in the other
  pub stated_alike : (g : State) (a : Answer Stated) (f : Context → Answer Stated) → AreSame a (f (bare_context (worlds_of qs) (left_context g))) → AreSame a (f (context (bare_over qs g)))
  stated_alike g a f h = subst (λ (c : Context). AreSame a (f c)) (sym (context_bare qs (left_context g) g refl refl)) h

  named_in_root : (g : State) (i : t.Ident) → AreSame (named (root_scope g) i) (named (root_scope (bare_over qs g)) (bare_ident i))
  named_in_root g i = subst (λ (ms : Scope). AreSame (named (root_scope g) i) (named ms (bare_ident i))) (sym (scope_bare g.root)) (named_alike (root_scope g) i)

  -- ---- import statements

  asked_alike : (g : State) (x : t.ImportType) → ArePackages (in_import_type x) → AreSame (asked (over ps g) x) (asked (bare_over qs g) (bare_import_type x))
  asked_alike g (t.ImportType.package_path p) h = stated_alike g _ (λ c. path_item c (bare_package_path p)) (path_alike (left_context g) (worlds_of qs) p h)
  asked_alike g (t.ImportType.func f) h = subst (λ (ms : Scope). AreSame (free (root_scope g) f) (free ms (bare_func f))) (sym (scope_bare g.root)) (free_alike (root_scope g) f)
  asked_alike g (t.ImportType.interface d) h = stated_alike g _ (λ c. inline_interface c (bare_inline_interface d)) (inline_alike (left_context g) (worlds_of qs) d h)
  asked_alike g (t.ImportType.ident i) h = named_in_root g i

  told_name_alike : (g : State) (i : t.Ident) (x : t.ImportType) → IsAlike itself bare_ident (told_name (over ps g) i x) (told_name (bare_over qs g) (bare_ident i) (bare_import_type x))
  told_name_alike g i (t.ImportType.package_path p) = both (record { string = p.string; span = p.span })
  told_name_alike g i (t.ImportType.func f) = both i
  told_name_alike g i (t.ImportType.interface d) = both i
  told_name_alike g i (t.ImportType.ident j) = then_alike _ _ (named_in_root g j) (λ x. both (record { string = unwrap_or (identified (kind_of x) x) i.string; span = i.span }))

  import_name_alike : (g : State) (x : t.ImportStatement) → IsAlike itself bare_ident (import_name (over ps g) x) (import_name (bare_over qs g) (bare_import x))
  import_name_alike g x = go x.name
    where
      with_name : Option t.ExternName → t.ImportStatement
      with_name o = record { docs = x.docs; id = x.id; name = o; ty = x.ty }

      go : (o : Option t.ExternName) → IsAlike itself bare_ident (import_name (over ps g) (with_name o)) (import_name (bare_over qs g) (bare_import (with_name o)))
      go None = told_name_alike g x.id x.ty
      go (Some n) = subst (λ (i : t.Ident). IsAlike itself bare_ident (pure (written_name n)) (pure i)) (sym (written_bare n)) (both (written_name n))

  import_alike : (g : State) (x : t.ImportStatement) → ArePackages (in_import_type x.ty) → IsSaidAlike ps qs (import_statement (over ps g) x) (import_statement (bare_over qs g) (bare_import x))
  import_alike g x h = then_alike _ _ (import_name_alike g x) (λ n. then_alike _ _ (asked_alike g x.ty h)
      (λ y. next_alike (subst (λ (o : Option Import). AreSame (not_imported (import_called g.imports n.string) n (is_none x.name)) (not_imported o (bare_ident n) (is_none (bare_import x).name))) (sym (called_bare g.imports n.string)) (not_imported_alike (import_called g.imports n.string) n _ _))
      (next_alike (clear_alike (not (is_extern_name n.string)) _ _ _ _) (imported_as n (promote y)))))
    where
      one : t.Ident → Stated → Import
      one n y = record { name = n.string; item = y; span = n.span; id_span = x.id.span }

      imported_as : (n : t.Ident) (y : Stated) → IsSaidAlike ps qs (bound (with_import (over ps g) (one n y)) x.id (record { origin = imported n.string; item = y })) (bound (with_import (bare_over qs g) (bare_asked (one n y))) (bare_ident x.id) (record { origin = imported n.string; item = y }))
      imported_as n y = subst (λ (is : List Import). IsSaidAlike ps qs (bound (over ps (with_import g (one n y))) x.id (record { origin = imported n.string; item = y })) (bound (record (bare_over qs g) { imports = is }) (bare_ident x.id) (record { origin = imported n.string; item = y })))
          (map-append bare_asked g.imports (one n y ∷ [])) (bound_alike ps qs (with_import g (one n y)) x.id (record { origin = imported n.string; item = y }))

  -- ---- declarations

  declaration_alike : (g : State) (i : t.Ident) (x : Stated) → IsSaidAlike ps qs (declaration (over ps g) i x) (declaration (bare_over qs g) (bare_ident i) x)
  declaration_alike g i x = next_alike (clear_alike (not (is_extern_name i.string)) _ _ _ _) (next_alike
      (subst (λ (o : Option Bound). AreSame (not_exported (over ps g) (value_at g.exports i.string) i) (not_exported (bare_over qs g) o (bare_ident i))) (sym (value_with bare_bound g.exports i.string)) (not_exported_alike (over ps g) (bare_over qs g) (value_at g.exports i.string) i))
      (subst (λ (es : List (Name × Bound)). IsSaidAlike ps qs (bound (over ps (with_definition g i x)) i d) (bound (record (bare_over qs g) { definitions = g.definitions ++ (i.string, x) ∷ []; exports = es }) (bare_ident i) d))
      (with_values-more bare_bound g.exports i.string (record { denoted = d; span = i.span })) (bound_alike ps qs (with_definition g i x) i d)))
    where
      d : Denoted
      d = record { origin = defined i.string x; item = x }

  -- ---- exports

  exported_alike : (d : Denoted) (helped : Bool) (g : State) (n : t.Ident) → IsSaidAlike ps qs (exported d helped (over ps g) n) (exported d helped (bare_over qs g) (bare_ident n))
  exported_alike d helped g n =
      next_alike (subst (λ (o : Option Bound). AreSame (no_definition n helped (value_at g.root n.string)) (no_definition (bare_ident n) helped o)) (sym (value_with bare_bound g.root n.string)) (no_definition_alike n helped (value_at g.root n.string)))
      (next_alike (subst (λ (o : Option Bound). AreSame (new_export (over ps g) n helped (value_at g.exports n.string)) (new_export (bare_over qs g) (bare_ident n) helped o)) (sym (value_with bare_bound g.exports n.string)) (new_export_alike (over ps g) (bare_over qs g) n helped (value_at g.exports n.string)))
      (next_alike (clear_alike (not (is_exportable n.string)) _ _ _ _)
      (subst (λ (h : State). IsSaidAlike ps qs (pure (with_exports h (g.exports ++ e ∷ []))) (pure (with_exports (speak_of (bare_over qs g) d) (bare_exports g.exports ++ (n.string, bare_bound e.1) ∷ [])))) (sym (spoken_over ps qs g d))
      (subst (λ (h : State). IsSaidAlike ps qs (pure (over ps (with_exports (speak_of g d) (g.exports ++ e ∷ [])))) (pure (with_exports h (bare_exports g.exports ++ (n.string, bare_bound e.1) ∷ [])))) (sym (spoken_bare ps qs g d))
      (subst (λ (es : List (Name × Bound)). IsSaidAlike ps qs (pure (over ps (with_exports (speak_of g d) (g.exports ++ e ∷ [])))) (pure (with_exports (bare_over qs (speak_of g d)) es))) (with_values-more bare_bound g.exports e.0 e.1)
      (both (with_exports (speak_of g d) (g.exports ++ e ∷ []))))))))
    where
      e : Name × Bound
      e = (n.string, record { denoted = d; span = n.span })

      with_exports : State → List (Name × Bound) → State
      with_exports h es = record h { exports = es }

  export_one_alike : (s : Span) (d : Denoted) (g : State) (n : Name) → IsSaidAlike ps qs (export_one s d (over ps g) n) (export_one nowhere d (bare_over qs g) n)
  export_one_alike s d g n = then_alike _ _ (export_named_alike d n s nowhere) (λ e. exported_alike e false g (record { string = n; span = s }))

  export_left_alike : (g : State) (s dots : Span) (d : Denoted) (ns : List Name) → IsSaidAlike ps qs (export_left (over ps g) s dots d ns) (export_left (bare_over qs g) nowhere nowhere d ns)
  export_left_alike g s dots d [] = neither _ _
  export_left_alike g s dots d (n ∷ ns) = each_same {f = over ps} {g = bare_over qs} (export_one dots d) (export_one nowhere d) (export_one_alike dots d) g (n ∷ ns)

  export_as_alike : (g : State) (s : Span) (d : Denoted) (o : t.ExportOptions) → IsSaidAlike ps qs (export_as (over ps g) s d o) (export_as (bare_over qs g) nowhere d (bare_options o))
  export_as_alike g s d t.ExportOptions.none = then_alike _ _ (present_same (export_name d) ExportRequiresAs ExportRequiresAs s nowhere) (λ n. exported_alike d true g (record { string = n; span = s }))
  export_as_alike g s d (t.ExportOptions.spread dots) = next_alike (needs_instance_alike d InstanceOperation.Spread s nowhere)
      (subst (λ (ns : List Name). IsSaidAlike ps qs (export_left (over ps g) s dots d (filter (λ n. not (is_some (value_at g.exports n))) (names_of (exports_of d.item)))) (export_left (bare_over qs g) nowhere nowhere d ns))
      (sym (left_bare g.exports (names_of (exports_of d.item)))) (export_left_alike g s dots d (filter (λ n. not (is_some (value_at g.exports n))) (names_of (exports_of d.item)))))
  export_as_alike g s d (t.ExportOptions.rename n) = subst (λ (i : t.Ident). IsSaidAlike ps qs (exported d false (over ps g) (written_name n)) (exported d false (bare_over qs g) i)) (sym (written_bare n)) (exported_alike d false g (written_name n))

  -- ---- all

  statement_alike : (g : State) (x : t.Statement) → AreHeld ps qs (in_statement x) (tracks_in_statement x) → IsSaidAlike ps qs (statement (over ps g) x) (statement (bare_over qs g) (bare_statement x))
  statement_alike g (t.Statement.import x) h = import_alike g x h.0
  statement_alike g (t.Statement.ty x) h = then_alike _ _ (stated_alike g _ (λ c. type_statement c (bare_type_statement x)) (type_statement_alike (left_context g) (worlds_of qs) x h.0))
      (λ y. subst (λ (i : t.Ident). IsSaidAlike ps qs (declaration (over ps g) (declared_id x) y) (declaration (bare_over qs g) i y)) (sym (declared_bare x)) (declaration_alike g (declared_id x) y))
  statement_alike g (t.Statement.let_ x) h = then_alike _ _ (denote_alike ps qs g x.expr h) (λ r. bound_alike ps qs r.0 x.id r.1)
  statement_alike g (t.Statement.export x) h = then_alike _ _ (denote_alike ps qs g x.expr h)
      (λ r. subst (λ (z : Span). IsSaidAlike ps qs (export_as (over ps r.0) (expr_span x.expr) r.1 x.options) (export_as (bare_over qs r.0) z r.1 (bare_options x.options))) (sym (expr_span_bare x.expr)) (export_as_alike r.0 (expr_span x.expr) r.1 x.options))

  all_alike : (g : State) (xs : List t.Statement) → AreHeld ps qs (flat_map in_statement xs) (flat_map tracks_in_statement xs) → IsSaidAlike ps qs (each statement (over ps g) xs) (each statement (bare_over qs g) (map bare_statement xs))
  all_alike g [] h = both g
  all_alike g (x ∷ xs) h =
      then_alike _ _ (statement_alike g x (front_held ps qs (in_statement x) (flat_map in_statement xs) (tracks_in_statement x) (flat_map tracks_in_statement xs) h))
      (λ q. all_alike q xs (back_held ps qs (in_statement x) (flat_map in_statement xs) (tracks_in_statement x) (flat_map tracks_in_statement xs) h))

  pub statements_alike : (d : t.Document) → AreHeld ps qs (flat_map in_statement d.statements) (tracks_named d) → IsSaidAlike ps qs (statements d ps) (statements (bare d) qs)
  statements_alike d h = all_alike (start d ps) d.statements h
