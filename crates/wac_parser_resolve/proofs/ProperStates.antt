-- What the statements of a document say over proper packages is proper, and each definition is a type.
use Rattle.std.specs.Prelude.{◌++◌, map, slice_get, option_map, not, ⊤, if◌then◌else◌, ◌||◌, is_none}
use Rattle.std.proofs.lemmas.Option.{none-some, same_Some}
use Rattle.std.specs.List.{list_any}
use Rattle.std.proofs.Common.{◌≡◌, ℕ, zero, suc, List, [], ◌∷◌, Bool, true, false, Option, Some, None, Ok, inl, inr, refl, sym, ap, subst, ◌∙◌}
use Rattle.wac_types_base.specs.declared.item.ExternKind.{ExternKind}
use Rattle.wac_types_names.specs.Keys.{Key}
use Rattle.wac_types_base.specs.Entries.{Name, value_at, names_of}
use Rattle.wac_types_base.specs.Graph.{node, Among}
use Rattle.wac_types_base.specs.Collection as s
use Rattle.wac_types_base.specs.Collection.{Shape}
use Rattle.wac_types_base.specs.Stated.{Stated, Kind, IsFunction, IsInstance, IsComponent, IsModule, IsValue, IsResource, IsFunctionType, IsValueType, IsInterface, IsWorld, IsModuleType, shape_kind, type_kind, kind_of, exports_of, imports_of, identifier_of, promote, promote_by, folded_row, shape_of}
use Rattle.wac_types_base.specs.Tree.{tree}
use Rattle.wac_types_base.proofs.Stating.{value_with}
use Rattle.wac_nesting.specs.Given.{IsDefinition}
use Rattle.wac_composition.specs.Composition as c
use Rattle.wac_composition.specs.Composition.{Origin, imported, defined, Placed, Composition}
use Rattle.wac_composition.specs.Asks.{Ask, asks_of}
use Rattle.wac_composition.specs.Sound.{IsStraight}
use Rattle.wac_composition.proofs.Lists.{mapped_among}
use Rattle.wac_types_written.specs.Written.{is_type, written_at, written, written_by, written_definition}
use Rattle.wac_parser_tree.specs.Trees as t
use Rattle.wac_parser_tree.specs.Trees.{Span}
use Rattle.wac_parser_refusals.specs.declared.error.InstanceOperation.{InstanceOperation}
use Rattle.wac_parser_refusals.specs.Causes.{Answer, pure, unless_clear, present, each, InvalidExternName, ExportRequiresAs, FillArgumentNotLast}
use Rattle.wac_parser_declare.specs.Scope.{Meant, bind}
use Rattle.wac_parser_declare.specs.Worlds.{type_statement}
use Rattle.wac_parser_resolve.specs.Ascribing.{Denoted, Made, Import, Bound, State, start, meant_by, root_scope, context, denoted_by, bound, is_projection, same_origin, speak_of, worlds_of}
use Rattle.wac_parser_tree.specs.Accessors.{argument_name_span as argument_span, postfix_expr_span as postfix_span, primary_expr_span as primary_span}
use Rattle.wac_parser_resolve.specs.Denoting.{Given, needs_instance, export_named, access_by, spoken as spoken_of, access, accesses, add_given, inferred_name, argument_name, left_names, spread_given, spread_all, spread_one, spreads_of, argument_fits, complete, is_filled, is_last, with_made, finished, new_package, denote, primary, nested, new_instance, arguments, one_argument, named_argument}
use Rattle.wac_types_names.specs.InterfaceNames.{is_exportable, is_extern_name}
use Rattle.wac_parser_resolve.specs.Saying.{asked, import_name, import_called, not_imported, no_definition, new_export, export_name, written_name, with_import, import_statement, not_exported, with_definition, declaration, declared_id, export_as, exported, export_one, export_left, expr_span, statement, statements}
use Rattle.wac_parser_resolve.specs.Ascribed.{Asker, numbered, placed_import, placed_definition, composition}
use Rattle.wac_parser_resolve.specs.Proper.{Proper, AreProper}
use Rattle.wac_parser_resolve.proofs.Answers.{err_ok, ok_of, then_ok, ok_is, each_keeps}
use Rattle.wac_parser_resolve.proofs.Numbers.{each_more}
use Rattle.wac_parser_resolve.proofs.Sound.{Packages, Has, an_import, an_instance, an_export, a_definition, Sound, statement_sound}
use Rattle.wac_parser_resolve.proofs.Proper.{exports_proper, item_proper, untyped_proper, instance_proper, straight}
use Rattle.wac_parser_resolve.proofs.ProperAsks.{asks_proper}
use Rattle.wac_parser_resolve.proofs.ProperTypes.{IsTyped, ScopeProper, named_proper, free_proper, IsDeclared}
use Rattle.wac_parser_resolve.proofs.ProperBodies.{ContextProper, under_proper, path_proper, inline_proper, statement_declared}

-- what import statements ask, and what is defined
pub record Formed (g : State) : Type 0 where
  pub imports : (i : Import) → Among i g.imports → Proper i.item
  pub definitions : (e : Name × Stated) → Among e g.definitions → IsDeclared e.1

-- ---- expressions add neither

spoken : (g : State) (d : Denoted) → Formed g → Formed (speak_of g d)
spoken g d f = go (not (is_projection d.origin) || list_any (λ (e : Denoted). same_origin e.origin d.origin) g.aliases)
  where
    go : (b : Bool) → Formed (if b then g else record g { aliases = g.aliases ++ d ∷ [] })
    go true = f
    go false = record { imports = f.imports; definitions = f.definitions }

said_formed : (g : State) (q : Answer Denoted) (r : State × Denoted) → Formed g → Ok r ≡ spoken_of g q → Formed r.0
said_formed g q r f e = let a = ok_of q _ r e in subst (λ (p : State × Denoted). Formed p.0) (sym (ok_is r (speak_of g a.0, a.0) a.2)) (spoken g a.0 f)

accesses_formed : (s : Span) (g : State) (d : Denoted) (xs : List t.PostfixExpr) (r : State × Denoted) → Formed g → Ok r ≡ accesses s g d xs → Formed r.0
accesses_formed s g d [] r f e = subst (λ (q : State × Denoted). Formed q.0) (sym (ok_is r (g, d) e)) f
accesses_formed s g d (x ∷ xs) r f e =
    let a = ok_of (access s g d x) _ r e in
    accesses_formed (postfix_span x) a.0.0 a.0.1 xs r (said_formed g (access_by d x) a.0 f (then_ok (needs_instance d InstanceOperation.Access s) _ a.0 (sym a.1))) a.2

one_spread : (s : Span) (d : Denoted) (q r : State × List Given) (n : Name) → Formed q.0 → spread_given s d q n ≡ Ok r → Formed r.0
one_spread s d q r n f e =
    let a = ok_of (spoken_of q.0 (export_named d n s)) _ r (sym e) in
    subst (λ (p : State × List Given). Formed p.0) (sym (ok_is r (a.0.0, q.1 ++ record { name = n; denoted = a.0.1; span = s } ∷ []) a.2)) (said_formed q.0 (export_named d n s) a.0 f (sym a.1))

all_spread : (s : Span) (d : Denoted) (q r : State × List Given) (ns : List Name) → Formed q.0 → Ok r ≡ spread_all s d q ns → Formed r.0
all_spread s d q r [] f e = absurd (err_ok _ r e)
all_spread s d q r (n ∷ ns) f e = each_keeps (spread_given s d) (λ (p : State × List Given). Formed p.0) (one_spread s d) q r (n ∷ ns) f e

spread_formed : (ns : List Name) (q r : State × List Given) (i : t.Ident) → Formed q.0 → spread_one ns q i ≡ Ok r → Formed r.0
spread_formed ns q r i f e =
    let a = ok_of (denoted_by q.0 i) _ r (sym e) in
    all_spread i.span a.0 q r (left_names q.1 ns a.0.item) f (then_ok (needs_instance a.0 InstanceOperation.Spread i.span) _ r a.2)

finished_formed : (g : State) (p : t.PackageName) (k : Key) (w : Stated) (gs : List Given) (b : Bool) (r : State × Denoted) → Formed g → Ok r ≡ finished g p k w gs b → Formed r.0
finished_formed g p k w gs b r f e =
    let x = then_ok (each (argument_fits k w) tt gs) _ r e in
    let y = then_ok (complete b p gs (names_of (imports_of w))) _ r x in
    let m : Made = record { key = k; world = w; arguments = map (λ (a : Given). (a.name, a.denoted)) gs; span = p.span } in
    subst (λ (q : State × Denoted). Formed q.0) (sym (ok_is r (with_made g m) y)) (record { imports = f.imports; definitions = f.definitions })

mutual
  denote_formed : (g : State) (x : t.Expr) (r : State × Denoted) → Formed g → Ok r ≡ denote g x → Formed r.0
  denote_formed g (t.expr s p xs) r f e =
      let a = ok_of (primary g p) _ r e in
      accesses_formed (primary_span p) a.0.0 a.0.1 xs r (primary_formed g p a.0 f (sym a.1)) a.2

  primary_formed : (g : State) (x : t.PrimaryExpr) (r : State × Denoted) → Formed g → Ok r ≡ primary g x → Formed r.0
  primary_formed g (t.PrimaryExpr.ident i) r f e = let a = ok_of (denoted_by g i) _ r e in subst (λ (q : State × Denoted). Formed q.0) (sym (ok_is r (g, a.0) a.2)) f
  primary_formed g (t.PrimaryExpr.nested x) r f e = nested_formed g x r f e
  primary_formed g (t.PrimaryExpr.new x) r f e = new_formed g x r f e

  nested_formed : (g : State) (x : t.NestedExpr) (r : State × Denoted) → Formed g → Ok r ≡ nested g x → Formed r.0
  nested_formed g (t.nested_expr s x) r f e = denote_formed g x r f e

  new_formed : (g : State) (x : t.NewExpr) (r : State × Denoted) → Formed g → Ok r ≡ new_instance g x → Formed r.0
  new_formed g (t.new_expr s p track xs) r f e =
      let a = ok_of (new_package g p track) _ r e in
      let ns = names_of (imports_of a.0.1) in
      let b = ok_of (arguments g ns [] xs) _ r a.2 in
      let d = ok_of (each (spread_one ns) b.0 (spreads_of xs)) _ r b.2 in
      finished_formed d.0.0 p a.0.0 a.0.1 d.0.1 (is_filled xs) r (each_keeps (spread_one ns) (λ (q : State × List Given). Formed q.0) (spread_formed ns) b.0 d.0 (spreads_of xs) (arguments_formed g ns [] xs b.0 f (sym b.1)) (sym d.1)) d.2

  arguments_formed : (g : State) (ns : List Name) (gs : List Given) (xs : t.Arguments) (r : State × List Given) → Formed g → Ok r ≡ arguments g ns gs xs → Formed r.0
  arguments_formed g ns gs t.no_arguments r f e = subst (λ (q : State × List Given). Formed q.0) (sym (ok_is r (g, gs) e)) f
  arguments_formed g ns gs (t.argument x xs) r f e =
      let a = ok_of (one_argument g ns gs x (is_last xs)) _ r e in
      arguments_formed a.0.0 ns a.0.1 xs r (one_formed g ns gs x (is_last xs) a.0 f (sym a.1)) a.2

  one_formed : (g : State) (ns : List Name) (gs : List Given) (x : t.InstantiationArgument) (last : Bool) (r : State × List Given) → Formed g → Ok r ≡ one_argument g ns gs x last → Formed r.0
  one_formed g ns gs (t.InstantiationArgument.inferred i) last r f e =
      let a = ok_of (denoted_by g i) _ r e in
      let b = ok_of (add_given gs (record { name = inferred_name ns i a.0; denoted = a.0; span = i.span })) _ r a.2 in
      subst (λ (q : State × List Given). Formed q.0) (sym (ok_is r (g, b.0) b.2)) f
  one_formed g ns gs (t.InstantiationArgument.spread i) last r f e = subst (λ (q : State × List Given). Formed q.0) (sym (ok_is r (g, gs) e)) f
  one_formed g ns gs (t.InstantiationArgument.fill s) last r f e =
      subst (λ (q : State × List Given). Formed q.0) (sym (ok_is r (g, gs) (then_ok {A = ⊤} (unless_clear (not last) FillArgumentNotLast s) (pure (g, gs)) r e))) f
  one_formed g ns gs (t.InstantiationArgument.named x) last r f e = named_formed g ns gs x r f e

  named_formed : (g : State) (ns : List Name) (gs : List Given) (x : t.NamedInstantiationArgument) (r : State × List Given) → Formed g → Ok r ≡ named_argument g ns gs x → Formed r.0
  named_formed g ns gs (t.named_argument n x) r f e =
      let a = ok_of (denote g x) _ r e in
      let b = ok_of (add_given gs (record { name = argument_name ns n; denoted = a.0.1; span = argument_span n })) _ r a.2 in
      subst (λ (q : State × List Given). Formed q.0) (sym (ok_is r (a.0.0, b.0) b.2)) (denote_formed g x a.0 f (sym a.1))

-- ---- exports add neither

exported_formed : (d : Denoted) (b : Bool) (g : State) (n : t.Ident) (h : State) → Formed g → Ok h ≡ exported d b g n → Formed h
exported_formed d b g n h f e =
    let x = then_ok (no_definition n b (value_at g.root n.string)) _ h e in
    let y = then_ok (new_export g n b (value_at g.exports n.string)) _ h x in
    let z = then_ok (unless_clear (not (is_exportable n.string)) (InvalidExternName n.string ExternKind.Export) n.span) _ h y in
    let k = spoken g d f in
    subst Formed (sym (ok_is h (record (speak_of g d) { exports = g.exports ++ (n.string, record { denoted = d; span = n.span }) ∷ [] }) z)) (record { imports = k.imports; definitions = k.definitions })

one_exported : (dots : Span) (d : Denoted) (k l : State) (n : Name) → Formed k → export_one dots d k n ≡ Ok l → Formed l
one_exported dots d k l n f e = let a = ok_of (export_named d n dots) _ l (sym e) in exported_formed a.0 false k (record { string = n; span = dots }) l f a.2

left_formed : (g : State) (s dots : Span) (d : Denoted) (ns : List Name) (h : State) → Formed g → Ok h ≡ export_left g s dots d ns → Formed h
left_formed g s dots d [] h f e = absurd (err_ok _ h e)
left_formed g s dots d (n ∷ ns) h f e = each_keeps (export_one dots d) Formed (one_exported dots d) g h (n ∷ ns) f e

export_formed : (g : State) (s : Span) (d : Denoted) (o : t.ExportOptions) (h : State) → Formed g → Ok h ≡ export_as g s d o → Formed h
export_formed g s d (t.ExportOptions.rename n) h f e = exported_formed d false g (written_name n) h f e
export_formed g s d t.ExportOptions.none h f e =
    let a = ok_of (present (export_name d) ExportRequiresAs s) _ h e in exported_formed d true g (record { string = a.0; span = s }) h f a.2
export_formed g s d (t.ExportOptions.spread dots) h f e = left_formed g s dots d _ h f (then_ok (needs_instance d InstanceOperation.Spread s) _ h e)

-- ---- what names of the root mean

bound_formed : (g : State) (i : t.Ident) (d : Denoted) (h : State) → Formed g → Ok h ≡ bound g i d → Formed h
bound_formed g i d h f e =
    subst Formed (sym (ok_is h (record g { root = g.root ++ (i.string, record { denoted = d; span = i.span }) ∷ [] }) (then_ok (bind (root_scope g) i d.item) _ h e))) (record { imports = f.imports; definitions = f.definitions })

promoted : (k : Kind) (x : Stated) → Proper x → Proper (promote_by k x)
promoted IsFunctionType x h = untyped_proper x h
promoted IsInterface x h = untyped_proper x h
promoted IsWorld x h = untyped_proper x h
promoted IsFunction x h = h
promoted IsInstance x h = h
promoted IsComponent x h = h
promoted IsModule x h = h
promoted IsValue x h = h
promoted IsResource x h = h
promoted IsValueType x h = h
promoted IsModuleType x h = h

module _ (ps : Packages) (packages : AreProper (worlds_of ps)) where
  module _ (g : State) (s : Sound ps g) (f : Formed g) where
    has_proper : (o : Origin ℕ) (x : Stated) → Has g o x → Proper x
    has_proper o x (an_import i m) = f.imports i m
    has_proper o x (an_instance k m e) = instance_proper m.world (under_proper (worlds_of ps) m.key m.world packages (s.made k m e).known)
    has_proper o x (an_export p z n y h k e) = item_proper (exports_of z) n y (exports_proper z (has_proper p z h)) e
    has_proper o x (a_definition n y m) = (f.definitions (n, y) m).is

    root_proper : ScopeProper (root_scope g)
    root_proper n m e = go (value_at g.root n) refl (sym (value_with meant_by g.root n) ∙ e)
      where
        go : (o : Option Bound) → value_at g.root n ≡ o → option_map meant_by o ≡ Some m → Proper m.item
        go None q r = absurd (none-some _ r)
        go (Some b) q r = subst (λ (x : Meant). Proper x.item) (same_Some _ _ r) (has_proper b.denoted.origin b.denoted.item (s.root n b q))

    context_proper : ContextProper (context g)
    context_proper = record { packages = subst (λ qs. AreProper (worlds_of qs)) (sym s.same) packages; root = root_proper }

    asked_proper : (x : t.ImportType) (y : Stated) → Ok y ≡ asked g x → Proper y
    asked_proper (t.ImportType.package_path p) y e = path_proper (context g) p y context_proper e
    asked_proper (t.ImportType.func d) y e = free_proper (root_scope g) root_proper d y e
    asked_proper (t.ImportType.interface d) y e = inline_proper (context g) d y context_proper e
    asked_proper (t.ImportType.ident i) y e = named_proper (root_scope g) i y root_proper e

    import_formed : (x : t.ImportStatement) (h : State) → Ok h ≡ import_statement g x → Formed h
    import_formed x h e =
        let n = ok_of (import_name g x) _ h e in
        let item = ok_of (asked g x.ty) _ h n.2 in
        let y = then_ok (not_imported (import_called g.imports n.0.string) n.0 (is_none x.name)) _ h item.2 in
        let z = then_ok (unless_clear (not (is_extern_name n.0.string)) (InvalidExternName n.0.string ExternKind.Import) n.0.span) _ h y in
        let one : Import = record { name = n.0.string; item = promote item.0; span = n.0.span; id_span = x.id.span } in
        bound_formed (with_import g one) x.id (record { origin = imported n.0.string; item = promote item.0 }) h (record {
          imports = each_more (λ (i : Import). Proper i.item) g.imports one f.imports (promoted (kind_of item.0) item.0 (asked_proper x.ty item.0 (sym item.1)));
          definitions = f.definitions;
        }) z

    declaration_formed : (i : t.Ident) (x : Stated) (h : State) → IsDeclared x → Ok h ≡ declaration g i x → Formed h
    declaration_formed i x h d e =
        bound_formed (with_definition g i x) i (record { origin = defined i.string x; item = x }) h (record {
          imports = f.imports;
          definitions = each_more (λ (y : Name × Stated). IsDeclared y.1) g.definitions (i.string, x) f.definitions d;
        }) (then_ok (not_exported g (value_at g.exports i.string) i) _ h (then_ok (unless_clear (not (is_extern_name i.string)) (InvalidExternName i.string ExternKind.Export) i.span) _ h e))

    statement_formed : (h : State) (x : t.Statement) → statement g x ≡ Ok h → Formed h
    statement_formed h (t.Statement.import x) e = import_formed x h (sym e)
    statement_formed h (t.Statement.ty x) e =
        let a = ok_of (type_statement (context g) x) _ h (sym e) in
        declaration_formed (declared_id x) a.0 h (statement_declared (context g) x a.0 context_proper (sym a.1)) a.2
    statement_formed h (t.Statement.let_ x) e =
        let a = ok_of (denote g x.expr) _ h (sym e) in bound_formed a.0.0 x.id a.0.1 h (denote_formed g x.expr a.0 f (sym a.1)) a.2
    statement_formed h (t.Statement.export x) e =
        let a = ok_of (denote g x.expr) _ h (sym e) in export_formed a.0.0 (expr_span x.expr) a.0.1 x.options h (denote_formed g x.expr a.0 f (sym a.1)) a.2

  pub statements_formed : (d : t.Document) (g : State) → Ok g ≡ statements d ps → Formed g
  statements_formed d g e =
      (each_keeps statement (λ h. Sound ps h × Formed h) (λ k l x s q. (statement_sound ps k l x s.0 q, statement_formed k s.0 s.1 l x q)) (start d ps) g d.statements
      (record { same = refl; made = λ i m q. absurd (none-some _ q); root = λ n b q. absurd (none-some _ q); exports = λ x m. absurd m }, record { imports = λ i m. absurd m; definitions = λ e m. absurd m }) e).1

-- ---- the composition that is said is regular

-- what is asked has the tree of an instance only where it is one, and definitions are types
pub record IsRegular (x : Composition Asker ℕ) : Type 0 where
  pub straight : (a : Ask Asker) → Among a (asks_of x) → IsStraight a.item
  pub types : (d : Placed Asker) → Among d x.definitions → (is_type (kind_of d.item) ≡ true) × IsDefinition (tree (written_definition d.item))

numbered_world : (k : ℕ) (ms : List Made) → ((j : ℕ) (m : Made) → slice_get ms j ≡ Some m → Proper m.world) → (x : c.Made Asker ℕ) → Among x (numbered k ms) → Proper x.world
numbered_world k [] h x m = absurd m
numbered_world k (y ∷ ms) h x (inl e) = subst (λ (z : c.Made Asker ℕ). Proper z.world) (sym e) (h 0 y refl)
numbered_world k (y ∷ ms) h x (inr m) = numbered_world (suc k) ms (λ j z q. h (suc j) z q) x m

kind_is_type : (x : Shape) → is_type (type_kind x) ≡ true
kind_is_type (s.primitive p) = refl
kind_is_type s.tuple = refl
kind_is_type s.list = refl
kind_is_type (s.fixed_size_list n) = refl
kind_is_type s.option = refl
kind_is_type s.result = refl
kind_is_type (s.variant ns) = refl
kind_is_type (s.record_of ns) = refl
kind_is_type (s.flags ns) = refl
kind_is_type (s.enum ns) = refl
kind_is_type s.alias = refl
kind_is_type s.stream = refl
kind_is_type s.future = refl
kind_is_type (s.resource n) = refl
kind_is_type (s.resource_alias n) = refl
kind_is_type (s.func ps a) = refl
kind_is_type (s.interface i us es) = refl
kind_is_type (s.world i us is es) = refl
kind_is_type (s.module_type m) = refl
kind_is_type (s.type_of t) = refl
kind_is_type (s.borrow_of t) = refl
kind_is_type (s.own_of t) = refl

typed_kind : (x : Stated) → IsTyped x → is_type (kind_of x) ≡ true
typed_kind x y = ap (λ l. is_type (shape_kind l)) y.1 ∙ kind_is_type y.0

written_is : (x : Shape) (os : List (Option (Stated × Stated))) → IsDefinition (tree (written_at (s.type_of x) os))
written_is (s.primitive p) os = tt
written_is s.tuple os = tt
written_is s.list os = tt
written_is (s.fixed_size_list n) os = tt
written_is s.option os = tt
written_is s.result os = tt
written_is (s.variant ns) os = tt
written_is (s.record_of ns) os = tt
written_is (s.flags ns) os = tt
written_is (s.enum ns) os = tt
written_is s.alias os = tt
written_is s.stream os = tt
written_is s.future os = tt
written_is (s.resource n) os = tt
written_is (s.resource_alias n) os = tt
written_is (s.func ps a) os = tt
written_is (s.interface i us es) os = tt
written_is (s.world i us is es) os = tt
written_is (s.module_type m) os = tt
written_is (s.type_of t) os = tt
written_is (s.borrow_of t) os = tt
written_is (s.own_of t) os = tt

by_kind : (k : Kind) (i : Option Name) (x : Stated) → IsDefinition (tree x) → IsDefinition (tree (written_by k i x))
by_kind IsInterface (Some n) x h = tt
by_kind IsInterface None x h = h
by_kind IsWorld (Some n) x h = tt
by_kind IsWorld None x h = h
by_kind IsFunction i x h = h
by_kind IsInstance i x h = h
by_kind IsComponent i x h = h
by_kind IsModule i x h = h
by_kind IsValue i x h = h
by_kind IsResource i x h = h
by_kind IsFunctionType i x h = h
by_kind IsValueType i x h = h
by_kind IsModuleType i x h = h

pub typed_definition : (x : Stated) (l : Shape) → shape_of x ≡ s.type_of l → IsDefinition (tree (written_definition x))
typed_definition (node k ts) l e =
    by_kind (kind_of (node k ts)) (identifier_of (node k ts)) (written (node k ts))
    (subst (λ z. IsDefinition (tree (written_at z (folded_row written_at ts)))) (sym e) (written_is l (folded_row written_at ts)))

pub is_regular : (ps : Packages) → AreProper (worlds_of ps) → (g : State) → Sound ps g → Formed g → IsRegular (composition g)
is_regular ps packages g sound f = record {
  straight = λ a m. straight a.item (asks_proper (composition g)
      (λ i n. let r = mapped_among placed_import g.imports i n in subst (λ (x : Placed Asker). Proper x.item) (sym r.2) (f.imports r.0 r.1))
      (numbered_world zero g.made (λ j x e. under_proper (worlds_of ps) x.key x.world packages (sound.made j x e).known))
      (λ d n. let r = mapped_among placed_definition g.definitions d n in subst (λ (x : Placed Asker). Proper x.item) (sym r.2) (f.definitions r.0 r.1).is) a m);
  types = λ d m. let r = mapped_among placed_definition g.definitions d m in
      subst (λ (x : Placed Asker). (is_type (kind_of x.item) ≡ true) × IsDefinition (tree (written_definition x.item))) (sym r.2)
      (let ty = (f.definitions r.0 r.1).typed in (typed_kind r.0.1 ty, typed_definition r.0.1 ty.0 ty.1));
}
