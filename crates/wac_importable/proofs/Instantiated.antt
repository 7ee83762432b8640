-- Each package that a document instantiates is named in one of its `new`s.
use Rattle.std.specs.Prelude.{not, ◌||◌, is_none, ⊤, bytes_eq, option_map, if◌then◌else◌}
use Rattle.std.specs.List.{All, list_any}
use Rattle.std.proofs.lemmas.List.Elements.{All-head, All-tail}
use Rattle.std.proofs.Common.{◌≡◌, ℕ, Bool, true, false, List, [], ◌∷◌, ◌++◌, map, Option, Some, None, Ok, refl, sym, subst}
use Rattle.semver.specs.Parse.{Parts}
use Rattle.wac_types_base.specs.declared.item.ExternKind.{ExternKind}
use Rattle.wac_types_base.specs.Entries.{value_at, names_of}
use Rattle.wac_types_base.specs.Graph.{Among}
use Rattle.wac_types_base.specs.Stated.{Stated, promote, imports_of}
use Rattle.wac_types_names.specs.Keys.{Key}
use Rattle.wac_composition.specs.Composition.{imported, defined}
use Rattle.wac_parser_tree.specs.Trees as t
use Rattle.wac_parser_tree.specs.Trees.{Span}
use Rattle.wac_parser_tree.specs.Accessors.{argument_name_span as argument_span, postfix_expr_span as postfix_span, primary_expr_span as primary_span}
use Rattle.wac_parser_grammar.specs.PathsOfTrees.{EachInExpr, EachInPrimary, EachInNew, EachInArgument, EachInNamed, EachInNested, EachInArguments, EachInStatement, EachInDocument}
use Rattle.wac_parser_refusals.specs.declared.error.InstanceOperation.{InstanceOperation}
use Rattle.wac_parser_refusals.specs.Causes.{Answer, pure, unless_clear, present, each, InvalidExternName, ExportRequiresAs, FillArgumentNotLast, UnknownPackage}
use Rattle.wac_parser_declare.specs.Packages.{Content}
use Rattle.wac_parser_declare.specs.Scope.{bind, world_of_package}
use Rattle.wac_parser_declare.specs.Worlds.{type_statement}
use Rattle.wac_parser_resolve.specs.Ascribing.{Denoted, Made, Import, State, start, root_scope, context, denoted_by, bound, is_projection, same_origin, speak_of, worlds_of}
use Rattle.wac_parser_resolve.specs.Choosing.{greatest_on}
use Rattle.wac_parser_resolve.specs.Denoting.{Given, needs_instance, export_named, access_by, spoken, access, accesses, add_given, inferred_name, argument_name, left_names, spread_given, spread_all, spread_one, spreads_of, argument_fits, complete, is_filled, is_last, with_made, finished, key_named, version_key, new_package, denote, primary, nested, new_instance, arguments, one_argument, named_argument}
use Rattle.wac_types_names.specs.InterfaceNames.{is_exportable, is_extern_name}
use Rattle.wac_parser_resolve.specs.Saying.{asked, import_name, import_called, not_imported, no_definition, new_export, export_name, written_name, with_import, import_statement, not_exported, with_definition, declaration, declared_id, export_as, exported, export_one, export_left, expr_span, statement, statements}
use Rattle.wac_parser_resolve.specs.Meeting.{target, resolved}
use Rattle.wac_parser_resolve.proofs.Answers.{err_ok, ok_of, then_ok, ok_is, each_keeps}
use Rattle.wac_parser_resolve.proofs.Numbers.{each_more}

-- names of packages, of which something holds that makes their keys so
module _ (Holds : Key → Type 0) (Name : t.PackageName → Option (List ℕ) → Type 0) (Path : t.PackagePath → Type 0) (named : (p : t.PackageName) → Name p None → Holds (p.name, p.version))
    (chosen : (p : t.PackageName) (track : List ℕ) (ks : List Key) (v : Parts) → Name p (Some track) → greatest_on ks p.name track ≡ Some v → Holds (version_key p.name v)) where
  -- each instance is of such a package
  abbrev pub AreOfSuch : State → Type 0
  AreOfSuch g = (m : Made) → Among m g.made → Holds m.key

  -- ---- what is spoken of, accessed and spread makes none

  speaking : (g : State) (d : Denoted) → AreOfSuch g → AreOfSuch (speak_of g d)
  speaking g d f = go (not (is_projection d.origin) || list_any (λ (e : Denoted). same_origin e.origin d.origin) g.aliases)
    where
      go : (b : Bool) → AreOfSuch (if b then g else record g { aliases = g.aliases ++ d ∷ [] })
      go true = f
      go false = f

  saying : (g : State) (q : Answer Denoted) (r : State × Denoted) → AreOfSuch g → Ok r ≡ spoken g q → AreOfSuch r.0
  saying g q r f e = let a = ok_of q _ r e in subst (λ (p : State × Denoted). AreOfSuch p.0) (sym (ok_is r (speak_of g a.0, a.0) a.2)) (speaking g a.0 f)

  accessing : (s : Span) (g : State) (d : Denoted) (xs : List t.PostfixExpr) (r : State × Denoted) → AreOfSuch g → Ok r ≡ accesses s g d xs → AreOfSuch r.0
  accessing s g d [] r f e = subst (λ (q : State × Denoted). AreOfSuch q.0) (sym (ok_is r (g, d) e)) f
  accessing s g d (x ∷ xs) r f e =
      let a = ok_of (access s g d x) _ r e in
      accessing (postfix_span x) a.0.0 a.0.1 xs r (saying g (access_by d x) a.0 f (then_ok (needs_instance d InstanceOperation.Access s) _ a.0 (sym a.1))) a.2

  spreading_name : (s : Span) (d : Denoted) (q r : State × List Given) (n : List ℕ) → AreOfSuch q.0 → spread_given s d q n ≡ Ok r → AreOfSuch r.0
  spreading_name s d q r n f e =
      let a = ok_of (spoken q.0 (export_named d n s)) _ r (sym e) in
      subst (λ (p : State × List Given). AreOfSuch p.0) (sym (ok_is r (a.0.0, q.1 ++ record { name = n; denoted = a.0.1; span = s } ∷ []) a.2)) (saying q.0 (export_named d n s) a.0 f (sym a.1))

  spreading_names : (s : Span) (d : Denoted) (q r : State × List Given) (ns : List (List ℕ)) → AreOfSuch q.0 → Ok r ≡ spread_all s d q ns → AreOfSuch r.0
  spreading_names s d q r [] f e = absurd (err_ok _ r e)
  spreading_names s d q r (n ∷ ns) f e = each_keeps (spread_given s d) (λ (p : State × List Given). AreOfSuch p.0) (spreading_name s d) q r (n ∷ ns) f e

  spreading : (ns : List (List ℕ)) (q r : State × List Given) (i : t.Ident) → AreOfSuch q.0 → spread_one ns q i ≡ Ok r → AreOfSuch r.0
  spreading ns q r i f e =
      let a = ok_of (denoted_by q.0 i) _ r (sym e) in
      spreading_names i.span a.0 q r (left_names q.1 ns a.0.item) f (then_ok (needs_instance a.0 InstanceOperation.Spread i.span) _ r a.2)

  -- ---- a `new` makes one, of the package that it names

  key_holds : (ks : List Key) (p : t.PackageName) (track : Option (List ℕ)) (k : Key) → Name p track → Ok k ≡ key_named ks p track → Holds k
  key_holds ks p None k n e = subst Holds (sym (ok_is k (p.name, p.version) e)) (named p n)
  key_holds ks p (Some track) k n e = by (greatest_on ks p.name track) refl e
    where
      by : (o : Option Parts) → greatest_on ks p.name track ≡ o → Ok k ≡ present (option_map (version_key p.name) o) (UnknownPackage p.name) p.span → Holds k
      by None g e = absurd (err_ok _ k e)
      by (Some v) g e = subst Holds (sym (ok_is k (version_key p.name v) e)) (chosen p track ks v n g)

  new_holds : (g : State) (p : t.PackageName) (track : Option (List ℕ)) (x : Key × Stated) → Name p track → Ok x ≡ new_package g p track → Holds x.0
  new_holds g p track x n e =
      let y = then_ok (unless_clear (bytes_eq p.name g.own.name) (UnknownPackage p.name) p.span) _ x e in
      let k = ok_of (key_named (names_of g.packages) p track) _ x y in
      let w = ok_of (world_of_package (worlds_of g.packages) k.0 p.span) _ x k.2 in
      subst (λ (q : Key × Stated). Holds q.0) (sym (ok_is x (k.0, w.0) w.2)) (key_holds (names_of g.packages) p track k.0 n (sym k.1))

  finishing : (g : State) (p : t.PackageName) (k : Key) (w : Stated) (gs : List Given) (b : Bool) (r : State × Denoted) → Holds k → AreOfSuch g → Ok r ≡ finished g p k w gs b → AreOfSuch r.0
  finishing g p k w gs b r n f e =
      let x = then_ok (each (argument_fits k w) tt gs) _ r e in
      let y = then_ok (complete b p gs (names_of (imports_of w))) _ r x in
      let m : Made = record { key = k; world = w; arguments = map (λ (a : Given). (a.name, a.denoted)) gs; span = p.span } in
      subst (λ (q : State × Denoted). AreOfSuch q.0) (sym (ok_is r (with_made g m) y)) (each_more (λ (z : Made). Holds z.key) g.made m f n)

  mutual
    denoting : (g : State) (x : t.Expr) (r : State × Denoted) → EachInExpr Name x → AreOfSuch g → Ok r ≡ denote g x → AreOfSuch r.0
    denoting g (t.Expr.expr s p xs) r n f e =
        let a = ok_of (primary g p) _ r e in
        accessing (primary_span p) a.0.0 a.0.1 xs r (primary_denoting g p a.0 n f (sym a.1)) a.2

    primary_denoting : (g : State) (x : t.PrimaryExpr) (r : State × Denoted) → EachInPrimary Name x → AreOfSuch g → Ok r ≡ primary g x → AreOfSuch r.0
    primary_denoting g (t.PrimaryExpr.ident i) r n f e = let a = ok_of (denoted_by g i) _ r e in subst (λ (q : State × Denoted). AreOfSuch q.0) (sym (ok_is r (g, a.0) a.2)) f
    primary_denoting g (t.PrimaryExpr.nested x) r n f e = nested_denoting g x r n f e
    primary_denoting g (t.PrimaryExpr.new x) r n f e = new_denoting g x r n f e

    nested_denoting : (g : State) (x : t.NestedExpr) (r : State × Denoted) → EachInNested Name x → AreOfSuch g → Ok r ≡ nested g x → AreOfSuch r.0
    nested_denoting g (t.NestedExpr.nested_expr s x) r n f e = denoting g x r n f e

    new_denoting : (g : State) (x : t.NewExpr) (r : State × Denoted) → EachInNew Name x → AreOfSuch g → Ok r ≡ new_instance g x → AreOfSuch r.0
    new_denoting g (t.NewExpr.new_expr s p track xs) r n f e =
        let a = ok_of (new_package g p track) _ r e in
        let ns = names_of (imports_of a.0.1) in
        let b = ok_of (arguments g ns [] xs) _ r a.2 in
        let d = ok_of (each (spread_one ns) b.0 (spreads_of xs)) _ r b.2 in
        let passed = arguments_denoting g ns [] xs b.0 n.1 f (sym b.1) in
        finishing d.0.0 p a.0.0 a.0.1 d.0.1 (is_filled xs) r (new_holds g p track a.0 n.0 (sym a.1)) (each_keeps (spread_one ns) (λ (q : State × List Given). AreOfSuch q.0) (spreading ns) b.0 d.0 (spreads_of xs) passed (sym d.1)) d.2

    arguments_denoting : (g : State) (ns : List (List ℕ)) (gs : List Given) (xs : t.Arguments) (r : State × List Given) → EachInArguments Name xs → AreOfSuch g → Ok r ≡ arguments g ns gs xs → AreOfSuch r.0
    arguments_denoting g ns gs t.Arguments.no_arguments r n f e = subst (λ (q : State × List Given). AreOfSuch q.0) (sym (ok_is r (g, gs) e)) f
    arguments_denoting g ns gs (t.Arguments.argument x xs) r n f e =
        let a = ok_of (one_argument g ns gs x (is_last xs)) _ r e in
        arguments_denoting a.0.0 ns a.0.1 xs r n.1 (argument_denoting g ns gs x (is_last xs) a.0 n.0 f (sym a.1)) a.2

    argument_denoting : (g : State) (ns : List (List ℕ)) (gs : List Given) (x : t.InstantiationArgument) (last : Bool) (r : State × List Given) → EachInArgument Name x → AreOfSuch g → Ok r ≡ one_argument g ns gs x last → AreOfSuch r.0
    argument_denoting g ns gs (t.InstantiationArgument.inferred i) last r n f e =
        let a = ok_of (denoted_by g i) _ r e in
        let b = ok_of (add_given gs (record { name = inferred_name ns i a.0; denoted = a.0; span = i.span })) _ r a.2 in
        subst (λ (q : State × List Given). AreOfSuch q.0) (sym (ok_is r (g, b.0) b.2)) f
    argument_denoting g ns gs (t.InstantiationArgument.spread i) last r n f e = subst (λ (q : State × List Given). AreOfSuch q.0) (sym (ok_is r (g, gs) e)) f
    argument_denoting g ns gs (t.InstantiationArgument.fill s) last r n f e =
        subst (λ (q : State × List Given). AreOfSuch q.0) (sym (ok_is r (g, gs) (then_ok {A = ⊤} (unless_clear (not last) FillArgumentNotLast s) (pure (g, gs)) r e))) f
    argument_denoting g ns gs (t.InstantiationArgument.named x) last r n f e = named_denoting g ns gs x r n f e

    named_denoting : (g : State) (ns : List (List ℕ)) (gs : List Given) (x : t.NamedInstantiationArgument) (r : State × List Given) → EachInNamed Name x → AreOfSuch g → Ok r ≡ named_argument g ns gs x → AreOfSuch r.0
    named_denoting g ns gs (t.NamedInstantiationArgument.named_argument name x) r n f e =
        let a = ok_of (denote g x) _ r e in
        let b = ok_of (add_given gs (record { name = argument_name ns name; denoted = a.0.1; span = argument_span name })) _ r a.2 in
        subst (λ (q : State × List Given). AreOfSuch q.0) (sym (ok_is r (a.0.0, b.0) b.2)) (denoting g x a.0 n f (sym a.1))

  -- ---- exports, imports and declarations make none

  exporting_as : (d : Denoted) (b : Bool) (g : State) (n : t.Ident) (h : State) → AreOfSuch g → Ok h ≡ exported d b g n → AreOfSuch h
  exporting_as d b g n h f e =
      let x = then_ok (no_definition n b (value_at g.root n.string)) _ h e in
      let y = then_ok (new_export g n b (value_at g.exports n.string)) _ h x in
      let z = then_ok (unless_clear (not (is_exportable n.string)) (InvalidExternName n.string ExternKind.Export) n.span) _ h y in
      subst AreOfSuch (sym (ok_is h (record (speak_of g d) { exports = g.exports ++ (n.string, record { denoted = d; span = n.span }) ∷ [] }) z)) (speaking g d f)

  exporting_one : (dots : Span) (d : Denoted) (k l : State) (n : List ℕ) → AreOfSuch k → export_one dots d k n ≡ Ok l → AreOfSuch l
  exporting_one dots d k l n f e = let a = ok_of (export_named d n dots) _ l (sym e) in exporting_as a.0 false k (record { string = n; span = dots }) l f a.2

  exporting_left : (g : State) (s dots : Span) (d : Denoted) (ns : List (List ℕ)) (h : State) → AreOfSuch g → Ok h ≡ export_left g s dots d ns → AreOfSuch h
  exporting_left g s dots d [] h f e = absurd (err_ok _ h e)
  exporting_left g s dots d (n ∷ ns) h f e = each_keeps (export_one dots d) AreOfSuch (exporting_one dots d) g h (n ∷ ns) f e

  exporting : (g : State) (s : Span) (d : Denoted) (o : t.ExportOptions) (h : State) → AreOfSuch g → Ok h ≡ export_as g s d o → AreOfSuch h
  exporting g s d (t.ExportOptions.rename n) h f e = exporting_as d false g (written_name n) h f e
  exporting g s d t.ExportOptions.none h f e =
      let a = ok_of (present (export_name d) ExportRequiresAs s) _ h e in exporting_as d true g (record { string = a.0; span = s }) h f a.2
  exporting g s d (t.ExportOptions.spread dots) h f e = exporting_left g s dots d _ h f (then_ok (needs_instance d InstanceOperation.Spread s) _ h e)

  binding : (g : State) (i : t.Ident) (d : Denoted) (h : State) → AreOfSuch g → Ok h ≡ bound g i d → AreOfSuch h
  binding g i d h f e =
      subst AreOfSuch (sym (ok_is h (record g { root = g.root ++ (i.string, record { denoted = d; span = i.span }) ∷ [] }) (then_ok (bind (root_scope g) i d.item) _ h e))) f

  importing : (g : State) (x : t.ImportStatement) (h : State) → AreOfSuch g → Ok h ≡ import_statement g x → AreOfSuch h
  importing g x h f e =
      let n = ok_of (import_name g x) _ h e in
      let item = ok_of (asked g x.ty) _ h n.2 in
      let y = then_ok (not_imported (import_called g.imports n.0.string) n.0 (is_none x.name)) _ h item.2 in
      let z = then_ok (unless_clear (not (is_extern_name n.0.string)) (InvalidExternName n.0.string ExternKind.Import) n.0.span) _ h y in
      let one : Import = record { name = n.0.string; item = promote item.0; span = n.0.span; id_span = x.id.span } in
      binding (with_import g one) x.id (record { origin = imported n.0.string; item = promote item.0 }) h f z

  declaring : (g : State) (i : t.Ident) (x : Stated) (h : State) → AreOfSuch g → Ok h ≡ declaration g i x → AreOfSuch h
  declaring g i x h f e =
      binding (with_definition g i x) i (record { origin = defined i.string x; item = x }) h f
      (then_ok (not_exported g (value_at g.exports i.string) i) _ h (then_ok (unless_clear (not (is_extern_name i.string)) (InvalidExternName i.string ExternKind.Export) i.span) _ h e))

  -- ---- statements

  stating : (g h : State) (x : t.Statement) → EachInStatement Name Path x → AreOfSuch g → statement g x ≡ Ok h → AreOfSuch h
  stating g h (t.Statement.import x) n f e = importing g x h f (sym e)
  stating g h (t.Statement.ty x) n f e = let a = ok_of (type_statement (context g) x) _ h (sym e) in declaring g (declared_id x) a.0 h f a.2
  stating g h (t.Statement.let_ x) n f e = let a = ok_of (denote g x.expr) _ h (sym e) in binding a.0.0 x.id a.0.1 h (denoting g x.expr a.0 n f (sym a.1)) a.2
  stating g h (t.Statement.export x) n f e =
      let a = ok_of (denote g x.expr) _ h (sym e) in exporting a.0.0 (expr_span x.expr) a.0.1 x.options h (denoting g x.expr a.0 n f (sym a.1)) a.2

  all_stating : (g h : State) (xs : List t.Statement) → All (EachInStatement Name Path) xs → AreOfSuch g → Ok h ≡ each statement g xs → AreOfSuch h
  all_stating g h [] n f e = subst AreOfSuch (sym (ok_is h g e)) f
  all_stating g h (x ∷ xs) n f e =
      let a = ok_of (statement g x) _ h e in
      all_stating a.0 h xs (All-tail (EachInStatement Name Path) x xs n) (stating g a.0 x (All-head (EachInStatement Name Path) x xs n) f a.1) a.2

  pub instances_are : (d : t.Document) → EachInDocument Name Path d → (ps : List (Key × Content)) (r : State × Option Stated) → resolved d ps ≡ Ok r → AreOfSuch r.0
  instances_are d n ps r e =
      let g = ok_of (statements d ps) _ r (sym e) in
      let w = ok_of (target g.0 d.directive.targets) _ r g.2 in
      subst (λ (q : State × Option Stated). AreOfSuch q.0) (sym (ok_is r (g.0, w.0) w.2)) (all_stating (start d ps) g.0 d.statements n.1 (λ m a. absurd a) (sym g.1))
