-- What a document defines asks nothing.
use Rattle.std.specs.Prelude.{not, is_none}
use Rattle.std.proofs.Common.{◌≡◌, List, ◌∷◌, ◌++◌, [], Bool, true, false, Option, Some, None, Ok, refl, sym, ap, subst, ◌∙◌}
use Rattle.wac_types_base.specs.declared.item.ExternKind.{ExternKind}
use Rattle.wac_types_base.specs.declared.item.FuncKind.{FuncKind}
use Rattle.wac_types_base.specs.Entries.{Name, value_at}
use Rattle.wac_types_base.specs.Graph.{node, Among}
use Rattle.wac_types_base.specs.Collection as s
use Rattle.wac_types_base.specs.Collection.{Shape}
use Rattle.wac_types_base.specs.Stated.{Stated, Kind, IsFunction, IsInstance, IsComponent, IsModule, IsValue, IsResource, IsFunctionType, IsValueType, IsInterface, IsWorld, IsModuleType, kind_of, shape_kind, type_kind, identifier_of, as_type, untyped, promote, func_of, interface_of, world_of, leaf}
use Rattle.wac_composition.specs.Asks.{used_by_kind, used_by_definition}
use Rattle.wac_composition.specs.Composition.{imported, defined}
use Rattle.wac_parser_tree.specs.Trees as t
use Rattle.wac_parser_tree.specs.Trees.{Span}
use Rattle.wac_parser_refusals.specs.declared.error.InstanceOperation.{InstanceOperation}
use Rattle.wac_parser_refusals.specs.Causes.{unless_clear, present, each, ExportRequiresAs, InvalidExternName}
use Rattle.wac_parser_declare.specs.Scope.{Scope, Context, bind, identifier, named}
use Rattle.wac_parser_declare.specs.Bodies.{no_body}
use Rattle.wac_parser_declare.specs.Interfaces.{exporting, interface_item, interface_decl}
use Rattle.wac_parser_declare.specs.Worlds.{world_body, world_decl, type_statement}
use Rattle.wac_parser_declare.specs.ValueTypes.{value}
use Rattle.wac_parser_declare.specs.Declarations.{param, result_of, free, case_of, field_of, flag_of, enum_case_of, variant_of, record_of, alias_of, alias_by, alias_value, alias_type, alias_kind, type_decl}
use Rattle.wac_parser_resolve.specs.Ascribing.{Denoted, Import, State, start, context, root_scope, bound, speak_of}
use Rattle.wac_parser_resolve.specs.Askers.{Definitions_ask_nothing}
use Rattle.wac_parser_resolve.specs.Denoting.{denote, export_named, needs_instance}
use Rattle.wac_parser_resolve.specs.Meeting.{target}
use Rattle.wac_types_names.specs.InterfaceNames.{is_exportable, is_extern_name}
use Rattle.wac_parser_resolve.specs.Saying.{asked, import_name, import_called, not_imported, no_definition, new_export, export_name, written_name, with_import, import_statement, not_exported, with_definition, declaration, declared_id, export_as, exported, export_one, export_left, expr_span, statement, statements}
use Rattle.wac_parser_resolve.proofs.Alike.{alike_speak}
use Rattle.wac_parser_resolve.proofs.Answers.{err_ok, ok_of, then_ok, ok_is, each_keeps}
use Rattle.wac_parser_resolve.proofs.Behind.{alike_denote}
use Rattle.wac_parser_resolve.proofs.Numbers.{each_more}

-- ---- what is declared uses nothing

abbrev UsesNothing : Stated → Type 0
UsesNothing x = used_by_definition x ≡ []

-- the type of a function is none of an interface or a world
function_type : (l : Shape) (n : Option Name) (x : Stated) → shape_kind l ≡ IsFunction → used_by_kind (type_kind l) n x ≡ []
function_type (s.interface i us es) n x e = absurd (cc e)
function_type (s.world i us is es) n x e = absurd (cc e)
function_type (s.primitive p) n x e = refl
function_type s.tuple n x e = refl
function_type s.list n x e = refl
function_type (s.fixed_size_list m) n x e = refl
function_type s.option n x e = refl
function_type s.result n x e = refl
function_type (s.variant ns) n x e = refl
function_type (s.record_of ns) n x e = refl
function_type (s.flags ns) n x e = refl
function_type (s.enum ns) n x e = refl
function_type s.alias n x e = refl
function_type s.stream n x e = refl
function_type s.future n x e = refl
function_type (s.resource m) n x e = refl
function_type (s.resource_alias m) n x e = refl
function_type (s.func ps a) n x e = refl
function_type (s.module_type m) n x e = refl
function_type (s.type_of t) n x e = refl
function_type (s.borrow_of t) n x e = refl
function_type (s.own_of t) n x e = refl

function_alone : (x : Stated) → kind_of x ≡ IsFunction → UsesNothing (as_type x)
function_alone (node l ts) e = function_type l (identifier_of (node (s.type_of l) ts)) (node (s.type_of l) ts) e

alias_alone : (v : Stated) → UsesNothing (alias_of v)
alias_alone v = refl

aliased : (k : Kind) (n i : t.Ident) (x y : Stated) → kind_of x ≡ k → Ok y ≡ alias_by k true n i x → UsesNothing y
aliased IsValueType n i x y k e = subst UsesNothing (sym (ok_is y (alias_of (untyped x)) e)) (alias_alone (untyped x))
aliased IsFunction n i x y k e = subst UsesNothing (sym (ok_is y (as_type x) e)) (function_alone x k)
aliased IsFunctionType n i x y k e = subst UsesNothing (sym (ok_is y x e)) (ap (λ j. used_by_kind j (identifier_of x) x) k)
aliased IsResource n i x y k e = absurd (err_ok _ y e)
aliased IsInstance n i x y k e = absurd (err_ok _ y e)
aliased IsComponent n i x y k e = absurd (err_ok _ y e)
aliased IsModule n i x y k e = absurd (err_ok _ y e)
aliased IsValue n i x y k e = absurd (err_ok _ y e)
aliased IsInterface n i x y k e = absurd (err_ok _ y e)
aliased IsWorld n i x y k e = absurd (err_ok _ y e)
aliased IsModuleType n i x y k e = absurd (err_ok _ y e)

module _ (ns : Scope) where
  value_aliased : (ty : t.Ty) (y : Stated) → Ok y ≡ alias_value (value ns ty) → UsesNothing y
  value_aliased ty y e = let a = ok_of (value ns ty) _ y e in subst UsesNothing (sym (ok_is y (alias_of a.0) a.2)) (alias_alone a.0)

  type_aliased : (n : t.Ident) (ty : t.Ty) (y : Stated) → Ok y ≡ alias_type true ns n ty → UsesNothing y
  type_aliased n (t.Ty.ident i) y e = let a = ok_of (named ns i) _ y e in aliased (kind_of a.0) n i a.0 y refl a.2
  type_aliased n (t.Ty.u8 z) y e = value_aliased (t.Ty.u8 z) y e
  type_aliased n (t.Ty.s8 z) y e = value_aliased (t.Ty.s8 z) y e
  type_aliased n (t.Ty.u16 z) y e = value_aliased (t.Ty.u16 z) y e
  type_aliased n (t.Ty.s16 z) y e = value_aliased (t.Ty.s16 z) y e
  type_aliased n (t.Ty.u32 z) y e = value_aliased (t.Ty.u32 z) y e
  type_aliased n (t.Ty.s32 z) y e = value_aliased (t.Ty.s32 z) y e
  type_aliased n (t.Ty.u64 z) y e = value_aliased (t.Ty.u64 z) y e
  type_aliased n (t.Ty.s64 z) y e = value_aliased (t.Ty.s64 z) y e
  type_aliased n (t.Ty.f32 z) y e = value_aliased (t.Ty.f32 z) y e
  type_aliased n (t.Ty.f64 z) y e = value_aliased (t.Ty.f64 z) y e
  type_aliased n (t.Ty.char z) y e = value_aliased (t.Ty.char z) y e
  type_aliased n (t.Ty.bool z) y e = value_aliased (t.Ty.bool z) y e
  type_aliased n (t.Ty.string z) y e = value_aliased (t.Ty.string z) y e
  type_aliased n (t.Ty.error_context z) y e = value_aliased (t.Ty.error_context z) y e
  type_aliased n (t.Ty.tuple ts z) y e = value_aliased (t.Ty.tuple ts z) y e
  type_aliased n (t.Ty.list ty z) y e = value_aliased (t.Ty.list ty z) y e
  type_aliased n (t.Ty.option ty z) y e = value_aliased (t.Ty.option ty z) y e
  type_aliased n (t.Ty.result ok err z) y e = value_aliased (t.Ty.result ok err z) y e
  type_aliased n (t.Ty.stream ty z) y e = value_aliased (t.Ty.stream ty z) y e
  type_aliased n (t.Ty.future ty z) y e = value_aliased (t.Ty.future ty z) y e
  type_aliased n (t.Ty.borrow i z) y e = value_aliased (t.Ty.borrow i z) y e

  alias_declared : (n : t.Ident) (k : t.TypeAliasKind) (y : Stated) → Ok y ≡ alias_kind true ns n k → UsesNothing y
  alias_declared n (t.TypeAliasKind.ty ty) y e = type_aliased n ty y e
  alias_declared n (t.TypeAliasKind.func f) y e =
      let a = ok_of (free ns f) _ y e in
      let ps = ok_of (each (param FuncKind.Free ns) [] f.params) _ a.0 (sym a.1) in
      let r = ok_of (result_of ns None f.results) _ a.0 ps.2 in
      subst UsesNothing (sym (ok_is y (as_type a.0) a.2)) (subst (λ (x : Stated). UsesNothing (as_type x)) (sym (ok_is a.0 (func_of ps.0 r.0 f.is_async) r.2)) refl)

  declared_alone : (d : t.TypeDecl) (y : Stated) → Ok y ≡ type_decl ns d → UsesNothing y
  declared_alone (t.TypeDecl.variant d) y e = let a = ok_of (each (case_of d.id.string ns) [] d.cases) _ y e in subst UsesNothing (sym (ok_is y (as_type (variant_of a.0)) a.2)) refl
  declared_alone (t.TypeDecl.record_ d) y e = let a = ok_of (each (field_of d.id.string ns) [] d.fields) _ y e in subst UsesNothing (sym (ok_is y (as_type (record_of a.0)) a.2)) refl
  declared_alone (t.TypeDecl.flags d) y e = let a = ok_of (each (flag_of d.id.string) [] d.flags) _ y e in subst UsesNothing (sym (ok_is y (as_type (leaf (s.flags a.0))) a.2)) refl
  declared_alone (t.TypeDecl.enum d) y e = let a = ok_of (each (enum_case_of d.id.string) [] d.cases) _ y e in subst UsesNothing (sym (ok_is y (as_type (leaf (s.enum a.0))) a.2)) refl
  declared_alone (t.TypeDecl.alias d) y e = alias_declared d.id d.kind y e

interface_alone : (g : Context) (d : t.InterfaceDecl) (y : Stated) → Ok y ≡ interface_decl g d → UsesNothing (as_type y)
interface_alone g d y e =
    let a = ok_of (each (interface_item g (exporting (Some d.id.string))) no_body d.items) _ y e in
    subst (λ (x : Stated). UsesNothing (as_type x)) (sym (ok_is y (interface_of (Some (identifier g.own d.id.string)) a.0.uses a.0.items) a.2)) refl

world_alone : (g : Context) (d : t.WorldDecl) (y : Stated) → Ok y ≡ world_decl g d → UsesNothing (as_type y)
world_alone g d y e =
    let a = ok_of (world_body g d.id.string d.items) _ y e in
    subst (λ (x : Stated). UsesNothing (as_type x)) (sym (ok_is y (world_of (Some (identifier g.own d.id.string)) a.0.uses a.0.items a.0.exports) a.2)) refl

type_alone : (g : Context) (x : t.TypeStatement) (y : Stated) → Ok y ≡ type_statement g x → UsesNothing y
type_alone g (t.TypeStatement.interface d) y e =
    let a = ok_of (interface_decl g d) _ y e in subst UsesNothing (sym (ok_is y (as_type a.0) a.2)) (interface_alone g d a.0 (sym a.1))
type_alone g (t.TypeStatement.world d) y e =
    let a = ok_of (world_decl g d) _ y e in subst UsesNothing (sym (ok_is y (as_type a.0) a.2)) (world_alone g d a.0 (sym a.1))
type_alone g (t.TypeStatement.ty d) y e = declared_alone g.root d y e

-- ---- statements

abbrev pub AskNothing : State → Type 0
AskNothing g = (e : Name × Stated) → Among e g.definitions → UsesNothing e.1

-- the same definitions
abbrev pub SameDefinitions : State → State → Type 0
SameDefinitions g h = h.definitions ≡ g.definitions

again : (g h : State) → SameDefinitions g h → AskNothing g → AskNothing h
again g h e a x m = a x (subst (Among x) e m)

bound_same : (g : State) (i : t.Ident) (d : Denoted) (h : State) → Ok h ≡ bound g i d → SameDefinitions g h
bound_same g i d h e =
    ap (λ (k : State). k.definitions) (ok_is h (record g { root = g.root ++ (i.string, record { denoted = d; span = i.span }) ∷ [] }) (then_ok (bind (root_scope g) i d.item) _ h e))

exported_same : (d : Denoted) (b : Bool) (g : State) (n : t.Ident) (h : State) → Ok h ≡ exported d b g n → SameDefinitions g h
exported_same d b g n h e =
    let x = then_ok (no_definition n b (value_at g.root n.string)) _ h e in
    let y = then_ok (new_export g n b (value_at g.exports n.string)) _ h x in
    let z = then_ok (unless_clear (not (is_exportable n.string)) (InvalidExternName n.string ExternKind.Export) n.span) _ h y in
    ap (λ (k : State). k.definitions) (ok_is h (record (speak_of g d) { exports = g.exports ++ (n.string, record { denoted = d; span = n.span }) ∷ [] }) z) ∙ (alike_speak g d).definitions

one_same : (dots : Span) (d : Denoted) (g k l : State) (n : Name) → SameDefinitions g k → export_one dots d k n ≡ Ok l → SameDefinitions g l
one_same dots d g k l n h e = let a = ok_of (export_named d n dots) _ l (sym e) in exported_same a.0 false k (record { string = n; span = dots }) l a.2 ∙ h

left_same : (g : State) (s dots : Span) (d : Denoted) (ns : List Name) (h : State) → Ok h ≡ export_left g s dots d ns → SameDefinitions g h
left_same g s dots d [] h e = absurd (err_ok _ h e)
left_same g s dots d (n ∷ ns) h e = each_keeps (export_one dots d) (SameDefinitions g) (λ k l x m q. one_same dots d g k l x m q) g h (n ∷ ns) refl e

export_same : (g : State) (s : Span) (d : Denoted) (o : t.ExportOptions) (h : State) → Ok h ≡ export_as g s d o → SameDefinitions g h
export_same g s d (t.ExportOptions.rename n) h e = exported_same d false g (written_name n) h e
export_same g s d t.ExportOptions.none h e = let a = ok_of (present (export_name d) ExportRequiresAs s) _ h e in exported_same d true g (record { string = a.0; span = s }) h a.2
export_same g s d (t.ExportOptions.spread dots) h e = left_same g s dots d _ h (then_ok (needs_instance d InstanceOperation.Spread s) _ h e)

pub import_same : (g : State) (x : t.ImportStatement) (h : State) → Ok h ≡ import_statement g x → SameDefinitions g h
import_same g x h e =
    let n = ok_of (import_name g x) _ h e in
    let item = ok_of (asked g x.ty) _ h n.2 in
    let y = then_ok (not_imported (import_called g.imports n.0.string) n.0 (is_none x.name)) _ h item.2 in
    let z = then_ok (unless_clear (not (is_extern_name n.0.string)) (InvalidExternName n.0.string ExternKind.Import) n.0.span) _ h y in
    let one : Import = record { name = n.0.string; item = promote item.0; span = n.0.span; id_span = x.id.span } in
    bound_same (with_import g one) x.id (record { origin = imported n.0.string; item = promote item.0 }) h z

-- a declaration defines its type behind the others
pub declaration_adds : (g : State) (i : t.Ident) (x : Stated) (h : State) → Ok h ≡ declaration g i x → h.definitions ≡ g.definitions ++ (i.string, x) ∷ []
declaration_adds g i x h e =
    let y = then_ok (unless_clear (not (is_extern_name i.string)) (InvalidExternName i.string ExternKind.Export) i.span) _ h e in
    let z = then_ok (not_exported g (value_at g.exports i.string) i) _ h y in
    bound_same (with_definition g i x) i (record { origin = defined i.string x; item = x }) h z

declaration_alone : (g : State) (i : t.Ident) (x : Stated) (h : State) → AskNothing g → UsesNothing x → Ok h ≡ declaration g i x → AskNothing h
declaration_alone g i x h a u e =
    again (with_definition g i x) h (declaration_adds g i x h e)
    (each_more (λ (d : Name × Stated). UsesNothing d.1) g.definitions (i.string, x) a u)

pub let_same : (g : State) (x : t.LetStatement) (h : State) → Ok h ≡ statement g (t.Statement.let_ x) → SameDefinitions g h
let_same g x h e =
    let r = ok_of (denote g x.expr) _ h e in bound_same r.0.0 x.id r.0.1 h r.2 ∙ (alike_denote g x.expr r.0 r.1).definitions

pub exporting_same : (g : State) (x : t.ExportStatement) (h : State) → Ok h ≡ statement g (t.Statement.export x) → SameDefinitions g h
exporting_same g x h e =
    let r = ok_of (denote g x.expr) _ h e in
    export_same r.0.0 (expr_span x.expr) r.0.1 x.options h r.2 ∙ (alike_denote g x.expr r.0 r.1).definitions

statement_alone : (g h : State) (x : t.Statement) → AskNothing g → statement g x ≡ Ok h → AskNothing h
statement_alone g h (t.Statement.import x) a e = again g h (import_same g x h (sym e)) a
statement_alone g h (t.Statement.ty x) a e =
    let y = ok_of (type_statement (context g) x) _ h (sym e) in declaration_alone g (declared_id x) y.0 h a (type_alone (context g) x y.0 (sym y.1)) y.2
statement_alone g h (t.Statement.let_ x) a e = again g h (let_same g x h (sym e)) a
statement_alone g h (t.Statement.export x) a e = again g h (exporting_same g x h (sym e)) a

pub definitions_alone : Definitions_ask_nothing
definitions_alone d ps r e =
    let x = ok_of (statements d ps) _ r (sym e) in
    let w = ok_of (target x.0 d.directive.targets) _ r x.2 in
    let state : r.0 ≡ x.0 = ap (λ (q : State × Option Stated). q.0) (ok_is r (x.0, w.0) w.2) in
    subst AskNothing (sym state) (each_keeps statement AskNothing (λ g h y a q. statement_alone g h y a q) (start d ps) x.0 d.statements (λ y m. absurd m) (sym x.1))
