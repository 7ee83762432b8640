-- The graph of a resolved document defines each world that the document declares.
use Rattle.std.specs.Prelude.{bytes_eq, map, if◌then◌else◌}
use Rattle.std.proofs.Common.{◌≡◌, List, [], ◌∷◌, ◌++◌, Bool, true, false, Option, Some, Ok, refl, sym, ap, subst, ◌∙◌}
use Rattle.std.proofs.lemmas.Slice.Eq.{bytes_eq-Decides}
use Rattle.wac_types_base.specs.declared.ids.WorldId.{WorldId}
use Rattle.wac_types_base.specs.declared.item.ItemKind.{ItemKind}
use Rattle.wac_types_base.specs.declared.item.«Type».{«Type» as TypeKind}
use Rattle.wac_types_base.specs.Collection.{IsAcyclic}
use Rattle.wac_types_base.specs.Entries.{Name}
use Rattle.wac_types_base.specs.Graph.{Among}
use Rattle.wac_types_base.specs.Stated.{Stated, IsWorld, kind_of, as_type, world_of}
use Rattle.wac_types_base.proofs.Slots.{stands_typed_world}
use Rattle.wac_types_base.proofs.Telling.{item_kind, kind_stated}
use Rattle.wac_graph_core.specs.Graph.{Graph}
use Rattle.wac_graph_core.specs.Nodes.{NodeData}
use Rattle.wac_parser_tree.specs.Trees as t
use Rattle.wac_parser_declare.specs.Holding.{Holds}
use Rattle.wac_parser_declare.specs.Scope.{Context, identifier}
use Rattle.wac_parser_declare.specs.Worlds.{type_statement, world_body, world_decl}
use Rattle.wac_parser_refusals.specs.Causes.{each}
use Rattle.wac_parser_resolve.specs.Ascribing.{State, start, context}
use Rattle.wac_parser_resolve.specs.Meeting.{target}
use Rattle.wac_parser_resolve.specs.Said.{AreDeclared, IsDeclared}
use Rattle.wac_parser_resolve.specs.Saying.{declared_id, statement, statements}
use Rattle.wac_parser_resolve.proofs.Alone.{SameDefinitions, declaration_adds, exporting_same, import_same, let_same}
use Rattle.wac_parser_resolve.proofs.Answers.{each_keeps, ok_is, ok_of}
use Rattle.wac_parser_resolve.proofs.Numbers.{among_last, among_more}
use Rattle.wac_parser_resolve.proofs.Turns.{turn_on}
use Rattle.wac_texts.specs.declared.declared.Declares.{Declares}
use Rattle.wac_texts.specs.Declarations.{declared_among, declared_by, declared_kind, declared_name, first_declared}
use Rattle.wac_texts.specs.Laws.{Declared_worlds_are_defined, DefinesWorld}

-- ---- what statements define

-- a world is defined under the name
abbrev HasWorld : Name → State → Type 0
HasWorld name s = (x : Stated) × Among (name, x) s.definitions × (kind_of x ≡ IsWorld)

kept : (name : Name) (g h : State) → SameDefinitions g h → HasWorld name g → HasWorld name h
kept name g h e w = (w.0, subst (Among (name, w.0)) (sym e) w.1, w.2)

more : (name : Name) (g h : State) (d : Name × Stated) → h.definitions ≡ g.definitions ++ d ∷ [] → HasWorld name g → HasWorld name h
more name g h d e w = (w.0, subst (Among (name, w.0)) (sym e) (among_more (name, w.0) g.definitions d w.1), w.2)

stays : (name : Name) (g h : State) (x : t.Statement) → HasWorld name g → statement g x ≡ Ok h → HasWorld name h
stays name g h (t.Statement.import x) w e = kept name g h (import_same g x h (sym e)) w
stays name g h (t.Statement.ty x) w e =
    let y = ok_of (type_statement (context g) x) _ h (sym e) in
    more name g h ((declared_id x).string, y.0) (declaration_adds g (declared_id x) y.0 h y.2) w
stays name g h (t.Statement.let_ x) w e = kept name g h (let_same g x h (sym e)) w
stays name g h (t.Statement.export x) w e = kept name g h (exporting_same g x h (sym e)) w

-- a declared world is one
declared_kinds : (c : Context) (d : t.WorldDecl) (y : Stated) → Ok y ≡ type_statement c (t.TypeStatement.world d) → kind_of y ≡ IsWorld
declared_kinds c d y e =
    let a = ok_of (world_decl c d) _ y e in
    let b = ok_of (world_body c d.id.string d.items) _ a.0 (sym a.1) in
    subst (λ (x : Stated). kind_of x ≡ IsWorld) (sym (ok_is y (as_type a.0) a.2))
    (subst (λ (x : Stated). kind_of (as_type x) ≡ IsWorld)
    (sym (ok_is a.0 (world_of (Some (identifier c.own d.id.string)) b.0.uses b.0.items b.0.exports) b.2)) refl)

adds : (name : Name) (g h : State) (d : t.WorldDecl) → d.id.string ≡ name → statement g (t.Statement.ty (t.TypeStatement.world d)) ≡ Ok h → HasWorld name h
adds name g h d is e =
    let y = ok_of (type_statement (context g) (t.TypeStatement.world d)) _ h (sym e) in
    let there : Among (d.id.string, y.0) h.definitions =
    subst (Among (d.id.string, y.0)) (sym (declaration_adds g d.id y.0 h y.2)) (among_last g.definitions (d.id.string, y.0)) in
    (y.0, subst (λ (n : Name). Among (n, y.0) h.definitions) is there, declared_kinds (context g) d y.0 (sym y.1))

-- what the first statement declares, where those behind it give the rest
typed : (name : Name) (g k h : State) (x : t.TypeStatement) (xs : List t.Statement) → statement g (t.Statement.ty x) ≡ Ok k
    → Ok h ≡ each statement k xs → (declared_among xs name ≡ Declares.World → HasWorld name h)
    → (same : Bool) → bytes_eq (declared_name x) name ≡ same
    → first_declared ((if same then declared_kind x else Declares.Nothing) ∷ map (λ s. declared_by s name) xs) ≡ Declares.World
    → HasWorld name h
typed name g k h x xs s e rest false is w = rest w
typed name g k h (t.TypeStatement.world d) xs s e rest true is w =
    each_keeps statement (HasWorld name) (λ a b y m q. stays name a b y m q) k h xs
    (adds name g k d ((bytes_eq-Decides d.id.string name).0 is) s) e
typed name g k h (t.TypeStatement.interface d) xs s e rest true is w = absurd (cc w)
typed name g k h (t.TypeStatement.ty d) xs s e rest true is w = absurd (cc w)

found : (name : Name) (g h : State) (xs : List t.Statement) → Ok h ≡ each statement g xs → declared_among xs name ≡ Declares.World → HasWorld name h
found name g h [] e w = absurd (cc w)
found name g h (t.Statement.import x ∷ xs) e w =
    let r = ok_of (statement g (t.Statement.import x)) (λ u. each statement u xs) h e in found name r.0 h xs r.2 w
found name g h (t.Statement.let_ x ∷ xs) e w =
    let r = ok_of (statement g (t.Statement.let_ x)) (λ u. each statement u xs) h e in found name r.0 h xs r.2 w
found name g h (t.Statement.export x ∷ xs) e w =
    let r = ok_of (statement g (t.Statement.export x)) (λ u. each statement u xs) h e in found name r.0 h xs r.2 w
found name g h (t.Statement.ty x ∷ xs) e w =
    let r = ok_of (statement g (t.Statement.ty x)) (λ u. each statement u xs) h e in
    typed name g r.0 h x xs r.1 r.2 (λ v. found name r.0 h xs r.2 v) (bytes_eq (declared_name x) name) refl w

-- ---- in the graph

world_type : (t : TypeKind) → item_kind (ItemKind.Ty t) ≡ IsWorld → (w : WorldId) × (t ≡ TypeKind.World w)
world_type (TypeKind.World w) e = (w, refl)
world_type (TypeKind.Resource r) e = absurd (cc e)
world_type (TypeKind.Func f) e = absurd (cc e)
world_type (TypeKind.Value v) e = absurd (cc e)
world_type (TypeKind.Interface i) e = absurd (cc e)
world_type (TypeKind.Module m) e = absurd (cc e)

defines : (g : Graph) → IsAcyclic g.types → (ds : List (Name × Stated)) → AreDeclared g ds → (name : Name) (x : Stated)
    → Among (name, x) ds → kind_of x ≡ IsWorld → DefinesWorld g name ds
defines g a ds are name x m k =
    let node = turn_on (IsDeclared g) ds are.nodes (name, x) are.are m in
    let d = node.2.definition in
    let same : node.2.item.node ≡ d.node = cc (sym node.2.item.there ∙ d.there) in
    let typed : Holds g.types x (ItemKind.Ty d.type) =
    subst (Holds g.types x) d.item (subst (λ (n : NodeData). Holds g.types x n.item_kind) same node.2.item.kind) in
    let w = world_type d.type (sym (kind_stated g.types a (ItemKind.Ty d.type) typed.stands) ∙ (ap kind_of typed.same ∙ k)) in
    let held : Holds g.types x (ItemKind.Ty (TypeKind.World w.0)) =
    subst (λ (t : TypeKind). Holds g.types x (ItemKind.Ty t)) w.1 typed in
    record {
      world = w.0;
      defined = record {
        node = node.0;
        exported = d.named;
        found = d.node;
        there = d.there;
        defined = d.role;
        item = d.item ∙ ap ItemKind.Ty w.1;
        stands = stands_typed_world g.types w.0 held.stands;
      };
      said = subst (λ (y : Stated). Among (name, y) ds) (sym held.same) m;
    }

pub worlds_are_defined : Declared_worlds_are_defined
worlds_are_defined d ps r g at e a built name w =
    let s = ok_of (statements d ps) _ r (sym e) in
    let u = ok_of (target s.0 d.directive.targets) _ r s.2 in
    let state : r.0 ≡ s.0 = ap (λ (q : State × Option Stated). q.0) (ok_is r (s.0, u.0) u.2) in
    let h = subst (HasWorld name) (sym state) (found name (start d ps) s.0 d.statements (sym s.1) w) in
    defines g a r.0.definitions built.definitions name h.0 h.1 h.2
