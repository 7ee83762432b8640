-- The nodes of names, and of single operations on them.
use Rattle.std.proofs.Common.{◌≡◌, ℕ, List, [], ◌∷◌, Bool, true, false, not, if◌then◌else◌, Option, Some, None, Ok, Err, is_some, sym, ap, subst, ◌∙◌}
use Rattle.std.specs.Prelude.{option_map, ◌==◌}
use Rattle.std.specs.Cmp.Lexicographic.{pointwise}
use Rattle.wac_types_base.specs.declared.item.ItemKind.{ItemKind}
use Rattle.wac_types_base.specs.declared.ids.InterfaceId.{InterfaceId}
use Rattle.wac_types_base.specs.Record.{Collection}
use Rattle.wac_types_base.specs.Collection.{IsAcyclic}
use Rattle.wac_types_base.specs.Entries.{Name, value_at}
use Rattle.wac_types_base.specs.Stated.{Stated, desc, exports_of, kind_of, stated_of}
use Rattle.wac_composition.specs.Classes.{is_instance_kind}
use Rattle.wac_graph_core.specs.Graph as graph
use Rattle.wac_graph_core.specs.Graph.{Graph, IsOfKind, item_export, node_at}
use Rattle.wac_parser_refusals.specs.declared.refusal.Refusal.{Refusal}
use Rattle.wac_parser_refusals.specs.declared.error.InstanceOperation.{InstanceOperation}
use Rattle.wac_parser_refusals.specs.Causes.{Answer, Fault, ◌>>◌, UndefinedName, MissingInstanceExport, NotAnInstance, present, unless_clear}
use Rattle.wac_parser_refusals.specs.Outcomes.{IsHeld, IsRefusal, Refuses}
use Rattle.wac_parser_refusals.proofs.Outcomes.{memory_refusal}
use Rattle.wac_parser_tree.specs.Trees as t
use Rattle.wac_parser_tree.specs.Trees.{Span}
use Rattle.wac_parser_declare.specs.Holding.{Holds}
use Rattle.wac_parser_resolve.specs.Ascribing.{Bound, Denoted, State, denoted_by}
use Rattle.wac_parser_resolve.specs.Denoting.{asks_instance, export_by, export_named, needs_instance, spoken}
use Rattle.wac_parser_resolve.specs.Holding.{AreNamed, Denotes, HasItem}
use Rattle.wac_parser_resolve.proofs.Items.{export_stated, is_one, none_refused, one_item, other_by, passes_refused}

module _ (g : Graph) (ms : List ℕ) where
  -- what is found under a name in both
  abbrev pub AreFound : Option Bound → Option ℕ → Type 0
  AreFound None None = Unit {0}
  AreFound (Some b) (Some k) = Denotes g ms b.denoted k
  AreFound None (Some k) = ⊥
  AreFound (Some b) None = ⊥

  found_by : (t : Bool) (b : Bound) (k : ℕ) (o : Option Bound) (p : Option ℕ) → Denotes g ms b.denoted k → AreFound o p → AreFound (if t then Some b else o) (if t then Some k else p)
  found_by true b k o p d f = d
  found_by false b k o p d f = f

  pub both_found : (bs : List (Name × Bound)) (es : List (Name × ℕ)) (n : Name) → AreNamed g ms bs es → AreFound (value_at bs n) (value_at es n)
  both_found [] [] n t = tt
  both_found [] (e ∷ es) n t = absurd t
  both_found (b ∷ bs) [] n t = absurd t
  both_found (b ∷ bs) (e ∷ es) n t =
      subst (λ (m : Name). AreFound (if pointwise ◌==◌ n b.0 then Some b.1 else value_at bs n) (if pointwise ◌==◌ n m then Some e.1 else value_at es n)) (sym t.0.name)
      (found_by (pointwise ◌==◌ n b.0) b.1 e.1 (value_at bs n) (value_at es n) t.0.denotes (both_found bs es n t.1))

  module _ (f : Fault) (at : Span) where
    held_by : (o : Option Bound) (k : ℕ) → AreFound o (Some k) → IsHeld (Denotes g ms) (present (option_map (λ b. b.denoted) o) f at) k
    held_by None k a = absurd a
    held_by (Some b) k a = a

    lacking_by : (o : Option Bound) (e : Refusal) → AreFound o None → Refuses e f at → IsRefusal (present (option_map (λ b. b.denoted) o) f at) e
    lacking_by None e a r = r
    lacking_by (Some b) e a r = absurd a

  module _ (s : State) (names : List (Name × ℕ)) (i : t.Ident) (all : AreNamed g ms s.root names) where
    pub node_held : (k : ℕ) → value_at names i.string ≡ Some k → IsHeld (Denotes g ms) (denoted_by s i) k
    node_held k e = held_by (UndefinedName i.string) i.span (value_at s.root i.string) k (subst (AreFound (value_at s.root i.string)) e (both_found s.root names i.string all))

    pub node_lacking : (e : Refusal) → value_at names i.string ≡ None → Refuses e (UndefinedName i.string) i.span → IsRefusal (denoted_by s i) e
    node_lacking e is r = lacking_by (UndefinedName i.string) i.span (value_at s.root i.string) e (subst (AreFound (value_at s.root i.string)) is (both_found s.root names i.string all)) r

    gone_by : (q : Answer Denoted) (k : ℕ) (e : Refusal) → IsHeld (Denotes g ms) q k → is_some (node_at g k) ≡ false → IsRefusal q e
    gone_by (Err c) k e h n = absurd h
    gone_by (Ok d) k e h n = absurd (cc (sym (ap is_some h.item.there) ∙ n))

    -- no name stands for a node that is gone
    pub node_gone : (k : ℕ) (e : Refusal) → value_at names i.string ≡ Some k → is_some (node_at g k) ≡ false → IsRefusal (denoted_by s i) e
    node_gone k e is n = gone_by (denoted_by s i) k e (node_held k is) n

-- ---- an instance that is asked for

module _ (c : Collection) (a : IsAcyclic c) (t : Stated) (o : InstanceOperation) (s : Span) where
  held_one : (b : Bool) (id : InterfaceId) → b ≡ true → Holds c t (ItemKind.Instance id) → IsHeld (λ u i. Holds c t (ItemKind.Instance i)) (unless_clear (not b) (NotAnInstance (desc t) o) s) id
  held_one true id e h = h
  held_one false id e h = absurd (cc e)

  pub instance_held : (id : InterfaceId) → Holds c t (ItemKind.Instance id) → IsHeld (λ u i. Holds c t (ItemKind.Instance i)) (asks_instance t o s) id
  instance_held id h = held_one (is_instance_kind (kind_of t)) id (is_one c a t (ItemKind.Instance id) h) h

  refused_one : (b : Bool) (e : Refusal) → b ≡ false → Refuses e (NotAnInstance (desc t) o) s → IsRefusal (unless_clear (not b) (NotAnInstance (desc t) o) s) e
  refused_one true e q r = absurd (cc q)
  refused_one false e q r = r

  pub instance_refused : (x : ItemKind) (e : Refusal) → Holds c t x → ((i : InterfaceId) → x ≡ ItemKind.Instance i → ⊥) → Refuses e (NotAnInstance (desc t) o) s → IsRefusal (asks_instance t o s) e
  instance_refused x e h n r = refused_one (is_instance_kind (kind_of t)) e (is_one c a t x h ∙ other_by x n) r

-- the first of two is refused
pub first_refused : {A B : Type 0} (q : Answer A) (r : Answer B) (e : Refusal) → IsRefusal q e → IsRefusal (q >> r) e
first_refused (Ok a) r e h = memory_refusal r e h
first_refused (Err c) r e h = h

-- ---- an export that is not there

-- what is not there is not spoken of
pub unspoken_refused : {A : Type 0} (u : Answer A) (q : Answer Denoted) (s : State) (e : Refusal) → IsRefusal (u >> q) e → IsRefusal (u >> spoken s q) e
unspoken_refused (Ok a) (Ok d) s e h = h
unspoken_refused (Ok a) (Err c) s e h = h
unspoken_refused (Err c) q s e h = h

module _ (g : Graph) (a : IsAcyclic g.types) (i : ℕ) (d : Denoted) (item : HasItem g i d.item) (op : InstanceOperation) (before : Span) (e : Refusal) where
  pub no_instance : {A : Type 0} (q : Answer A) → IsOfKind g i (λ x. graph.is_instance x ≡ false) → Refuses e (NotAnInstance (desc d.item) op) before → IsRefusal (needs_instance d op before >> q) e
  no_instance q other r =
      let both = one_item g i (Holds g.types d.item) (λ x. graph.is_instance x ≡ false) item other in
      none_refused d.item op before q e (is_one g.types a d.item both.node.item_kind both.kind.0 ∙ both.kind.1) r

  missing_by : (n : Name) (at : Span) (o : Option Stated) → o ≡ None → Refuses e (MissingInstanceExport n) at → IsRefusal (export_by d n o at) e
  missing_by n at None is r = r
  missing_by n at (Some x) is r = absurd (cc is)

  pub no_export : (n : Name) (at : Span) → IsOfKind g i (λ x. (graph.is_instance x ≡ true) × (item_export g.types x n ≡ None)) → Refuses e (MissingInstanceExport n) at
      → IsRefusal (needs_instance d op before >> export_named d n at) e
  no_export n at other r =
      let both = one_item g i (Holds g.types d.item) (λ x. (graph.is_instance x ≡ true) × (item_export g.types x n ≡ None)) item other in
      let k = both.kind.1.0 in
      let none : value_at (exports_of d.item) n ≡ None = export_stated g.types a d.item both.node.item_kind both.kind.0 k n ∙ ap (option_map (stated_of g.types)) both.kind.1.1 in
      passes_refused d.item op before (export_named d n at) e (is_one g.types a d.item both.node.item_kind both.kind.0 ∙ k) (missing_by n at (value_at (exports_of d.item) n) none r)
