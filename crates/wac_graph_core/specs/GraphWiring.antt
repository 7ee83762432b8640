-- The wiring of a graph: instances are instances, arguments bindings, aliases projections. How an outer import is spelled
-- and how a defined type is written is handed in, and so is what the outer imports ask.
use Rattle.std.specs.Prelude.{◌≡◌, ℕ, Option, Some, None}
use Rattle.wac_types_base.specs.declared.item.ItemKind.{ItemKind}
use Rattle.wac_types_base.specs.Entries.{Name, value_at}
use Rattle.wac_types_base.specs.Tree.{Tree}
use Rattle.wac_types_names.specs.Packaged.{Packaged}
use Rattle.wac_graph_bytes.specs.Wirings.{Source, Absent, Outer, Inst, Definition, project, OfBytes, Instantiation, Wiring}
use Rattle.wac_graph_core.specs.Nodes.{NodeData, Role}
use Rattle.wac_graph_core.specs.Edges.{HasAlias, HasArgument}
use Rattle.wac_graph_core.specs.Graph.{Graph, IsGraph, node_at, instantiated, item_import}

module _ (spell : Name → Name) (written : ItemKind → Tree) (g : Graph) where
  -- what a node stands for
  pub data Denotes : ℕ → Source ℕ → Type 0 where
    imported : {k : ℕ} (x : NodeData) (n : Name) → node_at g k ≡ Some x → x.role ≡ Role.Imported n → Denotes k (Outer (spell n))
    instance : {k : ℕ} (x : NodeData) → node_at g k ≡ Some x → x.role ≡ Role.Instance → Denotes k (Inst k)
    defined : {k : ℕ} (x : NodeData) → node_at g k ≡ Some x → x.role ≡ Role.Defined
        → Denotes k (Definition (written x.item_kind))
    aliased : {k : ℕ} {s : Source ℕ} (i : ℕ) (n : Name) → HasAlias g.edges i n k → Denotes i s → Denotes k (project s n)

  -- what an import of an instance is bound to: its argument, or else the outer import of its name
  pub data Binds (k : ℕ) (n : Name) : Source ℕ → Type 0 where
    argument : {s : Source ℕ} (a : ℕ) → HasArgument g.edges k n a → Denotes a s → Binds k n s
    outer : ((a : ℕ) → HasArgument g.edges k n a → ⊥) → Binds k n (Outer (spell n))

  -- an instance of the package, with its imports bound
  pub record IsInstance (k : ℕ) (p : Packaged) (x : Instantiation ℕ) : Type 0 where
    -- the package as it is where components are defined; encoding says how the tag is written where they are imported
    pub tag : x.tag ≡ OfBytes p.bytes
    pub bound : (n : Name) (item : ItemKind) → item_import g.types p.ty n ≡ Some item → Binds k n (x.args n)
    pub no_other : (n : Name) → item_import g.types p.ty n ≡ None → x.args n ≡ Absent

  pub record IsWiring (asks : Name → Option Tree) (W : Wiring ℕ) : Type 0 where
    pub outers : (n : Name) → W.outers n ≡ asks n
    pub instances : (k : ℕ) (p : Packaged) → instantiated g k ≡ Some p
        → (x : Instantiation ℕ) × (W.at k ≡ Some x) × IsInstance k p x
    pub no_other : (k : ℕ) → instantiated g k ≡ None → W.at k ≡ None
    pub exported : (n : Name) (k : ℕ) → value_at g.exports n ≡ Some k → Denotes k (W.exports n)
    pub no_export : (n : Name) → value_at g.exports n ≡ None → W.exports n ≡ Absent

-- each graph has a wiring
abbrev pub GraphsHaveWirings : Type 0
GraphsHaveWirings =
    (spell : Name → Name) (written : ItemKind → Tree) (g : Graph) (asks : Name → Option Tree) → IsGraph g
    → (W : Wiring ℕ) × IsWiring spell written g asks W

-- no graph has two wirings
abbrev pub WiringsAreUnique : Type 0
WiringsAreUnique =
    (spell : Name → Name) (written : ItemKind → Tree) (g : Graph) (asks : Name → Option Tree) (V W : Wiring ℕ) → IsGraph g
    → IsWiring spell written g asks V → IsWiring spell written g asks W → V ≡ W
