-- Where the nodes of what is denoted come from.
use Rattle.std.specs.Prelude.{◌==◌, cond, slice_get, unwrap_or, option_map}
use Rattle.std.proofs.lemmas.Option.{none-some, same_Some}
use Rattle.std.proofs.Common.{◌≡◌, ℕ, zero, suc, ◌≤◌, List, [], ◌∷◌, length, Bool, true, false, Option, Some, refl, sym, ap, ◌∙◌, arith}
use Rattle.wac_types_base.specs.Collection.{IsAcyclic}
use Rattle.wac_types_base.specs.Entries.{Name, AreDistinct}
use Rattle.wac_types_base.specs.Stated.{Stated, stated_in, stated_of}
use Rattle.wac_graph_core.specs.Nodes.{NodeData, Role}
use Rattle.wac_graph_core.specs.Edges.{alias_edge}
use Rattle.wac_graph_core.specs.Graph.{Graph, IsGraph, IsOfKind, is_instance, node_at}
use Rattle.wac_composition.specs.Composition.{Origin, imported, instance, projected, defined}
use Rattle.wac_composition.specs.Renaming.{origin_renamed}
use Rattle.wac_graph_asks.specs.Graphs.{first_export, origin_of, origin_within, export_of, item_at, item_of}
use Rattle.wac_graph_asks.proofs.Origins.{rank, starts_below, below, fewer, alias_is, at_node, count_most}
use Rattle.wac_parser_resolve.specs.Ascribing.{State}
use Rattle.wac_parser_resolve.specs.Holding.{HasItem, IsDefinition, IsNode}
use Rattle.wac_parser_resolve.specs.Later.{first_name}
use Rattle.wac_parser_resolve.proofs.Nodes.{instance_role}
use Rattle.wac_parser_resolve.proofs.Sound.{Has, an_import, an_instance, an_export, a_definition}
use Rattle.wac_parser_ascribed.specs.Tied.{place_of}
use Rattle.wac_parser_ascribed.proofs.Places.{place_is}

-- the name under which a node is exported first
pub first_named : (es : List (Name × ℕ)) (k : ℕ) (n : Name) → first_name es k ≡ Some n → first_export es k ≡ n
first_named [] k n e = absurd (none-some _ e)
first_named (x ∷ es) k n e = by (x.1 == k) e (first_named es k n)
  where
    by : (b : Bool) → cond b (Some x.0) (first_name es k) ≡ Some n → (first_name es k ≡ Some n → first_export es k ≡ n) → cond b x.0 (first_export es k) ≡ n
    by true e rest = same_Some _ _ e
    by false e rest = rest e

-- the node of a definition states the definition's type
abbrev pub States : Graph → Origin ℕ → ℕ → Type 0
States g (imported n) k = Unit {0}
States g (instance i) k = Unit {0}
States g (projected o n) k = Unit {0}
States g (defined n x) k = HasItem g k x

pub has_states : (g : Graph) (s : State) (o : Origin ℕ) (y : Stated) (k : ℕ) → Has s o y → HasItem g k y → States g o k
has_states g s o y k (an_import i m) item = tt
has_states g s o y k (an_instance j m e) item = tt
has_states g s o y k (an_export p z n w h q e) item = tt
has_states g s o y k (a_definition n x m) item = item

pub item_there : (g : Graph) (k : ℕ) (x : NodeData) (y : Stated) → node_at g k ≡ Some x → HasItem g k y → item_of g x ≡ y
item_there g k x y at a =
    let same : x ≡ a.node = same_Some _ _ (sym at ∙ a.there) in
    ap (λ (z : NodeData). stated_of g.types z.item_kind) same ∙ a.kind.same

pub item_is : (g : Graph) (k : ℕ) (y : Stated) → HasItem g k y → item_at g k ≡ y
item_is g k y a = ap (λ (o : Option NodeData). stated_at g o) a.there ∙ a.kind.same
  where
    stated_at : Graph → Option NodeData → Stated
    stated_at g o = stated_in (option_map (item_of g) o)

module _ (g : Graph) (sound : IsGraph g) (acyclic : IsAcyclic g.types) (ms : List ℕ) where
  -- the node of an instance's number
  abbrev pub node_of : ℕ → ℕ
  node_of i = unwrap_or (slice_get ms i) zero

  no_definition : (j : ℕ) (n : Name) → IsOfKind g j (λ x. is_instance x ≡ true) → IsDefinition g j n → ⊥
  no_definition j n one a =
      let same : one.node ≡ a.node = same_Some _ _ (sym one.there ∙ a.there) in
      let none : is_instance one.node.item_kind ≡ false = ap (λ (z : NodeData). is_instance z.item_kind) same ∙ ap is_instance a.item in
      absurd (cc (one.kind, none))

  inner : (o : Origin ℕ) (j : ℕ) → IsOfKind g j (λ x. is_instance x ≡ true) → IsNode g ms o j → States g o j
  inner (imported n) j one a = tt
  inner (instance i) j one a = tt
  inner (projected o n) j one a = tt
  inner (defined n x) j one a = absurd (no_definition j n one a)

  within : (d k : ℕ) (o : Origin ℕ) → below g sound acyclic k ≤ d → IsNode g ms o k → States g o k → origin_within g (suc d) k ≡ origin_renamed node_of o
  within d k (imported n) b a st = at_node g sound acyclic (origin_within g d) k a.node (Role.Imported n) a.there a.role
  within d k (instance i) b a st =
      let r = instance_role g sound k a.1 in
      at_node g sound acyclic (origin_within g d) k r.0 Role.Instance r.1 r.2 ∙ ap instance (sym (ap (λ (o : Option ℕ). unwrap_or o zero) a.0))
  within d k (defined n x) b a st =
      at_node g sound acyclic (origin_within g d) k a.node Role.Defined a.there a.role
      ∙ (λ j. defined (first_named g.exports k n a.first j) (item_there g k a.node x a.there st j))
  within zero k (projected o n) b a st = let l = fewer g sound acyclic a.0 k n a.3 in absurd (omega (arith, b, l))
  within (suc d) k (projected o n) b a st =
      let l = fewer g sound acyclic a.0 k n a.3 in
      let x = (sound.wired.edges (alias_edge a.0 k n) a.3).alias n refl in
      at_node g sound acyclic (origin_within g (suc d)) k x.0 Role.Aliased x.1 x.2
      ∙ ap (export_of (origin_within g (suc d)) k) (alias_is g sound acyclic a.0 k n a.3)
      ∙ ap (λ p. projected p n) (within d a.0 o (omega (arith, b, l)) a.1 (inner o a.0 a.2 a.1))

  pub origin_is : (o : Origin ℕ) (k : ℕ) → IsNode g ms o k → States g o k → origin_of g k ≡ origin_renamed node_of o
  origin_is o k a st = within (length g.edges) k o (count_most (starts_below g sound acyclic (rank g sound acyclic k)) g.edges) a st

  module _ (apart : AreDistinct ms) where
    numbered_back : (o : Origin ℕ) (k : ℕ) → IsNode g ms o k → origin_renamed (place_of ms) (origin_renamed node_of o) ≡ o
    numbered_back (imported n) k a = refl
    numbered_back (instance i) k a = ap (λ j. instance (place_of ms j)) (ap (λ (o : Option ℕ). unwrap_or o zero) a.0) ∙ ap instance (place_is ms i k apart a.0)
    numbered_back (projected o n) k a = ap (λ p. projected p n) (numbered_back o a.0 a.1)
    numbered_back (defined n x) k a = refl

    pub origin_back : (o : Origin ℕ) (k : ℕ) → IsNode g ms o k → States g o k → origin_renamed (place_of ms) (origin_of g k) ≡ o
    origin_back o k a st = ap (origin_renamed (place_of ms)) (origin_is o k a st) ∙ numbered_back o k a
