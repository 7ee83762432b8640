-- What is passed, as it is compared.
use Rattle.std.proofs.Common.{◌≡◌, ℕ, Option, Some, None, MatchOption, refl, sym, subst}
use Rattle.wac_types_base.specs.declared.item.ItemKind.{ItemKind}
use Rattle.wac_types_base.specs.Record.{Collection}
use Rattle.wac_types_base.specs.Stated.{Stated, stated_of}
use Rattle.wac_types_base.specs.Tree.{tree}
use Rattle.wac_types_base.specs.Fits.{Fits}
use Rattle.wac_types_fit.specs.declared.error.SubtypeError.{SubtypeError}
use Rattle.wac_types_fit.specs.Trees.{Fit, tree_in}
use Rattle.wac_types_written.specs.Written.{written_definition}
use Rattle.wac_graph_core.specs.Nodes.{NodeData, Role}
use Rattle.wac_graph_core.specs.Graph.{Graph, node_at, passed, passed_as}
use Rattle.wac_graph_core.specs.Steps.{NodeFits}
use Rattle.wac_graph_core.specs.Refusals.{Mismatches, NodeMismatches, StatedMismatches}

-- an item that has this stated type fits, or does not
abbrev pub Told : Stated → Collection → ItemKind → Option SubtypeError → Type 0
Told t c asked o = MatchOption o (Fits (tree t) (tree_in c asked)) (StatedMismatches t c asked)

pub told_of : (d : Collection) (k : ItemKind) (t : Stated) (c : Collection) (asked : ItemKind) → stated_of d k ≡ t → (o : Option SubtypeError) → MatchOption o (Fit d k c asked) (Mismatches d k c asked) → Told t c asked o
unfolding tree_in
told_of d k t c asked is None h = subst (λ t. Fits (tree t) (tree_in c asked)) is h
told_of d k t c asked is (Some fault) h = record { types = d; given = k; is = is; differ = h }

node_told : (g : Graph) (a : ℕ) (asked : ItemKind) (x : NodeData) → node_at g a ≡ Some x → (o : Option SubtypeError) → Told (passed g.types x) g.types asked o → MatchOption o (NodeFits g a asked) (NodeMismatches g a asked)
node_told g a asked x at None h = record { node = x; there = at; fits = h }
node_told g a asked x at (Some fault) h = record { node = x; there = at; mismatch = h }

pub definition_told : (g : Graph) (a : ℕ) (asked : ItemKind) (x : NodeData) → node_at g a ≡ Some x → x.role ≡ Role.Defined → (o : Option SubtypeError) → Told (written_definition (stated_of g.types x.item_kind)) g.types asked o
    → MatchOption o (NodeFits g a asked) (NodeMismatches g a asked)
definition_told g a asked x at defined o h =
    node_told g a asked x at o (subst (λ r. Told (passed_as r (stated_of g.types x.item_kind)) g.types asked o) (sym defined) h)

pub other_told : (g : Graph) (a : ℕ) (asked : ItemKind) (x : NodeData) → node_at g a ≡ Some x → (x.role ≡ Role.Defined → ⊥) → (o : Option SubtypeError) → MatchOption o (Fit g.types x.item_kind g.types asked) (Mismatches g.types x.item_kind g.types asked)
    → MatchOption o (NodeFits g a asked) (NodeMismatches g a asked)
other_told g a asked x at other o h = node_told g a asked x at o (told_of g.types x.item_kind (passed g.types x) g.types asked (plain x.role other) o h)
  where
    plain : (r : Role) → (r ≡ Role.Defined → ⊥) → stated_of g.types x.item_kind ≡ passed_as r (stated_of g.types x.item_kind)
    plain Role.Defined other = absurd (other refl)
    plain (Role.Imported n) other = refl
    plain Role.Instance other = refl
    plain Role.Aliased other = refl
