-- What is newly declared can be defined, but for its name.
use Rattle.std.proofs.Common.{◌≡◌, Some, ap, subst, sym, ◌∙◌}
use Rattle.std.specs.FinMap as map
use Rattle.wac_types_base.specs.declared.item.ItemKind.{ItemKind}
use Rattle.wac_types_base.specs.declared.item.«Type».{«Type» as TypeKind}
use Rattle.wac_types_base.specs.Collection.{Stands}
use Rattle.wac_types_base.specs.Entries.{Name}
use Rattle.wac_graph_core.specs.declared.error.DefineTypeError.{DefineTypeError}
use Rattle.wac_graph_core.specs.Defining.{DefineRefused, IsDefinable}
use Rattle.wac_graph_core.specs.Graph.{Graph, IsGraph}
use Rattle.wac_graph_core.specs.NodeMaps.{NodeMap}
use Rattle.wac_parser_declare.specs.Added.{IsNewType}
use Rattle.wac_parser_resolve.specs.InStatements.{IsOfName}

-- what stood nowhere is the type of no node
pub newly_definable : (g h : Graph) (t : TypeKind) → IsGraph g → h.nodes ≡ g.nodes → IsNewType g.types t → IsDefinable h t
newly_definable g h t sound same new = (
  (λ k d.
      let there : map.get g.nodes k ≡ Some d.node = ap (λ (ns : NodeMap). map.get ns k) (sym same) ∙ d.there in
      new.absent (subst (Stands g.types) d.type (sound.nodes k d.node there).item)),
  (λ r. new.plain r.0 r.1),
)

pub named_fault : (g : Graph) (n : Name) (t : TypeKind) (e : DefineTypeError) → IsDefinable g t → DefineRefused g n t e → IsOfName e
named_fault g n t DefineTypeError.TypeAlreadyDefined d r = d.0 r.0 r.1
named_fault g n t DefineTypeError.CannotDefineResource d r = d.1 r.1
named_fault g n t (DefineTypeError.InvalidExternName m e) d r = tt
named_fault g n t (DefineTypeError.ExportConflict m) d r = tt
named_fault g n t DefineTypeError.Memory d r = tt
