use Rattle.std.proofs.Common.{List, Vec, Global, sym, ap, subst}
use Rattle.wac_types_base.specs.declared.item.ItemKind.{ItemKind}
use Rattle.wac_graph_bytes.specs.declared.entry.Declaration.{Declaration}
use Rattle.wac_graph_scopes.specs.Scopes.{IsEntryIn}
use Rattle.wac_types_base.specs.declared.item.ValueType.{ValueType}
use Rattle.wac_types_fit.specs.Trees.{tree_in}
use Rattle.wac_graph_scopes.proofs.UsedLaws.{type_remembered}
use Rattle.wac_graph_scopes.proofs.value.define_anew.Goals as goal

pub returns-clause-writes : goal.returns-clause-writes
returns-clause-writes c w outer i h =
    let types = c.args.types.now in
    type_remembered w types outer i (tree_in types (ItemKind.Value (ValueType.Defined c.args.id))) c.define_entry.new.scope c.remember.new.self c.in_ok-index.index
    (c.in_ok-index.ensures.writes w outer i c.requires.no_alias h) (λ j hs e. c.in_ok-remember.ensures.known w types outer j hs (record { reads = e }) (λ is. absurd (cc is)))

pub returns-clause-entry : goal.returns-clause-entry
returns-clause-entry c w outer i h =
    subst (λ (l : List Declaration). IsEntryIn w outer l c.in_ok-index.index) (sym (ap (λ (v : Vec Declaration Global). v.items) c.in_ok-remember.ensures.declarations)) (c.in_ok-index.ensures.entry w outer i h)
