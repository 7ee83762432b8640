use Rattle.std.proofs.Common.{sym, ◌∙◌, subst}
use Rattle.wac_types_base.specs.Graph.{Among}
use Rattle.wac_graph_core.proofs.TypeSets.{any_among}
use Rattle.wac_graph_core.proofs.type_set.TypeSet.contains.Goals as goal

pub returns : goal.returns
returns c =
    let same = any_among c.args.ty c.self.inside.set.keys in (
      λ h. subst (Among c.args.ty) c.self.view_is (same.0 (sym c.contains.ensures ∙ h)),
      λ m. c.contains.ensures ∙ same.1 (subst (Among c.args.ty) (sym c.self.view_is) m),
    )
