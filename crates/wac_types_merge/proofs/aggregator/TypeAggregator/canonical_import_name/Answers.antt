use Rattle.std.proofs.Common.{refl, sym, ap, subst, ◌∙◌, inl, inr}
use Rattle.wac_types_base.specs.Graph.{Among}
use Rattle.wac_types_merge.specs.declared.family.Import.{Import}
use Rattle.wac_types_merge.specs.Imports.{Imports}
use Rattle.wac_types_merge.proofs.Asking.{none_on_track, found_on_track, same_import}
use Rattle.wac_types_merge.proofs.aggregator.TypeAggregator.canonical_import_name.Goals as goal
use Rattle.wac_types_base.proofs.Looked.{among-get}

pub returns-in-None : goal.returns-in-None
returns-in-None c =
    inr (none_on_track c.as_slice.result.now c.args.self.now.kept c.args.name.now c.in_ok-place_on.field-0 (c.as_slice.ensures.value ∙ ap (λ (g : Imports). g.kept) c.self.view_is) c.in-None.is c.in_ok-place_on.ensures, refl)

pub returns-in-Some : goal.returns-in-Some
returns-in-Some c =
    let ms = c.self.inside.imports.items in
    let p = found_on_track c.as_slice.result.now ms c.args.name.now c.in_ok-place_on.field-0 c.in-Some.at c.as_slice.ensures.value c.in-Some.is c.in_ok-place_on.ensures in
    let same = same_import ms c.in-Some.at p.0 c.index.result.now p.1 c.index.ensures in
    inl (p.0, subst (Among p.0) (ap (λ (g : Imports). g.kept) c.self.view_is) (among-get ms c.in-Some.at p.0 p.1), p.2, c.as_str.ensures ∙ ap (λ (m : Import). m.name) (sym same))
