use Rattle.std.specs.Prelude.{IfSome, option_map}
use Rattle.std.specs.List.{cons_option, flat_map}
use Rattle.std.proofs.lemmas.List.{append-nil}
use Rattle.std.proofs.lemmas.Result.{on_ok_weaker}
use Rattle.std.proofs.Common.{[], sym, ap, subst, ◌∙◌}
use Rattle.wac_types_base.specs.declared.item.ItemKind.{ItemKind}
use Rattle.wac_types_base.specs.Entries.{Name}
use Rattle.wac_types_base.specs.Stated.{Stated, stated_of}
use Rattle.wac_types_base.specs.Collection.{Stands}
use Rattle.wac_types_base.proofs.Adding.{Grows-refl}
use Rattle.wac_composition.specs.Circles.{written_whole}
use Rattle.wac_graph_causes.proofs.LateLaws.{adds_as, adds_nothing}
use Rattle.wac_graph_causes.proofs.circles.add_form.Goals as goal

pub returns-in-Some-clause-adds : goal.returns-in-Some-clause-adds
returns-in-Some-clause-adds c =
    let d = c.args.types.now in
    let x = c.args.definition.now in
    let k = c.in-Some.item in
    on_ok_weaker c.add_whole.result
    (λ f. adds_as d c.add_whole.new.types c.args.all.now.items c.add_whole.new.all.items _ _
    (ap (λ n. written_whole (n, stated_of d k)) c.as_str.ensures ∙ sym (append-nil (written_whole (x.name, stated_of d k)))
    ∙ ap (λ o. flat_map written_whole (cons_option {X = Name × Stated} (option_map (λ (j : ItemKind). (x.name, stated_of d j)) o) [])) (sym c.in-Some.is)) f)
    c.add_whole.ensures.adds

pub returns-in-None-clause-adds : goal.returns-in-None-clause-adds
returns-in-None-clause-adds c =
    let d = c.args.types.now in
    let x = c.args.definition.now in
    let es = c.args.all.now.items in
    adds_as d d es es [] _ (ap (λ o. flat_map written_whole (cons_option {X = Name × Stated} (option_map (λ (j : ItemKind). (x.name, stated_of d j)) o) [])) (sym c.in-None.is)) (adds_nothing d d (Grows-refl d c.see_acyclic.ensures) es)

pub add_whole-requires : goal.add_whole-requires
add_whole-requires c = subst (λ o. IfSome o (Stands c.args.types.now)) c.in-Some.is c.requires
