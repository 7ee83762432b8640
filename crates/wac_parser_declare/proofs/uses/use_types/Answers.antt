use Rattle.std.specs.Prelude.{⊤}
use Rattle.std.proofs.Common.{map, subst}
use Rattle.wac_types_base.specs.Record.{Collection}
use Rattle.wac_types_base.specs.Entries.{Name}
use Rattle.wac_types_base.specs.Stated.{Stated}
use Rattle.wac_parser_tree.specs.Views.{view_use_item, view_use_path}
use Rattle.wac_parser_refusals.specs.Causes.{each}
use Rattle.wac_parser_refusals.specs.Outcomes.{IsHeld, IsOutcome}
use Rattle.wac_parser_refusals.proofs.Outcomes.{after_outcome}
use Rattle.wac_parser_declare.specs.Bodies as stated
use Rattle.wac_parser_declare.specs.Bodies.{interface_at, use_one}
use Rattle.wac_parser_declare.specs.Held.{holder_of, stated_body}
use Rattle.wac_parser_declare.specs.InBodies.{IsBody}
use Rattle.wac_parser_declare.specs.InUses.{AnInterface, stated_interface}
use Rattle.wac_parser_declare.specs.Scope.{path_text, use_path}
use Rattle.wac_parser_declare.proofs.InBodies.{body-kept}
use Rattle.wac_parser_declare.proofs.uses.use_types.Goals as goal

pub returns-clause-outcome : goal.returns-clause-outcome
returns-clause-outcome g c x s =
    let old = g.T.GrowingTypes.collection c.args.types.now in
    let new = g.T.GrowingTypes.collection c.interface_at.new.types in
    let b = c.args.body.now in
    let h = holder_of c.args.holder in
    let p = use_path (view_use_path c.args.item.now.path) in
    let us = map view_use_item c.args.item.now.items.items in
    let r = c.use_items.result in
    let id = c.in_ok-interface.interface in
    let after = c.use_items.new.body in
    let k : stated.Body → ⊤ → Type 0 = λ y v. IsBody new y after in
    let f : Stated → stated.Body → Name → Collection → Type 0 = λ from s n d. IsOutcome (λ (y : stated.Body) (v : ⊤). IsBody d y after) (each (use_one h n from) s us) r in
    let found : IsHeld (AnInterface new) (interface_at x p) id =
    c.in_ok-interface.ensures.outcome x s in
    let used : f (stated_interface new id) (stated_body new b) (path_text p) new =
    subst (λ (n : Name). f (stated_interface new id) (stated_body new b) n new) c.path_text.ensures
    (subst (λ (d : Collection). f (stated_interface d id) (stated_body d b) c.path_text.result.now d) c.types.ensures c.use_items.ensures.outcome) in
    after_outcome (λ (from : Stated). each (use_one h (path_text p) from) (stated_body old b) us) (AnInterface new) k (interface_at x p) id r found
    (λ from held. subst (λ (y : Stated). f y (stated_body old b) (path_text p) new) held.same
    (subst (λ (s : stated.Body). f (stated_interface new id) s (path_text p) new) (body-kept old new c.in_ok-interface.ensures.grows b c.requires.body) used))
