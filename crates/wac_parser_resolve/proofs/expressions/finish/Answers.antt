use Rattle.std.proofs.Common.{◌≡◌, List, [], ◌∷◌, ◌++◌, refl, ap, subst, ◌∙◌}
use Rattle.std.specs.Prelude.{⊤, map, slice_get}
use Rattle.wac_types_base.specs.declared.ids.WorldId.{WorldId}
use Rattle.wac_types_base.specs.Record.{Collection}
use Rattle.wac_types_base.specs.Entries.{Name, names_of}
use Rattle.wac_types_base.specs.Stated.{Stated, imports_of, instance_type}
use Rattle.wac_parser_tree.specs.Trees as t
use Rattle.wac_parser_tree.specs.Views.{view_instantiation_argument, view_package_name}
use Rattle.wac_parser_refusals.specs.Causes.{each}
use Rattle.wac_parser_refusals.specs.Outcomes.{IsHeld, IsRefusal}
use Rattle.wac_parser_refusals.proofs.Outcomes.{refused_outcome}
use Rattle.wac_parser_resolve.specs.declared.board.Board.{Board}
use Rattle.wac_parser_resolve.specs.Ascribing.{Made}
use Rattle.wac_parser_resolve.specs.Denoting as stated
use Rattle.wac_parser_resolve.specs.Denoting.{argument_fits, finished, with_made}
use Rattle.wac_parser_resolve.specs.InArguments.{imported_by}
use Rattle.wac_parser_resolve.specs.InInstances.{Denoting, SaysMade, just_made, with_arguments}
use Rattle.wac_parser_resolve.proofs.Accesses.{held_any}
use Rattle.wac_parser_resolve.proofs.Boards.{finished_held, first_refused, made_on_board, second_refused}
use Rattle.wac_parser_resolve.proofs.Giving.{same_names}
use Rattle.wac_parser_resolve.proofs.Growing.{within_trans}
use Rattle.wac_parser_resolve.proofs.Instances.{more_one}
use Rattle.wac_parser_resolve.proofs.Nodes.{item_stays}
use Rattle.wac_parser_resolve.proofs.PassedAll.{answered}
use Rattle.wac_parser_resolve.proofs.Staying.{given_stay}
use Rattle.wac_parser_resolve.proofs.expressions.finish.Goals as goal

pub returns-in_err-pass_all-clause-outcome : goal.returns-in_err-pass_all-clause-outcome
returns-in_err-pass_all-clause-outcome c root s k w gs on held given =
    let g = c.args.board.now.types.graph in
    let h = c.instantiate.new.graph in
    let p = view_package_name c.args.new.now.«package» in
    let i = c.in_ok-instance.instance in
    let noted = c.args.board.now.instances.noted.items in
    let names = root.nodes.now in
    let made = c.in_ok-instance.ensures.made noted names s k w p.span on.says held in
    let all = given_stay g h c.in_ok-instance.ensures.inner.later (names_of noted) (names_of (noted ++ (i, p.span) ∷ [])) (more_one noted (i, p.span)) gs c.args.given.items given in
    refused_outcome _ (finished s p k w gs _) c.from_residual-in_err-pass_all.result c.in_err-pass_all.field-0.0 c.from_residual-in_err-pass_all.ensures.1
    (first_refused (each (argument_fits k w) (tt {0}) gs) _ c.in_err-pass_all.field-0.0 (c.in_err-pass_all.ensures.outcome noted names s k w p.span gs made.0 all))

-- the names of the world's imports, in the collection as it is then
pub returns-in_err-complete_or_filled-clause-outcome : goal.returns-in_err-complete_or_filled-clause-outcome
returns-in_err-complete_or_filled-clause-outcome c root s k w gs on held given =
    let g = c.args.board.now.types.graph in
    let h = c.instantiate.new.graph in
    let p = view_package_name c.args.new.now.«package» in
    let i = c.in_ok-instance.instance in
    let noted = c.args.board.now.instances.noted.items in
    let names = root.nodes.now in
    let made = c.in_ok-instance.ensures.made noted names s k w p.span on.says held in
    let all = given_stay g h c.in_ok-instance.ensures.inner.later (names_of noted) (names_of (noted ++ (i, p.span) ∷ [])) (more_one noted (i, p.span)) gs c.args.given.items given in
    let j = c.pass_all.new.graph in
    let passed = c.in_ok-pass_all.ensures.outcome noted names s k w p.span gs made.0 all in
    let within = within_trans g h j c.in_ok-instance.ensures.within c.in_ok-pass_all.ensures.within in
    let world = c.world_of-world.result in
    let ns : imported_by c.types.result.now world ≡ names_of (imports_of w) =
    ap (λ (x : Collection). imported_by x world) (c.types.ensures ∙ within.types) ∙ ap (λ (x : WorldId). imported_by g.types x) (c.world_of-world.ensures.own held.held held.there) ∙ ap (λ (t : Stated). names_of (imports_of t)) held.world in
    let same = same_names h (names_of (noted ++ (i, p.span) ∷ [])) gs c.args.given.items all.are in
    refused_outcome _ (finished s p k w gs _) c.from_residual-in_err-complete_or_filled.result c.in_err-complete_or_filled.field-0.0 c.from_residual-in_err-complete_or_filled.ensures.1
    (second_refused (each (argument_fits k w) (tt {0}) gs) _ _ c.in_err-complete_or_filled.field-0.0
    (answered (each (argument_fits k w) (tt {0}) gs) (λ (v : ⊤). SaysMade j noted i names s (with_arguments (just_made k w p.span) gs)) (tt {0}) passed)
    (subst (λ (xs : List Name). IsRefusal (stated.complete (stated.is_filled (t.arguments (map view_instantiation_argument c.args.new.now.arguments.items))) p gs xs) c.in_err-complete_or_filled.field-0.0) ns
    (c.in_err-complete_or_filled.ensures gs same)))

pub returns-clause-outcome : goal.returns-clause-outcome
returns-clause-outcome c root s k w gs on held given =
    let g = c.args.board.now.types.graph in
    let h = c.instantiate.new.graph in
    let p = view_package_name c.args.new.now.«package» in
    let i = c.in_ok-instance.instance in
    let noted = c.args.board.now.instances.noted.items in
    let names = root.nodes.now in
    let made = c.in_ok-instance.ensures.made noted names s k w p.span on.says held in
    let all = given_stay g h c.in_ok-instance.ensures.inner.later (names_of noted) (names_of (noted ++ (i, p.span) ∷ [])) (more_one noted (i, p.span)) gs c.args.given.items given in
    let j = c.pass_all.new.graph in
    let passed = c.in_ok-pass_all.ensures.outcome noted names s k w p.span gs made.0 all in
    let within = within_trans g h j c.in_ok-instance.ensures.within c.in_ok-pass_all.ensures.within in
    let world = c.world_of-world.result in
    let ns : imported_by c.types.result.now world ≡ names_of (imports_of w) =
    ap (λ (x : Collection). imported_by x world) (c.types.ensures ∙ within.types) ∙ ap (λ (x : WorldId). imported_by g.types x) (c.world_of-world.ensures.own held.held held.there) ∙ ap (λ (t : Stated). names_of (imports_of t)) held.world in
    let same = same_names h (names_of (noted ++ (i, p.span) ∷ [])) gs c.args.given.items all.are in
    let m : Made = with_arguments (just_made k w p.span) gs in
    let P : ⊤ → Type 0 = λ v. SaysMade j noted i names s m in
    let b : Board = record { types = record { graph = j; packages = c.args.board.now.types.packages }; instances = c.note.new.self } in
    let whole = stated.complete (stated.is_filled (t.arguments (map view_instantiation_argument c.args.new.now.arguments.items))) p gs (names_of (imports_of w)) in
    finished_held (Denoting root b) (each (argument_fits k w) (tt {0}) gs) whole (with_made s m) i (answered (each (argument_fits k w) (tt {0}) gs) P (tt {0}) passed)
    (answered whole (λ (v : ⊤). Unit {0}) (tt {0})
    (subst (λ (xs : List Name). IsHeld (λ (u v : ⊤). Unit {0}) (stated.complete (stated.is_filled (t.arguments (map view_instantiation_argument c.args.new.now.arguments.items))) p gs xs) (tt {0})) ns
    (c.in_ok-complete_or_filled.ensures gs same)))
    (made_on_board root c.args.board.now b within refl i s m on c.in_ok-note.ensures.noted (held_any (each (argument_fits k w) (tt {0}) gs) P (tt {0}) passed)
    (item_stays h j c.in_ok-pass_all.ensures.inner.later i (instance_type w) made.1))

pub returns-clause-more : goal.returns-clause-more
returns-clause-more c i k at =
    let noted = c.args.board.now.instances.noted.items in
    ap (λ xs. slice_get (names_of xs) i) c.in_ok-note.ensures.noted ∙ more_one noted (c.in_ok-instance.instance, c.args.new.now.«package».span) i k at
