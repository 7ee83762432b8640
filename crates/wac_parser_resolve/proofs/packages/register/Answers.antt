use Rattle.std.proofs.Common.{ap, subst, sym, ◌∙◌}
use Rattle.std.proofs.lemmas.Result.{IfOk-weaker}
use Rattle.wac_types_base.specs.declared.item.ItemKind.{ItemKind}
use Rattle.wac_types_base.specs.declared.ids.WorldId.{WorldId}
use Rattle.wac_types_base.specs.Stated.{stated_of}
use Rattle.wac_graph_core.specs.Graph.{Graph}
use Rattle.wac_graph_core.specs.Packages.{key_of}
use Rattle.wac_parser_resolve.specs.Knowing.{SameContents, known_of, stated_handed}
use Rattle.wac_parser_resolve.proofs.Keeping.{Keeps-by, Keeps-enlarged, Keeps-trans}
use Rattle.wac_parser_resolve.proofs.Knowing.{err_gives, gets_registered, known_enlarged, ok_gives, package_registered, worlds_trans}
use Rattle.wac_parser_resolve.proofs.packages.register.Goals as goal

pub returns-clause-registered : goal.returns-clause-registered
returns-clause-registered c =
    let first = c.in_ok-world.ensures in
    let made = c.in_ok-package.ensures in
    IfOk-weaker c.add_package.result _ _
    (λ id reg. package_registered c.args.graph.now c.copy_world.new.graph c.make_package.new.graph c.add_package.new.graph c.in_ok-package.«package» c.in_ok-world.world (key_of c.args.name.now c.args.version) (stated_handed c.args.handed)
    c.see_sound.ensures c.see_sound-2.ensures first.enlarges made.enlarges first.stands (first.copied ∙ ap (λ (w : WorldId). stated_of c.args.handed.types.now (ItemKind.Component w)) c.ty.ensures) made.world made.key c.args.handed.«package».now.bytes (made.bytes ∙ (c.in_ok-bytes.ensures.items ∙ c.bytes.ensures)) id reg)
    c.add_package.ensures.registered

pub returns-clause-gets : goal.returns-clause-gets
returns-clause-gets c =
    let first = c.in_ok-world.ensures in
    let made = c.in_ok-package.ensures in
    ok_gives c.add_package.result c.add_package.ensures.registered
    (λ id reg. gets_registered c.args.graph.now c.copy_world.new.graph c.make_package.new.graph c.add_package.new.graph c.in_ok-package.«package» c.in_ok-world.world (key_of c.args.name.now c.args.version) (stated_handed c.args.handed)
    c.see_sound.ensures c.see_sound-2.ensures first.enlarges made.enlarges first.stands (first.copied ∙ ap (λ (w : WorldId). stated_of c.args.handed.types.now (ItemKind.Component w)) c.ty.ensures) made.world made.key c.args.handed.«package».now.bytes (made.bytes ∙ (c.in_ok-bytes.ensures.items ∙ c.bytes.ensures)) id reg)

pub returns-clause-same : goal.returns-clause-same
returns-clause-same c =
    err_gives c.add_package.result c.add_package.ensures.kept
    (λ kept. subst (λ (g : Graph). SameContents (known_of c.args.graph.now) (known_of g)) (sym kept)
    (worlds_trans _ _ _ (known_enlarged c.args.graph.now c.copy_world.new.graph c.see_sound.ensures c.in_ok-world.ensures.enlarges)
    (known_enlarged c.copy_world.new.graph c.make_package.new.graph c.see_sound-2.ensures c.in_ok-package.ensures.enlarges)))

pub returns-clause-keeps : goal.returns-clause-keeps
returns-clause-keeps c =
    let made = c.in_ok-package.ensures.enlarges in
    Keeps-trans _ _ _ (Keeps-enlarged _ _ c.in_ok-world.ensures.enlarges)
    (Keeps-trans _ _ _ (Keeps-enlarged _ _ made)
    (Keeps-by c.make_package.new.graph c.add_package.new.graph c.in_ok-package.«package» c.add_package.result made.grows.acyclic c.add_package.ensures.registered c.add_package.ensures.kept))
