use Rattle.std.proofs.Common.{ap, ◌∙◌}
use Rattle.wac_types_base.specs.Entries.{Name, put_entry}
use Rattle.wac_parser_declare.specs.declared.scope.Binding.{Binding}
use Rattle.wac_parser_tree.specs.Views.{view_ident}
use Rattle.wac_parser_resolve.proofs.SoundGraph.{sound_inner, sound_with}
use Rattle.wac_parser_resolve.proofs.Stating.{bound_held}
use Rattle.wac_parser_resolve.proofs.state.State.bind.Goals as goal

pub returns-clause-sound : goal.returns-clause-sound
returns-clause-sound c =
    let b : Binding = record { kind = c.item_of-kind.result; span = c.args.id.now.span } in
    sound_inner c.args.self.now.board.types.graph c.name_once.new.graph c.bind.new.names c.name_once.ensures.inner
    (sound_with c.args.self.now.board.types.graph c.args.self.now.names c.bind.new.names c.args.id.now.string.now b c.in_ok-bind.ensures.ok c.requires.sound c.item_of-kind.ensures.stands)

pub returns-clause-outcome : goal.returns-clause-outcome
returns-clause-outcome c own d denotes s said =
    bound_held own c.args.self.now s said d c.args.node denotes (view_ident c.args.id.now) c.item_of-kind.result
    c.name_once.new.graph c.name_once.ensures.inner c.name_once.ensures.none c.name_once.ensures.within c.bind.new.names c.insert.new.self c.in_ok-bind.ensures.ok
    (c.in_ok-insert.ensures.ok ∙ ap (λ (n : Name). put_entry c.args.self.now.nodes n c.args.node) c.in_ok-from_str.ensures.ok) c.item_of-kind.ensures.own _
    (c.in_ok-bind.ensures.outcome c.args.self.now.board.types.graph.types)
