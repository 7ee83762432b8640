use Rattle.std.proofs.Common.{List, ◌++◌, length, map, sym, ap, ◌∙◌, arith}
use Rattle.wac_graph_bytes.specs.declared.entry.Declaration.{Declaration}
use Rattle.wac_graph_bytes.specs.Views.{view, declarations_of}
use Rattle.wac_graph_scopes.specs.Roots.{root_entries, root_exports}
use Rattle.wac_graph_encode.specs.Rooting.{early_in}
use Rattle.wac_graph_encode.proofs.Rooting.{entered_more, entered_all}
use Rattle.wac_graph_encode.proofs.declarations.add_entries.Goals as goal

pub loop-declaration-init : goal.loop-declaration-init
loop-declaration-init c =
    let gives = c.into_iter-declaration-iterator.ensures.into_iter_gives in
    let f = early_in c.args.early.now.entries in (
      record {
        entries = ap (λ (ds : List Declaration). map view c.args.entries.now.items ++ root_entries f c.args.exported.now (declarations_of ds)) gives.0;
        exports = ap (λ (ds : List Declaration). root_exports f c.args.exported.now (declarations_of ds)) gives.0;
      },
      gives.1 ∙ c.args.declarations.ok.0 ∙ ap length (sym gives.0),
    )

pub loop-declaration-preserved : goal.loop-declaration-preserved
loop-declaration-preserved c =
    let turn = c.in-Some.ensures.steps in
    let before = c.loop-declaration.invariant in (
      entered_more c.args.early.now.entries c.args.entries.now.items c.args.exported.now c.args.declarations.items c.loop-declaration.entries.items c.add_entry.new.entries.items
          c.loop-declaration.exported c.add_entry.new.exported c.in-Some.declaration
          c.loop-declaration.declaration-iterator.rest.items c.next.new.self.rest.items c.in_ok-add_entry.ensures turn.0 before.0,
      omega (arith, turn.1, before.1, ap length turn.0),
    )

pub returns : goal.returns
returns c =
    let before = c.loop-declaration.invariant in
    entered_all c.args.early.now.entries c.args.entries.now.items c.args.exported.now c.args.declarations.items c.loop-declaration.entries.items c.loop-declaration.exported c.loop-declaration.declaration-iterator.rest.items
    (sym before.1 ∙ c.in-None.ensures.steps.0) before.0
