use Rattle.std.proofs.Common.{◌≡◌, ℕ, Some, None, sym, ap, subst, ◌∙◌}
use Rattle.std.specs.Prelude.{option_map}
use Rattle.std.proofs.lemmas.List.{append-nil}
use Rattle.std.proofs.lemmas.Result.{on_ok_weaker}
use Rattle.wac_types_base.specs.Entries.{Name}
use Rattle.wac_graph_bytes.specs.Entries.{End}
use Rattle.wac_graph_bytes.specs.Views.{before}
use Rattle.wac_graph_bytes.specs.declared.entry.Declaration.{Declaration}
use Rattle.wac_graph_scopes.specs.Roots.{if_new}
use Rattle.wac_graph_encode.specs.Rooting.{AddsRead, early_in, early_named, plain_entries}
use Rattle.wac_graph_encode.proofs.Rooting.{adds_repeated, new_export}
use Rattle.wac_graph_encode.proofs.declarations.add_repeated.Goals as goal

pub add_export-requires : goal.add_export-requires
add_export-requires c =
    let x : Name × ℕ = early_named c.in-Some.one.now in
    let is : Some x ≡ if_new c.args.exported.now (early_in c.args.early.now.entries c.args.index) = ap (option_map (λ e. early_named e.now)) (sym c.in-Some.is) ∙ c.early_at.ensures in
    new_export c.args.early.now.entries c.args.exported.now c.args.index x is

pub returns-in-Some : goal.returns-in-Some
returns-in-Some c =
    let early = c.args.early.now.entries in
    let seen = c.args.exported.now in
    let x : Name × ℕ = early_named c.in-Some.one.now in
    let is : Some x ≡ if_new seen (early_in early c.args.index) = ap (option_map (λ e. early_named e.now)) (sym c.in-Some.is) ∙ c.early_at.ensures in
    on_ok_weaker c.add_export.result
    (λ a. adds_repeated early c.args.declaration c.args.index c.requires c.args.entries.now.items c.add_export.new.entries.items seen c.add_export.new.exported (Some x) is a.0 a.1)
    c.add_export.ensures

pub returns-in-None : goal.returns-in-None
returns-in-None c =
    let early = c.args.early.now.entries in
    let seen = c.args.exported.now in
    let old = c.args.entries.now.items in
    let new = c.add_plain.new.entries.items in
    let is : None ≡ if_new seen (early_in early c.args.index) = ap (option_map (λ e. early_named e.now)) (sym c.in-None.is) ∙ c.early_at.ensures in
    on_ok_weaker c.add_plain.result
    (λ a. adds_repeated early c.args.declaration c.args.index c.requires old new seen seen None is (subst (λ (d : Declaration). AddsRead old new (plain_entries (before d End))) c.requires a) (sym (append-nil seen)))
    c.add_plain.ensures
