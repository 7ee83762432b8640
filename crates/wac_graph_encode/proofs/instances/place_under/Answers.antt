use Rattle.std.specs.Option.{option_copied}
use Rattle.std.specs.Prelude.{is_some, option_and_then}
use Rattle.std.proofs.Common.{ℕ, Option, slice_get, true≢false, sym, ap, ◌∙◌}
use Rattle.wac_graph_scopes.specs.declared.imports.SortIndex.{SortIndex}
use Rattle.wac_graph_encode.proofs.Readying.{placed_some}
use Rattle.wac_graph_encode.proofs.instances.place_under.Goals as goal

pub place_at-requires : goal.place_at-requires
place_at-requires c = placed_some c.args.places.now c.args.imports.now c.args.name.now c.in-Some.at.now (sym c.get.ensures ∙ ap option_copied c.in-Some.is) c.requires

pub returns : goal.returns
returns c =
    ap (λ (o : Option ℕ). option_and_then (λ k. option_and_then (λ q. q) (slice_get c.args.imports.now k)) o) (sym c.get.ensures ∙ ap option_copied c.in-Some.is)
    ∙ ap (λ (o : Option (Option SortIndex)). option_and_then (λ q. q) o) c.place_at.ensures

pub unreachable-requires : goal.unreachable-requires
unreachable-requires c =
    true≢false (sym c.requires ∙ ap (λ (o : Option ℕ). is_some (option_and_then (λ k. option_and_then (λ q. q) (slice_get c.args.imports.now k)) o)) (sym c.get.ensures ∙ ap option_copied c.in-None.is))
