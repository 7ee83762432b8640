use Rattle.std.proofs.Common.{length, Some, refl, sym, ◌∙◌}
use Rattle.std.proofs.lemmas.Bool.Decides.{Decides-ltb}
use Rattle.std.proofs.lemmas.Option.{slice_get_within, slice_get_read}
use Rattle.wac_graph_bytes.specs.declared.value.Sort.TheVariants as sort
use Rattle.wac_graph_scopes.specs.declared.imports.SortIndex.{SortIndex}
use Rattle.wac_graph_scopes.proofs.PlaceLaws.{if_none_map}
use Rattle.wac_graph_scopes.proofs.imports.instance_index.Goals as goal

pub returns-in-Some-clause-none : goal.returns-in-Some-clause-none
returns-in-Some-clause-none c =
    let places = c.args.places.now in
    let there = slice_get_read places (length places) c.args.at c.in-Some.place.now refl c.in-Some.ensures.lookup.3.0 c.in-Some.ensures.lookup.1 in
    if_none_map c.index_of_instance.result _ _ (λ none k h. let same = sym there ∙ h in none k (cc same)) c.index_of_instance.ensures.none

pub returns-in-None-clause-none : goal.returns-in-None-clause-none
returns-in-None-clause-none c k h =
    let places = c.args.places.now in
    let p : SortIndex = record { sort = sort.Instance; index = k } in
    let within = (Decides-ltb c.args.at (length places)).1 (slice_get_within places c.args.at (Some p) h) in
    absurd (cc (within, c.in-None.ensures.lookup.0))
