use Rattle.std.proofs.Common.{◌≡◌, sym, ap, ◌∙◌, inr}
use borrow.Follows.Closed.{read_of}
use Rattle.std.specs.Option.{ghost_name_of}
use Rattle.std.specs.Map.{lookup}
use Rattle.indexmap.specs.Layout.{set_value_at}
use Rattle.wac_types_names.specs.NameMaps.{by_key, put_value}
use Rattle.wac_types_names.specs.Spellings.{entries_with}
use Rattle.wac_types_names.proofs.Maps.{by_key-entries_with}
use Rattle.wac_types_names.proofs.Lent.{kept-set, set-place, no_value}
use Rattle.wac_types_names.proofs.names.NameMap.raw_get_mut.Goals as goal

pub invariant_of-self-lent : goal.invariant_of-self-lent
invariant_of-self-lent g c = λ _. (λ w. kept-set c.self.inside.names.items c.self.inside.definitions.entries c.in-Some.place w c.self.invariant, c.self.invariant)

pub returns-in-None : goal.returns-in-None
returns-in-None g c =
    let seen = sym (by_key-entries_with c.self.inside.names.items c.self.inside.definitions.entries c.self.invariant.lengths) ∙ ap by_key c.self.view_is in
    (ap (λ m. inr m) c.self.view_is, record { writes_back = tt; value = no_value (g.K.PartialEq.eq c.args.key.now) _ _ c.get_index_of.result seen c.in-None.is c.get_index_of.ensures.found })

pub returns-in-Some : goal.returns-in-Some
returns-in-Some g c =
    let eq = g.K.PartialEq.eq in
    let k = c.args.key.now in
    let ss = c.self.inside.names.items in
    let es = c.self.inside.definitions.entries in
    let seen = sym (by_key-entries_with ss es c.self.invariant.lengths) ∙ ap by_key c.self.view_is in
    let set : (w : g.row.V.Denot) → entries_with ss (set_value_at es c.in-Some.place w) ≡ put_value eq c.args.self.now k w =
    λ w. set-place eq k c.in-Some.place ss es c.self.invariant.lengths c.in-Some.ensures.index w ∙ ap (λ m. put_value eq m k w) c.self.view_is in (
      λ i. read_of (ghost_name_of c.get_index_mut.result) (λ w. set w i) (c.self.view_is i),
      record { writes_back = tt; value = c.get_index_mut.ensures.value ∙ c.in-Some.ensures.value ∙ ap (lookup (eq k)) seen },
    )
