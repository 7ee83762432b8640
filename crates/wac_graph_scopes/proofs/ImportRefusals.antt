-- Imports and exports that are refused.
use Rattle.std.proofs.Common.{◌≡◌, List, ◌⊎◌, inr, subst, Result, Ok, Err}
use Rattle.std.specs.Prelude.{IfErr}
use Rattle.wac_types_base.specs.declared.ids.InterfaceId.{InterfaceId}
use Rattle.wac_types_base.specs.declared.item.ItemKind.{ItemKind}
use Rattle.wac_types_base.specs.Entries.{Name}
use Rattle.wac_types_parts.specs.Parts.{IsOfInterface}
use Rattle.wac_graph_bytes.specs.Typing.{Worlds, Scope}
use Rattle.wac_graph_scopes.specs.declared.error.WriteError.{WriteError}
use Rattle.wac_graph_scopes.specs.declared.imports.ImportScope.{ImportScope}
use Rattle.wac_graph_scopes.specs.ItemRefusals.{RefusedItem}
use Rattle.wac_graph_scopes.specs.InstanceRefusals.{InstanceRefused}
use Rattle.wac_graph_scopes.specs.declared.imports.Importing.{Importing}
use Rattle.wac_graph_scopes.specs.Prepared.{KeepsUsed, IsPrepared}
use Rattle.wac_graph_scopes.specs.Imports.{WritesWorld}
use Rattle.wac_graph_scopes.specs.ImportRefusals.{IsRefusedThen}

module _ (w : Worlds) (a : Importing) (outer : List Scope) (imported exported : List Name) (k : ItemKind) (old between new : ImportScope) (A : Type 0) (kept : KeepsUsed a old between) (prepared : IsPrepared a between k) where
  -- what was refused once its aliases were made
  pub refused_then : {T : Type 0} (r : Result T WriteError) → WritesWorld w a.types.now outer a.world between imported exported
      → IfErr r (RefusedItem a.types.now k between.scope new.scope)
      → ((id : InterfaceId) → IsOfInterface k id → IfErr r (λ e. e ≡ WriteError.Unwritable → InstanceRefused a.types.now between.used 0 id))
      → IfErr r (λ e. e ≡ WriteError.Unwritable → A ⊎ IsRefusedThen w a outer imported exported k old new)
  refused_then (Ok x) goes h g = tt
  refused_then (Err e) goes h g = λ un. inr (
    between,
    record {
      goes = goes;
      item = subst (RefusedItem a.types.now k between.scope new.scope) un h;
      instance = λ id of. g id of un;
    },
    kept,
    prepared,
  )

  pub exporting_refused : {T : Type 0} (r : Result T WriteError) → WritesWorld w a.types.now outer a.world between imported exported
      → IfErr r (λ e. e ≡ WriteError.Unwritable → RefusedItem a.types.now k between.scope new.scope WriteError.Unwritable)
      → ((id : InterfaceId) → IsOfInterface k id → IfErr r (λ e. e ≡ WriteError.Unwritable → InstanceRefused a.types.now between.used 0 id))
      → IfErr r (λ e. e ≡ WriteError.Unwritable → A ⊎ IsRefusedThen w a outer imported exported k old new)
  exporting_refused (Ok x) goes h g = tt
  exporting_refused (Err e) goes h g = λ un. inr (between, record { goes = goes; item = h un; instance = λ id of. g id of un }, kept, prepared)
