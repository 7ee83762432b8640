-- The first outer import that cannot be written beside all of them.
use Rattle.std.proofs.Common.{◌≡◌, ℕ, ◌≤◌, Bool, true, List, [], map, filter, length, slice_get, Option, Some, None, sym, ap, subst, ◌∙◌, arith}
use Rattle.std.proofs.lemmas.List.{append-nil}
use Rattle.std.proofs.lemmas.Option.{same_Some, slice_get_within}
use Rattle.wac_types_base.specs.declared.ids.WorldId.{WorldId}
use Rattle.wac_types_base.specs.declared.item.ItemKind.{ItemKind}
use Rattle.wac_types_base.specs.Record.{Collection}
use Rattle.wac_types_base.specs.Entries.{Name, with_values}
use Rattle.wac_types_base.specs.Collection.{IsAcyclic}
use Rattle.wac_types_base.specs.Stated.{Stated, stated_of, uses_of, exports_of}
use Rattle.wac_types_base.proofs.Stating.{stated_uses}
use Rattle.wac_composition.specs.Writable.{is_fresh, root_of, holder, with_roots, unwritable, outer_unwritable}
use Rattle.wac_composition.specs.Writable.{Holder as Held}
use Rattle.wac_composition.specs.NotWritten.{component_holder}
use Rattle.wac_types_parts.specs.Parts.{imports_of}
use Rattle.wac_writable.specs.Tests.{IsFirst}
use Rattle.wac_types_parts.proofs.PartsStated.{world_uses_are, imports_are, world_exports_are}
use Rattle.wac_graph_asks.specs.Outers.{HasImportsAlone}
use Rattle.wac_graph_causes.specs.declared.error.Unwritten.{Unwritten}
use Rattle.wac_graph_causes.specs.Unwritable.{TellsName, TellsImport, TellsUnwritable, outer_cause}
use Rattle.wac_graph_causes.proofs.FirstCauses.{named_if, fails, none_fails, first_fails, tells_named}

-- it is told by the name that it has
pub import_told : (c : Collection) (w : WorldId) (at : ℕ) (n : Name) (k : ItemKind) (e : Unwritten) → slice_get (imports_of c w) at ≡ Some (n, k) → TellsName n e → TellsImport c w at e
import_told c w at n k e there t x is = subst (λ m. TellsName m e) (ap (λ (p : Name × ItemKind). p.0) (same_Some (n, k) x (sym there ∙ is))) t

module _ (c : Collection) (a : IsAcyclic c) (w : WorldId) (alone : HasImportsAlone c w) where
  abbrev pub outers : List (Name × Stated)
  outers = with_values (stated_of c) (imports_of c w)

  abbrev with_names : List Name → Held
  with_names ns = record { used = (holder [] outers).used; roots = ns }

  uses_none : uses_of (stated_of c (ItemKind.Component w)) ≡ []
  uses_none = world_uses_are c a w ∙ ap (stated_uses c) alone.uses

  exports_none : exports_of (stated_of c (ItemKind.Component w)) ≡ []
  exports_none = world_exports_are c a w ∙ ap (with_values (stated_of c)) alone.exports

  -- in it stand the outer imports alone
  pub alone_holder : component_holder (stated_of c (ItemKind.Component w)) ≡ holder [] outers
  alone_holder =
      (λ i. with_roots (holder (uses_none i) (imports_are c a w i)) (map root_of (filter is_fresh (exports_none i)))) ∙ ap with_names (append-nil (holder [] outers).roots)

  -- whether an import cannot be written beside what stands there
  abbrev pub fails_in : Held → Name × ItemKind → Bool
  fails_in h e = unwritable (stated_of c e.1) e.0 h true

  module _ (o : Option ℕ) (first : IsFirst (fails_in (component_holder (stated_of c (ItemKind.Component w)))) (imports_of c w) o) where
    beside : (p : Option ℕ) → o ≡ p → IsFirst (fails (stated_of c) (outer_unwritable outers)) (imports_of c w) p
    beside p is = subst (IsFirst (fails_in (holder [] outers)) (imports_of c w)) is (subst (λ h. IsFirst (fails_in h) (imports_of c w) o) alone_holder first)

    pub outers_pass : o ≡ None → outer_cause outers ≡ None
    outers_pass is = none_fails (stated_of c) (outer_unwritable outers) (imports_of c w) (beside None is)

    module _ (at : ℕ) (is : o ≡ Some at) where
      found : (x : Name × ItemKind) × (slice_get (imports_of c w) at ≡ Some x) × (outer_cause outers ≡ named_if true x.0)
      found = let p = beside (Some at) is in (p.0, p.1, first_fails (stated_of c) (outer_unwritable outers) (imports_of c w) at p.0 p.1 p.2 p.3)

      pub outer_within : length (imports_of c w) ≤ at → outer_cause outers ≡ None
      outer_within past = let within = slice_get_within (imports_of c w) at found.0 found.1 in absurd (omega (arith, past, within))

      pub outer_told : (e : Unwritten) → TellsImport c w at e → TellsUnwritable (outer_cause outers) e
      outer_told e t = tells_named found.0.0 (outer_cause outers) e found.2 (t found.0 found.1)
