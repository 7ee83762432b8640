-- The name of the import at the place of an asked name is the name's spelling.
use Rattle.std.specs.Prelude.{find, option_and_then, option_map, unwrap_or, bytes_eq, is_some}
use Rattle.std.specs.Cmp.Lexicographic.{bytes_decides}
use Rattle.std.proofs.Common.{◌≡◌, ℕ, Bool, true, false, true≢false, List, [], ◌∷◌, Option, Some, None, inl, inr, slice_get, refl, sym, ap, ◌∙◌, if◌then◌else◌}
use Rattle.wac_types_base.specs.declared.ids.WorldId.{WorldId}
use Rattle.wac_types_base.specs.declared.item.ItemKind.{ItemKind}
use Rattle.wac_types_base.specs.Record.{Collection}
use Rattle.wac_types_base.specs.Entries.{Name, value_at}
use Rattle.wac_types_base.specs.Graph.{Among}
use Rattle.wac_types_parts.specs.Parts.{imports_of}
use Rattle.wac_composition.specs.Asks.{Ask}
use Rattle.wac_composition.specs.Classes.{class, spelled, spelling}
use Rattle.wac_graph_asks.specs.Outers.{AreOuters}
use Rattle.wac_graph_causes.specs.Standing.{spelled_at}

module _ (asks : List (Ask ℕ)) (c : Collection) (world : WorldId) (places : List (Name × ℕ)) (outers : AreOuters asks c world places) where
  ask_found : (n : Name) (as_ : List (Ask ℕ)) → ((a : Ask ℕ) → Among a as_ → Among a asks) → value_at places n ≡ None → find (λ a. bytes_eq a.name n) as_ ≡ None
  ask_found n [] h none = refl
  ask_found n (a ∷ as_) h none = go (bytes_eq a.name n) refl (ask_found n as_ (λ b m. h b (inr m)) none)
    where
      go : (b : Bool) → bytes_eq a.name n ≡ b → find (λ a. bytes_eq a.name n) as_ ≡ None → (if b then Some a else find (λ a. bytes_eq a.name n) as_) ≡ None
      go true e rest = absurd (true≢false (sym (outers.named a (h a (inl refl))) ∙ ap is_some (ap (value_at places) ((bytes_decides a.name n).0 e) ∙ none)))
      go false e rest = rest

  pub spelled_so : (imports : List (Name × ItemKind)) → imports ≡ imports_of c world → (n : Name) → spelled_at places imports n ≡ spelling asks n
  spelled_so imports are n = go (value_at places n) refl
    where
      go : (o : Option ℕ) → value_at places n ≡ o → unwrap_or (option_and_then (λ at. option_map (λ (e : Name × ItemKind). e.0) (slice_get imports at)) o) n ≡ spelling asks n
      go (Some at) e = let k = outers.placed n at e in ap (λ o. unwrap_or (option_map (λ (e : Name × ItemKind). e.0) o) n) (ap (λ es. slice_get es at) are ∙ k.1)
      go None e = sym (ap (λ o. unwrap_or (option_map (λ a. spelled (class asks a)) o) n) (ask_found n asks (λ a m. m) e))
