-- Ids that are one.
use Rattle.std.proofs.Common.{rules, ◌≡◌, ◌↔◌, ◌||◌, Bool, true, false, true≢false, IsTrue, List, [], ◌∷◌, inl, inr, refl, sym}
use Rattle.std.specs.List.{list_any}
use Rattle.wac_types_base.specs.contracts.ids.DefinedTypeIdPartialEq.TheImpl.{eq-value as same_defined}
use Rattle.wac_types_base.specs.contracts.ids.InterfaceIdPartialEq.TheImpl.{eq-value}
use Rattle.wac_types_base.specs.declared.ids.DefinedTypeId.{DefinedTypeId}
use Rattle.wac_types_base.specs.declared.ids.InterfaceId.{InterfaceId}
use Rattle.wac_types_base.specs.Graph.{Among}

pub same_type : (a b : DefinedTypeId) → IsTrue (same_defined.it a b) ↔ (a ≡ b)
same_type a b = search rules

pub same_interface : (a b : InterfaceId) → IsTrue (eq-value.it a b) ↔ (a ≡ b)
same_interface a b = search rules

pub any_interface : (id : InterfaceId) (ids : List InterfaceId) → list_any (eq-value.it id) ids ≡ true → Among id ids
any_interface id [] h = absurd (true≢false (sym h))
any_interface id (x ∷ ids) h = go (eq-value.it id x) refl h (any_interface id ids)
  where
    go : (b : Bool) → eq-value.it id x ≡ b → (b || list_any (eq-value.it id) ids) ≡ true → (list_any (eq-value.it id) ids ≡ true → Among id ids) → Among id (x ∷ ids)
    go true e h later = inl ((same_interface id x).0 e)
    go false e h later = inr (later h)
