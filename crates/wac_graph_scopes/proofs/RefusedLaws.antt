-- Refusals passed on: of a part, and through aliases.
use Rattle.std.proofs.Common.{◌≡◌, ℕ, List, Option, Some, None, Result, Ok, Err, slice_get, refl, sym, ap, ◌∙◌, subst, inl}
use Rattle.std.specs.Prelude.{IfErr}
use Rattle.wac_types_base.specs.declared.ids.DefinedTypeId.{DefinedTypeId}
use Rattle.wac_types_base.specs.declared.ids.InterfaceId.{InterfaceId}
use Rattle.wac_types_base.specs.declared.ids.ResourceId.{ResourceId}
use Rattle.wac_types_base.specs.declared.ids.WorldId.{WorldId}
use Rattle.wac_types_base.specs.declared.item.«Type».{«Type» as TypeKind}
use Rattle.wac_types_base.specs.declared.item.ValueType.{ValueType}
use Rattle.wac_graph_scopes.specs.declared.items.ItemScope.{ItemScope}
use Rattle.wac_types_parts.specs.Parts.{IsOfInterface, IsOfWorld}
use Rattle.wac_graph_scopes.specs.ItemRefusals.{RefusedType, RefusedTypeApart, RefusedItem}
use Rattle.wac_types_base.specs.declared.item.ItemKind.{ItemKind}
use Rattle.wac_types_base.specs.declared.defined.DefinedType.{DefinedType}
use Rattle.wac_types_base.specs.Record.{Collection}
use Rattle.wac_types_base.specs.Graph.{Among}
use Rattle.wac_types_base.specs.Entries.{Name}
use Rattle.wac_types_base.specs.Collection.{Slot, Stands, IsAcyclic, slots_of, option_slot}
use Rattle.wac_types_base.specs.Resolving.{ResolvesTo, resolved, through_alias}
use Rattle.wac_types_base.proofs.Slots.{slots_defined}
use Rattle.wac_types_base.proofs.Standing.{defined_found}
use Rattle.wac_types_base.proofs.Telling.{value_source}
use Rattle.wac_types_base.proofs.Looked.{among-get}
use Rattle.wac_types_fit.specs.Trees.{tree_in}
use Rattle.wac_types_fit.specs.Checking.{value_in, HoldsValues}
use Rattle.wac_graph_scopes.specs.declared.error.WriteError.{WriteError}
use Rattle.wac_graph_scopes.specs.declared.scope.TypeScope.{TypeScope}
use Rattle.wac_graph_scopes.specs.Known.{KeepsKnown}
use Rattle.wac_graph_scopes.specs.Scopes.{IsScopeOf, KeepsScope}
use Rattle.wac_graph_scopes.specs.Refusals.{IsUnnamed, IsUnknown, IsLookedUp, FindsAll, IsWhole, Dangles, own_dangles, borrow_dangles, part_dangles, DanglesApart, dangles_apart, own_apart, borrow_apart, part_apart, alias_apart, Refused, RefusedHandle, LacksTree, RefusedParts, RefusedApart, RefusedPlace}
use Rattle.wac_graph_scopes.proofs.PlaceLaws.{tree_on, found_on, scope_of_on, known_same_list}

pub if_err_map : {T E : Type 0} {P Q : E → Type 0} (r : Result T E) → ((e : E) → P e → Q e) → IfErr r P → IfErr r Q
if_err_map (Ok x) f h = tt
if_err_map (Err e) f h = f e h

pub if_err_both : {T E : Type 0} (r : Result T E) (P Q : E → Type 0) → IfErr r P → IfErr r Q → IfErr r (λ e. P e × Q e)
if_err_both (Ok x) P Q f g = tt
if_err_both (Err e) P Q f g = (f, g)

-- ---- earlier

-- a later scope of the same collection, if it was one, in which all that was known is known
pub record IsLater (c : Collection) (s m : TypeScope) : Type 0 where
  pub scope : IsScopeOf c s → IsScopeOf c m
  pub known : KeepsKnown s.known.all.items m.known.all.items

pub later_same : (c : Collection) (s : TypeScope) → IsLater c s s
later_same c s = record { scope = λ h. h; known = λ k m. m }

pub later_same_list : (c : Collection) (s m : TypeScope) → KeepsScope c s m → m.known.all ≡ s.known.all → IsLater c s m
later_same_list c s m keeps e = record { scope = scope_of_on c s m keeps; known = known_same_list s.known.all.items m.known.all.items (ap (λ v. v.items) e) }

-- what no type had later none had before
unknown_before : (c : Collection) (s m : TypeScope) → IsLater c s m → (v : ValueType) → IsUnknown c m v → IsUnknown c s v
unknown_before c s m l v f h has = f (l.scope h) (tree_on c s.known.all.items m.known.all.items (tree_in c (ItemKind.Value v)) l.known has)

-- what was not known later was not known before
looked_up_before : (c : Collection) (s m : TypeScope) → IsLater c s m → (k : ItemKind) → IsLookedUp c m k → IsLookedUp c s k
looked_up_before c s m l (ItemKind.Value (ValueType.Defined d)) f = λ no_alias h found. f no_alias (l.scope h) (found_on c s.known.all.items m.known.all.items d l.known found)
looked_up_before c s m l (ItemKind.Value (ValueType.Primitive p)) f = tt
looked_up_before c s m l (ItemKind.Value (ValueType.Own r)) f = unknown_before c s m l (ValueType.Own r) f
looked_up_before c s m l (ItemKind.Value (ValueType.Borrow r)) f = unknown_before c s m l (ValueType.Borrow r) f
looked_up_before c s m l (ItemKind.Ty t) f = tt
looked_up_before c s m l (ItemKind.Func t) f = tt
looked_up_before c s m l (ItemKind.Instance t) f = tt
looked_up_before c s m l (ItemKind.Component t) f = tt
looked_up_before c s m l (ItemKind.Module t) f = tt

pub dangles_before : (c : Collection) (rs : List (Name × ℕ)) (s m : TypeScope) → IsLater c s m → (k : ItemKind) → Dangles c rs m k → Dangles c rs s k
dangles_before c rs s m l _ (own_dangles {r = r} u f) = own_dangles u (unknown_before c s m l (ValueType.Own r) f)
dangles_before c rs s m l _ (borrow_dangles {r = r} u f) = borrow_dangles u (unknown_before c s m l (ValueType.Borrow r) f)
dangles_before c rs s m l _ (part_dangles {k = k} {v = v} f among d) = part_dangles (looked_up_before c s m l k f) among (dangles_before c rs s m l (ItemKind.Value v) d)

-- ---- in another scope with the same resources

pub refused_kept : (c : Collection) (k : ItemKind) (s u v : TypeScope) (e : WriteError) → v.resources ≡ u.resources → Refused c k s u e → Refused c k s v e
refused_kept c k s u v WriteError.Unwritable r h = subst (λ (rs : List (Name × ℕ)). Dangles c rs s k) (sym r) h
refused_kept c k s u v WriteError.Memory r h = tt

apart_refused_kept : (c : Collection) (k : ItemKind) (s u v : TypeScope) (e : WriteError) → v.resources ≡ u.resources → RefusedApart c k s u e → RefusedApart c k s v e
apart_refused_kept c k s u v WriteError.Unwritable r h = subst (λ (rs : List (Name × ℕ)). DanglesApart c rs s k) (sym r) h
apart_refused_kept c k s u v WriteError.Memory r h = tt

pub type_refused_kept : (c : Collection) (t : TypeKind) (s u v : ItemScope) (e : WriteError) → v.types.resources ≡ u.types.resources → RefusedTypeApart c t s u e → RefusedTypeApart c t s v e
type_refused_kept c (TypeKind.Resource x) s u v e r h = (h.0, subst (λ (rs : List (Name × ℕ)). IsUnnamed c rs x) (sym r) h.1)
type_refused_kept c (TypeKind.Func f) s u v e r h = refused_kept c (ItemKind.Func f) s.types u.types v.types e r h
type_refused_kept c (TypeKind.Value x) s u v e r h = apart_refused_kept c (ItemKind.Value x) s.types u.types v.types e r h
type_refused_kept c (TypeKind.Interface f) s u v e r h = tt
type_refused_kept c (TypeKind.World f) s u v e r h = tt
type_refused_kept c (TypeKind.Module f) s u v e r h = tt

-- ---- of parts

-- of the value type in the place of this number, where the places before it are written
pub place_refused : (c : Collection) (k : ItemKind) (n : ℕ) (slot : Slot) (o : Option ValueType) (s m u : TypeScope) (e : WriteError) → IsLater c s m → HoldsValues c k → slice_get (slots_of c k) n ≡ Some slot → o ≡ value_in slot → RefusedPlace c o m u e → RefusedParts c k s u e
place_refused c k n slot o s m u WriteError.Unwritable l holds at is h =
    let there : slot ≡ Some (ItemKind.Value h.0) = holds n slot at ∙ ap option_slot (sym is ∙ h.1) in
    (h.0, among-get (slots_of c k) n (Some (ItemKind.Value h.0)) (at ∙ ap Some there), dangles_before c u.resources s m l (ItemKind.Value h.0) h.2)
place_refused c k n slot o s m u WriteError.Memory l holds at is h = tt

-- of what is made of those parts, and was not known
pub parts_refused : (c : Collection) (k : ItemKind) (s m u : TypeScope) (e : WriteError) → IsLater c s m → IsLookedUp c s k → RefusedParts c k m u e → Refused c k s u e
parts_refused c k s m u WriteError.Unwritable l f h = part_dangles f h.1 (dangles_before c u.resources s m l (ItemKind.Value h.0) h.2)
parts_refused c k s m u WriteError.Memory l f h = tt

-- of what was not known, or could have been written anew
pub whole_refused : (c : Collection) (d : DefinedTypeId) (s m u : TypeScope) (e : WriteError) (o : Option ℕ) → IsLater c s m → u.resources ≡ s.resources → o ≡ None → FindsAll c s d o → RefusedParts c (ItemKind.Value (ValueType.Defined d)) m u e → Refused c (ItemKind.Value (ValueType.Defined d)) s u e
whole_refused c d s m u WriteError.Unwritable o l r none f h =
    let before = dangles_before c u.resources s m l (ItemKind.Value h.0) h.2 in
    let there = subst (λ (rs : List (Name × ℕ)). Dangles c rs s (ItemKind.Value h.0)) r before in
    let unknown = subst (FindsAll c s d) none f in
    part_dangles (λ no_alias known found. unknown known found (h.0, h.1, there)) h.1 before
whole_refused c d s m u WriteError.Memory o l r none f h = tt

-- nothing dangles in it in a scope with the same resources where the same is known
pub whole_before : (c : Collection) (s m : TypeScope) → IsScopeOf c s → m.known.all ≡ s.known.all → m.resources ≡ s.resources → (k : ItemKind) → IsWhole c m k → IsWhole c s k
whole_before c s m h all rs k whole p =
    let back : IsLater c m s = record { scope = λ x. h; known = known_same_list m.known.all.items s.known.all.items (ap (λ v. v.items) (sym all)) } in
    whole (p.0, p.1, subst (λ (r : List (Name × ℕ)). Dangles c r m (ItemKind.Value p.0)) (sym rs) (dangles_before c s.resources m s back (ItemKind.Value p.0) p.2))

pub parts_refused_apart : (c : Collection) (d : DefinedTypeId) (s u : TypeScope) (e : WriteError) → RefusedParts c (ItemKind.Value (ValueType.Defined d)) s u e → RefusedApart c (ItemKind.Value (ValueType.Defined d)) s u e
parts_refused_apart c d s u WriteError.Unwritable h = part_apart h
parts_refused_apart c d s u WriteError.Memory h = tt

pub refused_apart : (c : Collection) (k : ItemKind) (s u : TypeScope) (e : WriteError) → Refused c k s u e → RefusedApart c k s u e
refused_apart c k s u WriteError.Unwritable h = dangles_apart h
refused_apart c k s u WriteError.Memory h = tt

pub type_refused_apart : (c : Collection) (t : TypeKind) (s u : ItemScope) (e : WriteError) → RefusedType c t s u e → RefusedTypeApart c t s u e
type_refused_apart c (TypeKind.Value v) s u e h = refused_apart c (ItemKind.Value v) s.types u.types e h
type_refused_apart c (TypeKind.Resource x) s u e h = h
type_refused_apart c (TypeKind.Func f) s u e h = h
type_refused_apart c (TypeKind.Interface f) s u e h = h
type_refused_apart c (TypeKind.World f) s u e h = h
type_refused_apart c (TypeKind.Module f) s u e h = h

-- ---- of handles

pub own_refused : (c : Collection) (r : ResourceId) (s u : TypeScope) (e : WriteError) → u.resources ≡ s.resources → IsUnnamed c s.resources r → LacksTree c s (ValueType.Own r) e → Refused c (ItemKind.Value (ValueType.Own r)) s u e
own_refused c r s u WriteError.Unwritable same h f = own_dangles (subst (λ (rs : List (Name × ℕ)). IsUnnamed c rs r) (sym same) h) f
own_refused c r s u WriteError.Memory same h f = tt

pub borrow_refused : (c : Collection) (r : ResourceId) (s u : TypeScope) (e : WriteError) → u.resources ≡ s.resources → IsUnnamed c s.resources r → LacksTree c s (ValueType.Borrow r) e → Refused c (ItemKind.Value (ValueType.Borrow r)) s u e
borrow_refused c r s u WriteError.Unwritable same h f = borrow_dangles (subst (λ (rs : List (Name × ℕ)). IsUnnamed c rs r) (sym same) h) f
borrow_refused c r s u WriteError.Memory same h f = tt

pub own_refused_apart : (c : Collection) (r : ResourceId) (s u : TypeScope) (e : WriteError) → RefusedHandle c r u e → RefusedApart c (ItemKind.Value (ValueType.Own r)) s u e
own_refused_apart c r s u WriteError.Unwritable h = own_apart h
own_refused_apart c r s u WriteError.Memory h = tt

pub borrow_refused_apart : (c : Collection) (r : ResourceId) (s u : TypeScope) (e : WriteError) → RefusedHandle c r u e → RefusedApart c (ItemKind.Value (ValueType.Borrow r)) s u e
borrow_refused_apart c r s u WriteError.Unwritable h = borrow_apart h
borrow_refused_apart c r s u WriteError.Memory h = tt

-- ---- of what is at the end of aliases

-- an alias is not looked up
alias_unseen : (c : Collection) (s : TypeScope) (d : DefinedTypeId) (t : ValueType) → slice_get c.defined_types d.index ≡ Some (DefinedType.Alias t) → IsLookedUp c s (ItemKind.Value (ValueType.Defined d))
alias_unseen c s d t at no_alias h found = no_alias d t refl at

through : (c : Collection) (d : DefinedTypeId) (t : ValueType) (s u : TypeScope) (e : WriteError) → slice_get c.defined_types d.index ≡ Some (DefinedType.Alias t) → Among (Some (ItemKind.Value t)) (slots_of c (ItemKind.Value (ValueType.Defined d))) → Refused c (ItemKind.Value t) s u e → Refused c (ItemKind.Value (ValueType.Defined d)) s u e
through c d t s u WriteError.Unwritable at m h = part_dangles (alias_unseen c s d t at) m h
through c d t s u WriteError.Memory at m h = tt

through_apart : (c : Collection) (d : DefinedTypeId) (t : ValueType) (s u : TypeScope) (e : WriteError) → slice_get c.defined_types d.index ≡ Some (DefinedType.Alias t) → RefusedApart c (ItemKind.Value t) s u e → RefusedApart c (ItemKind.Value (ValueType.Defined d)) s u e
through_apart c d t s u WriteError.Unwritable at h = alias_apart at h
through_apart c d t s u WriteError.Memory at h = tt

pub alias_refused : (c : Collection) → IsAcyclic c → (v w : ValueType) → ResolvesTo c v w → Stands c (ItemKind.Value v) → (s u : TypeScope) (e : WriteError) → Refused c (ItemKind.Value w) s u e → Refused c (ItemKind.Value v) s u e
alias_refused c a v w (resolved h) stands s u e r = r
alias_refused c a v w (through_alias {d = d} {t = t} at res) stands s u e r =
    let f = defined_found c d stands in
    let k = value_source c a (ValueType.Defined d) d (DefinedType.Alias t) t refl at f.own refl in
    let there = subst (λ (l : List Slot). Among (Some (ItemKind.Value t)) l) (sym (slots_defined c d (DefinedType.Alias t) at f.own)) (inl refl) in
    through c d t s u e at there (alias_refused c a t w res k.0 s u e r)

pub alias_refused_apart : (c : Collection) (v w : ValueType) → ResolvesTo c v w → (s u : TypeScope) (e : WriteError) → RefusedApart c (ItemKind.Value w) s u e → RefusedApart c (ItemKind.Value v) s u e
alias_refused_apart c v w (resolved h) s u e r = r
alias_refused_apart c v w (through_alias {d = d} {t = t} at res) s u e r = through_apart c d t s u e at (alias_refused_apart c t w res s u e r)

-- of interfaces and worlds nothing is said
pub interface_unsaid : (c : Collection) (k : ItemKind) (id : InterfaceId) (s u : ItemScope) (e : WriteError) → IsOfInterface k id → RefusedItem c k s u e
interface_unsaid c (ItemKind.Instance j) id s u e is = tt
interface_unsaid c (ItemKind.Ty (TypeKind.Interface j)) id s u e is = tt
interface_unsaid c (ItemKind.Ty (TypeKind.Resource j)) id s u e is = absurd is
interface_unsaid c (ItemKind.Ty (TypeKind.Func j)) id s u e is = absurd is
interface_unsaid c (ItemKind.Ty (TypeKind.Value j)) id s u e is = absurd is
interface_unsaid c (ItemKind.Ty (TypeKind.World j)) id s u e is = absurd is
interface_unsaid c (ItemKind.Ty (TypeKind.Module j)) id s u e is = absurd is
interface_unsaid c (ItemKind.Func j) id s u e is = absurd is
interface_unsaid c (ItemKind.Component j) id s u e is = absurd is
interface_unsaid c (ItemKind.Module j) id s u e is = absurd is
interface_unsaid c (ItemKind.Value j) id s u e is = absurd is

pub world_unsaid : (c : Collection) (k : ItemKind) (id : WorldId) (s u : ItemScope) (e : WriteError) → IsOfWorld k id → RefusedItem c k s u e
world_unsaid c (ItemKind.Component j) id s u e is = tt
world_unsaid c (ItemKind.Ty (TypeKind.World j)) id s u e is = tt
world_unsaid c (ItemKind.Ty (TypeKind.Interface j)) id s u e is = absurd is
world_unsaid c (ItemKind.Ty (TypeKind.Resource j)) id s u e is = absurd is
world_unsaid c (ItemKind.Ty (TypeKind.Func j)) id s u e is = absurd is
world_unsaid c (ItemKind.Ty (TypeKind.Value j)) id s u e is = absurd is
world_unsaid c (ItemKind.Ty (TypeKind.Module j)) id s u e is = absurd is
world_unsaid c (ItemKind.Func j) id s u e is = absurd is
world_unsaid c (ItemKind.Instance j) id s u e is = absurd is
world_unsaid c (ItemKind.Module j) id s u e is = absurd is
world_unsaid c (ItemKind.Value j) id s u e is = absurd is

pub memory_apart : WriteError.Memory ≡ WriteError.Unwritable → ⊥
memory_apart e = cc e
