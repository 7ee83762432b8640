-- Places of imports under names: of each name the first is found.
use Rattle.std.proofs.Common.{◌≡◌, ℕ, suc, ◌+◌, List, [], ◌∷◌, ◌++◌, length, take, Option, Some, None, true, cond, inl, inr, refl, sym, ap, subst, ◌∙◌, arith, append_assoc, slice_get}
use Rattle.std.specs.Prelude.{is_some, unwrap_or}
use Rattle.std.specs.Option.{option_or}
use Rattle.wac_types_base.specs.declared.ids.InterfaceId.{InterfaceId}
use Rattle.wac_types_base.specs.declared.item.ItemKind.{ItemKind}
use Rattle.wac_types_base.specs.declared.defined.UsedType.{UsedType}
use Rattle.wac_types_base.specs.Record.{Collection}
use Rattle.wac_types_base.specs.Entries.{Name, value_at}
use Rattle.wac_types_base.specs.Parts.{identifier_in}
use Rattle.wac_types_base.proofs.Lists.{name_tested, value_both}
use Rattle.wac_types_base.proofs.Looked.{take-one_more}
use Rattle.std.proofs.lemmas.List.{length-take-le}
use Rattle.std.proofs.lemmas.Option.{slice_get_within}
use Rattle.wac_graph_scopes.specs.declared.imports.Importing.{Importing}
use Rattle.wac_graph_scopes.specs.declared.imports.ImportScope.{ImportScope}
use Rattle.wac_types_parts.specs.declared.parts.Use.{Use}
use Rattle.wac_types_parts.specs.Parts.{interface_in, exports_of, world_uses_of, IsUseNamed, used_if, taken_in}
use Rattle.wac_graph_scopes.specs.Used.{IsUsedAs}
use Rattle.wac_graph_scopes.specs.Items.{Never}
use Rattle.wac_graph_scopes.specs.Imports.{IsUseOf, IsInstanceImport, own_places, FindsFirst, IsImportedAs, IsFoundFor}

or_any : (o p : Option ℕ) → is_some o ≡ true → o ≡ option_or o p
or_any (Some x) p e = refl
or_any None p e = absurd (cc e)

or_none : (o : Option ℕ) → o ≡ option_or o None
or_none (Some x) = refl
or_none None = refl

-- one more behind those that are found so
pub first_next : (new found all more : List (Name × ℕ)) → FindsFirst new (found ++ more) → FindsFirst found all → FindsFirst new (all ++ more)
first_next new found all more a f n = a n ∙ value_both found more n ∙ ap (λ o. option_or o (value_at more n)) (f n) ∙ sym (value_both all more n)

-- a name that is there is found as it was
pub first_kept : (xs : List (Name × ℕ)) (n : Name) (at : ℕ) → is_some (value_at xs n) ≡ true → FindsFirst xs (xs ++ (n, at) ∷ [])
first_kept xs n at there m = elim (name_tested m n) [
  | inl same ↦ or_any (value_at xs m) (value_at ((n, at) ∷ []) m) (ap (λ (k : Name). is_some (value_at xs k)) same.0 ∙ there) ∙ sym (value_both xs ((n, at) ∷ []) m)
  | inr other ↦ or_none (value_at xs m) ∙ ap (option_or (value_at xs m)) (sym (ap (λ b. cond b (Some at) None) other.1)) ∙ sym (value_both xs ((n, at) ∷ []) m)
]

-- the place of one more name
pub own_next : (from : ℕ) (ns : List Name) (n : Name) → own_places from (ns ++ n ∷ []) ≡ own_places from ns ++ (n, from + length ns) ∷ []
own_next from [] n = let same : from ≡ from + 0 = omega arith in ap (λ k. (n, k) ∷ []) same
own_next from (m ∷ ns) n =
    let same : from + 1 + length ns ≡ from + suc (length ns) = omega arith in
    ap (λ l. (m, from) ∷ l) (own_next (from + 1) ns n ∙ ap (λ k. own_places (from + 1) ns ++ (n, k) ∷ []) same)

pub own_places_next : (old : List (Name × ℕ)) (ns : List Name) (i : ℕ) (n : Name) → slice_get ns i ≡ Some n → (old ++ own_places 0 (take i ns)) ++ (n, i) ∷ [] ≡ old ++ own_places 0 (take (i + 1) ns)
own_places_next old ns i n e =
    let lt = slice_get_within ns i n e in
    let taken = length-take-le i ns (omega (arith, lt)) in
    let len : 0 + length (take i ns) ≡ i = omega (arith, taken) in
    append_assoc old (own_places 0 (take i ns)) ((n, i) ∷ [])
    ∙ ap (λ l. old ++ l) (ap (λ k. own_places 0 (take i ns) ++ (n, k) ∷ []) (sym len) ∙ sym (own_next 0 (take i ns) n) ∙ ap (own_places 0) (sym (take-one_more ns i n e)))

pub asked_next : (old ps : List (Name × ℕ)) (i : ℕ) (x : Name × ℕ) → slice_get ps i ≡ Some x → (old ++ take i ps) ++ x ∷ [] ≡ old ++ take (i + 1) ps
asked_next old ps i x e = append_assoc old (take i ps) (x ∷ []) ∙ ap (λ l. old ++ l) (sym (take-one_more ps i x e))

-- ---- types that are used

pub kind_of : {T : Type 0} (x y : Name × T) → Some x ≡ Some y → x.1 ≡ y.1
kind_of x y e = let same : x ≡ y = cc e in ap (λ p. p.1) same

-- an import is of one interface
pub same_import : (is : List (Name × ItemKind)) (at : ℕ) (i j : InterfaceId) → IsInstanceImport is at i → IsInstanceImport is at j → i ≡ j
same_import is at i j g h =
    let kinds = kind_of (g.0, ItemKind.Instance i) (h.0, ItemKind.Instance j) (sym g.1 ∙ h.1) in
    cc kinds

-- no type stands under the name, and no import gives it
pub found_nowhere : (a : Importing) (s : ImportScope) (u : Use) (item : ItemKind) (i : Name) → identifier_in (interface_in a.types.now u.interface) ≡ Some i
    → Never (IsUsedAs a.types.now s.used i u.there.now item) → Never (IsImportedAs a s i u.there.now item) → Never (IsFoundFor a s u item)
found_nowhere a s u item i is no_used no_import k h =
    let this : h.0 ≡ i = cc (h.1, is) in
    elim h.2 [
      | inl x ↦ no_used k (subst (λ (m : Name). IsUsedAs a.types.now s.used m u.there.now item k) this x)
      | inr x ↦ no_import k (subst (λ (m : Name). IsImportedAs a s m u.there.now item k) this x)
    ]

-- ---- uses of a name

named_once : (c : Collection) (us : List (Name × UsedType)) (n : Name) (u v : Use) → IsUseNamed us n u → IsUseNamed us n v → taken_in c u ≡ taken_in c v
named_once c us n u v x y =
    let same : x.0 ≡ y.0 = cc (x.1, y.1) in
    let there : u.there.now ≡ v.there.now = x.2.there ∙ ap (λ (e : UsedType). unwrap_or e.name n) same ∙ sym y.2.there in
    let one : u.interface ≡ v.interface = x.2.interface ∙ ap (λ (e : UsedType). e.interface) same ∙ sym y.2.interface in
    ap (λ (i : InterfaceId). used_if (value_at (exports_of c i) u.there.now)) one ∙ ap (λ (m : Name). used_if (value_at (exports_of c v.interface) m)) there

-- the uses of a name take one type
pub taken_once : (a : Importing) (n : Name) (u v : Use) → IsUseOf a n u → IsUseOf a n v → taken_in a.types.now u ≡ taken_in a.types.now v
taken_once a n u v (inl x) (inl y) = named_once a.types.now (world_uses_of a.types.now a.world) n u v x y
taken_once a n u v (inr x) (inr y) = named_once a.types.now a.uses.now n u v x.1 y.1
taken_once a n u v (inl x) (inr y) = absurd (cc (x.1, y.0))
taken_once a n u v (inr x) (inl y) = absurd (cc (x.0, y.1))
