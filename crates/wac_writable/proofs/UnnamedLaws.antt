-- Interfaces without identifiers that are reached, one use after the other.
use Rattle.std.specs.Prelude.{not, is_some, ◌<◌, ◌==◌, is_none}
use Rattle.std.proofs.Common.{◌≡◌, ℕ, zero, suc, ◌≤◌, ◌+◌, ◌||◌, Bool, true, false, true≢false, List, [], ◌∷◌, Option, Some, None, map, drop, length, slice_get, unwrap_or, option_copied, OnOk, IfOk, Bor, Result, Ok, Err, refl, sym, ap, ◌∙◌, arith, ◌⊎◌, inl, inr}
use Rattle.std.proofs.lemmas.Bool.Decides.{nat_tests}
use Rattle.std.specs.Option.{option_map}
use Rattle.std.specs.List.{list_any, flat_map}
use Rattle.std.proofs.lemmas.List.Folds.{list_any-append}
use Rattle.wac_types_base.specs.declared.ids.InterfaceId.{InterfaceId}
use Rattle.wac_types_base.specs.declared.ids.WorldId.{WorldId}
use Rattle.wac_types_base.specs.declared.item.ItemKind.{ItemKind}
use Rattle.wac_types_base.specs.declared.defined.Interface.{Interface}
use Rattle.wac_types_base.specs.declared.defined.UsedType.{UsedType}
use Rattle.wac_types_base.specs.contracts.ids.InterfaceIdPartialEq.TheImpl.{eq-value}
use Rattle.wac_types_base.specs.Entries.{Name}
use Rattle.wac_types_parts.proofs.Ids.{same_interface}
use Rattle.wac_types_base.specs.Record.{Collection}
use Rattle.wac_types_base.specs.Graph.{Wholes, no_more, more, hole}
use Rattle.wac_types_base.specs.Collection.{Shape, Stands, IsAcyclic, interface_entry, use_names}
use Rattle.wac_types_base.specs.Stated.{Stated, stated_of, stated_entry, row, folded_row, uses_from, only_places, uses_of, identifier_of}
use Rattle.wac_types_base.proofs.Standing.{interface_found}
use Rattle.wac_types_base.proofs.Stating.{stated_uses, interface_stated}
use Rattle.wac_composition.specs.Merging.{reached_at, reached}
use Rattle.wac_composition.specs.Writable.{some_unnamed}
use Rattle.wac_types_base.specs.Parts.{identifier_in}
use Rattle.wac_types_parts.specs.Parts.{uses_of as uses_in, world_uses_of as world_uses_in, interface_in, IsUseAt}
use Rattle.wac_types_parts.specs.declared.parts.Use.{Use}
use Rattle.wac_writable.specs.Unnamed.{uses_unnamed, world_uses_unnamed, is_unnamed, found_of, Knows, KnowsAll, Learns}
use Rattle.wac_types_parts.proofs.PartsStated.{stated_nothing, stands_or_not, uses_are, world_uses_are, identifier_is}

abbrev lacks : Stated → Bool
lacks x = is_none (identifier_of x)

-- ---- what an interface reaches is what it uses, and what those reach

reached_uses : (us : List (Name × Option Name)) (ts : Wholes Shape) → list_any lacks (flat_map (λ u. u.0.interface ∷ u.1) (uses_from us (folded_row reached_at ts))) ≡ some_unnamed (map (λ u. u.0) (uses_from us (only_places ts)))
reached_uses [] ts = refl
reached_uses (u ∷ us) no_more = refl
reached_uses (u ∷ us) (hole ts) = reached_uses us ts
reached_uses (u ∷ us) (more t ts) =
    list_any-append lacks (t ∷ reached t) (flat_map (λ u. u.0.interface ∷ u.1) (uses_from us (folded_row reached_at ts)))
    ∙ ap (λ b. (lacks t || list_any lacks (reached t)) || b) (reached_uses us ts)

pub reached_unnamed : (c : Collection) → IsAcyclic c → (id : InterfaceId) → list_any lacks (reached (stated_of c (ItemKind.Instance id))) ≡ uses_unnamed c id
reached_unnamed c a id = elim (stands_or_not c (ItemKind.Instance id)) [
  | inl s ↦
      let f = interface_found c id s in
      let e = interface_stated c a id f.value f.at f.own in
      ap (λ x. list_any lacks (reached x)) e ∙ by_entry f.value ∙ sym (ap (λ x. some_unnamed (uses_of x)) e)
  | inr n ↦
      let e = stated_nothing c (ItemKind.Instance id) n in
      ap (λ x. list_any lacks (reached x)) e ∙ sym (ap (λ x. some_unnamed (uses_of x)) e)
]
  where
    by_entry : (i : Interface) → list_any lacks (reached (stated_entry c (interface_entry i))) ≡ some_unnamed (uses_of (stated_entry c (interface_entry i)))
    by_entry i = reached_uses (use_names i.uses) (row (map (option_map (stated_of c)) (interface_entry i).1))

-- ---- use by use

abbrev pub unnamed_use : Collection → Name × UsedType → Bool
unnamed_use c u = is_unnamed c u.1.interface

each_use : (c : Collection) → IsAcyclic c → (us : List (Name × UsedType)) → some_unnamed (stated_uses c us) ≡ list_any (unnamed_use c) us
each_use c a [] = refl
each_use c a (u ∷ us) =
    let x = stated_of c (ItemKind.Instance u.1.interface) in
    ap (λ b. (lacks x || b) || some_unnamed (stated_uses c us)) (reached_unnamed c a u.1.interface) ∙ ap (λ b. (lacks x || uses_unnamed c u.1.interface) || b) (each_use c a us)

pub used_by : (c : Collection) → IsAcyclic c → (id : InterfaceId) → uses_unnamed c id ≡ list_any (unnamed_use c) (uses_in c id)
used_by c a id = ap some_unnamed (uses_are c a id) ∙ each_use c a (uses_in c id)

pub used_by_world : (c : Collection) → IsAcyclic c → (id : WorldId) → world_uses_unnamed c id ≡ list_any (unnamed_use c) (world_uses_in c id)
used_by_world c a id = ap some_unnamed (world_uses_are c a id) ∙ each_use c a (world_uses_in c id)

pub any_at : {X : Type 0} (p : X → Bool) (xs : List X) (i : ℕ) (x : X) → slice_get xs i ≡ Some x → list_any p (drop i xs) ≡ (p x || list_any p (drop (i + 1) xs))
any_at p [] i x e = absurd (cc e)
any_at p (y ∷ ys) zero x e = let s : y ≡ x = cc e in ap (λ z. p z || list_any p ys) s
any_at p (y ∷ ys) (suc i) x e = let n : suc i + 1 ≡ suc (i + 1) = omega arith in any_at p ys i x e ∙ ap (λ n. p x || list_any p (drop n (y ∷ ys))) (sym n)

pub any_past : {X : Type 0} (p : X → Bool) (xs : List X) (i : ℕ) → length xs ≤ i → list_any p (drop i xs) ≡ false
any_past p [] zero h = refl
any_past p [] (suc i) h = refl
any_past p (y ∷ ys) zero h = absurd (omega arith)
any_past p (y ∷ ys) (suc i) h = any_past p ys i (omega arith)

pub no_gap : {X : Type 0} (xs : List X) (i n : ℕ) → i < n → n ≡ length xs → length xs ≤ i → ⊥
no_gap xs i n lt is past = omega (arith, lt, is, past)

-- a use is looked at: it settles the answer, or those that are left do
module _ (c : Collection) (us : List (Name × UsedType)) (at : ℕ) (u : Use) (is : IsUseAt us at u) where
  same_use : is_unnamed c u.interface ≡ unnamed_use c is.0
  same_use = ap (is_unnamed c) is.2.interface

  pub use_settles : (b : Bool) → b ≡ list_any (unnamed_use c) (drop at us) → is_unnamed c u.interface ≡ true → true ≡ b
  use_settles b e t = sym (e ∙ any_at (unnamed_use c) us at is.0 is.1 ∙ ap (λ b. b || list_any (unnamed_use c) (drop (at + 1) us)) (sym same_use ∙ t))

  pub use_leaves : (b : Bool) → b ≡ list_any (unnamed_use c) (drop at us) → is_unnamed c u.interface ≡ false → b ≡ list_any (unnamed_use c) (drop (at + 1) us)
  use_leaves b e f = e ∙ any_at (unnamed_use c) us at is.0 is.1 ∙ ap (λ b. b || list_any (unnamed_use c) (drop (at + 1) us)) (sym same_use ∙ f)

-- ---- what is remembered

id_cases : (a b : InterfaceId) → (eq-value.it a b ≡ false) ⊎ (a ≡ b)
id_cases a b = by (eq-value.it a b) refl
  where
    by : (r : Bool) → eq-value.it a b ≡ r → (eq-value.it a b ≡ false) ⊎ (a ≡ b)
    by true e = inr ((same_interface a b).0 e)
    by false e = inl e

pub learns_nothing : (c : Collection) (es : List (InterfaceId × Bool)) → Knows c es → Learns c es es
learns_nothing c es k = record { knows = k; keeps = λ id b e. e }

pub learns_more : (c : Collection) (xs ys zs : List (InterfaceId × Bool)) → Learns c xs ys → Learns c ys zs → Learns c xs zs
learns_more c xs ys zs f g = record { knows = g.knows; keeps = λ id b e. g.keeps id b (f.keeps id b e) }

-- what is true of an interface is remembered of it, beside the rest
pub learns_one : (c : Collection) (xs ys zs : List (InterfaceId × Bool)) (id : InterfaceId) (b : Bool) → Learns c xs ys → b ≡ uses_unnamed c id → found_of xs id ≡ None
    → found_of zs id ≡ Some b → ((j : InterfaceId) → eq-value.it id j ≡ false → found_of zs j ≡ found_of ys j) → Learns c xs zs
learns_one c xs ys zs id b l is new own others = record { knows = λ j d e. known j d e (id_cases id j); keeps = λ j d e. kept j d e (id_cases id j) }
  where
    known : (j : InterfaceId) (d : Bool) → found_of zs j ≡ Some d → (eq-value.it id j ≡ false) ⊎ (id ≡ j) → d ≡ uses_unnamed c j
    known j d e (inl o) = l.knows j d (sym (others j o) ∙ e)
    known j d e (inr s) = let same : b ≡ d = cc (own, s, e) in sym same ∙ is ∙ ap (uses_unnamed c) s

    kept : (j : InterfaceId) (d : Bool) → found_of xs j ≡ Some d → (eq-value.it id j ≡ false) ⊎ (id ≡ j) → found_of zs j ≡ Some d
    kept j d e (inl o) = others j o ∙ l.keeps j d e
    kept j d e (inr s) = absurd (let n : ⊥ = cc (new, s, e) in n)

-- the interfaces below an index are remembered
abbrev pub KnowsBelow : Collection → ℕ → List (InterfaceId × Bool) → Type 0
KnowsBelow c n es = (i : ℕ) → i < n → (b : Bool) × (found_of es (record { collection = c.number; index = i }) ≡ Some b)

pub knows_next : (c : Collection) (n : ℕ) (xs ys : List (InterfaceId × Bool)) (b : Bool) → KnowsBelow c n xs → Learns c xs ys → found_of ys (record { collection = c.number; index = n }) ≡ Some b → KnowsBelow c (n + 1) ys
knows_next c n xs ys b k l e i lt = by (i == n) refl
  where
    by : (t : Bool) → (i == n) ≡ t → (d : Bool) × (found_of ys (record { collection = c.number; index = i }) ≡ Some d)
    by true s = (b, let same : i ≡ n = grind (arith, nat_tests) in ap (λ i. found_of ys (record { collection = c.number; index = i })) same ∙ e)
    by false s = let below : i < n = grind (arith, nat_tests) in let o = k i below in (o.0, l.keeps _ o.0 o.1)

pub knows_all : (c : Collection) (n : ℕ) (es : List (InterfaceId × Bool)) → Knows c es → KnowsBelow c n es → n ≡ length c.interfaces → KnowsAll c es
knows_all c n es k below len id = by (found_of es id) refl
  where
    there : Stands c (ItemKind.Instance id) → (b : Bool) × (found_of es id ≡ Some b)
    there s =
        let f = interface_found c id s in
        let o = below id.index (omega (arith, f.within, len)) in
        (o.0, ap (λ n. found_of es (record { collection = n; index = id.index })) f.own ∙ o.1)

    by : (o : Option Bool) → found_of es id ≡ o → unwrap_or o false ≡ uses_unnamed c id
    by (Some b) e = k id b e
    by None e = elim (stands_or_not c (ItemKind.Instance id)) [
      | inl s ↦ let t = there s in absurd (let n : ⊥ = cc (e, t.1) in n)
      | inr n ↦ sym (ap (λ x. some_unnamed (uses_of x)) (stated_nothing c (ItemKind.Instance id) n))
    ]

-- ---- identifiers

none_copied : (o : Option (Bor Name)) (b : Bool) → is_some o ≡ not b → b ≡ is_none (option_copied o)
none_copied None true e = refl
none_copied None false e = absurd (true≢false (sym e))
none_copied (Some x) true e = absurd (true≢false e)
none_copied (Some x) false e = refl

pub lacks_identifier : (c : Collection) → IsAcyclic c → (id : InterfaceId) (o : Option (Bor Name)) (b : Bool) → option_copied o ≡ identifier_in (interface_in c id) → is_some o ≡ not b → b ≡ is_none (identifier_of (stated_of c (ItemKind.Instance id)))
lacks_identifier c a id o b e n = none_copied o b n ∙ ap (λ n. is_none n) (e ∙ sym (identifier_is c a id))

-- an interface that has an identifier is unnamed if it uses one without
pub by_rest : (c : Collection) (xs es : List (InterfaceId × Bool)) (id : InterfaceId) {E : Type 0} (r : Result Bool E) → false ≡ is_none (identifier_of (stated_of c (ItemKind.Instance id))) → OnOk r (Learns c xs es) → IfOk r (λ b. found_of es id ≡ Some b) → IfOk r (λ b. b ≡ is_unnamed c id)
by_rest c xs es id (Ok b) e l f = l.knows id b f ∙ ap (λ d. d || uses_unnamed c id) e
by_rest c xs es id (Err x) e l f = tt
