-- Where those imports stand that an import uses, and the orders in which they come before it.
use Rattle.std.proofs.Common.{◌≡◌, ◌<◌, ℕ, ◌+◌, suc, Bool, true, false, true≢false, List, [], ◌∷◌, ◌++◌, length, get_or, take, drop, Option, Some, None, slice_get, refl, sym, ap, ◌∙◌, subst, arith, append_assoc, inl, inr}
use Rattle.std.specs.Prelude.{eqb, nat_eq, filter_map, option_to_list, unwrap_or, if◌then◌else◌}
use Rattle.std.specs.List.{position, cons_option}
use Rattle.std.specs.Option.{option_map_or}
use Rattle.std.proofs.lemmas.Bool.Decides.{Decides-eqb}
use Rattle.std.proofs.lemmas.List.{append-nil, take_more, take-append-drop}
use Rattle.std.proofs.lemmas.List.Elements.{filter_map-append}
use Rattle.std.proofs.lemmas.Option.{same_Some, slice_get_within}
use Rattle.wac_types_base.specs.declared.ids.InterfaceId.{InterfaceId}
use Rattle.wac_types_base.specs.declared.item.ItemKind.{ItemKind}
use Rattle.wac_types_base.specs.declared.item.«Type».{«Type» as TypeKind}
use Rattle.wac_types_base.specs.declared.defined.UsedType.{UsedType}
use Rattle.wac_types_base.specs.Record.{Collection}
use Rattle.wac_types_base.specs.Entries.{Name, AreDistinct, values_of}
use Rattle.wac_types_base.specs.Graph.{Among}
use Rattle.wac_types_base.specs.Collection.{Stands, IsAcyclic}
use Rattle.wac_types_base.proofs.Lists.{there_is, among_split, last_among}
use Rattle.wac_types_base.proofs.Adding.{Among-left, Among-right}
use Rattle.wac_types_base.proofs.Telling.{item_kind}
use Rattle.wac_types_fit.specs.Trees.{tree_in}
use Rattle.wac_types_fit.proofs.ItemKinds.{tree_kind, kind_is}
use Rattle.wac_types_parts.specs.declared.parts.Item.{Item}
use Rattle.wac_types_parts.specs.declared.parts.Use.{Use}
use Rattle.wac_types_parts.specs.Parts.{exports_of, world_uses_of, IsOfInterface, IsUsedKind, IsUseNamed}
use Rattle.wac_graph_scopes.specs.declared.imports.Importing.{Importing}
use Rattle.wac_graph_scopes.specs.Behind.{has_place, needs_at, Falls, IsBehindNeeds}
use Rattle.wac_graph_scopes.specs.Orders.{IsSource}
use Rattle.wac_graph_scopes.specs.Imports.{all_imports, IsUseOf, IsGiven}
use Rattle.wac_graph_scopes.specs.UsePlaces.{places_used, UsePlaces, nothing, other_item, interface_item, AddsUses, ComesBefore, IsSourceAt, IsSourceBefore, AddsSources, HasUses, UsesBefore, IsTakenFrom, IsGivenAt, IsNeeds, HaveNeeds, SourcesBehind}
use Rattle.wac_graph_scopes.proofs.BehindLaws.{place_among}
use Rattle.wac_graph_scopes.proofs.OrderLaws.{same_item, distinct-left}
use Rattle.wac_graph_scopes.proofs.PuttingLaws.{is_false, take_next}
use Rattle.wac_graph_scopes.proofs.StockLaws.{one_interface, used_if_is}

-- ---- the places of what items use

module _ (c : Collection) (found : List (Name × ℕ)) where
  pub uses_append : (ks js : List ItemKind) (ns ms : List ℕ) → UsePlaces c found ks ns → UsePlaces c found js ms → UsePlaces c found (ks ++ js) (ns ++ ms)
  uses_append ks js ns ms nothing u = u
  uses_append (k ∷ ks) js ns ms (other_item h t) u = other_item h (uses_append ks js ns ms t u)
  uses_append (k ∷ ks) js ns ms (interface_item {inner = os} {ns = ls} id is s within t) u =
      subst (UsePlaces c found (k ∷ (ks ++ js))) (sym (append_assoc (places_used c found id ++ os) ls ms)) (interface_item id is s within (uses_append ks js ls ms t u))

  pub uses_same : (ks : List ItemKind) (ns ms : List ℕ) → UsePlaces c found ks ns → UsePlaces c found ks ms → ns ≡ ms
  uses_same [] ns ms nothing nothing = refl
  uses_same (k ∷ ks) ns ms (other_item h t) (other_item g u) = uses_same ks ns ms t u
  uses_same (k ∷ ks) ns ms (other_item h t) (interface_item id is s within u) = absurd (h s id is)
  uses_same (k ∷ ks) ns ms (interface_item id is s within t) (other_item g u) = absurd (g s id is)
  uses_same (k ∷ ks) ns ms (interface_item {inner = os} {ns = ls} id is s within t) (interface_item {inner = ps} {ns = rs} id' is' s' within' u) =
      let e = one_interface k id id' is is' in
      let a = uses_same (values_of (exports_of c id)) os ps within (subst (λ i. UsePlaces c found (values_of (exports_of c i)) ps) (sym e) within') in
      let b = uses_same ks ls rs t u in
      ap (λ i. places_used c found i ++ os ++ ls) e ∙ ap (λ l. places_used c found id' ++ l ++ ls) a ∙ ap (λ l. places_used c found id' ++ ps ++ l) b

  pub adds_uses : (ks js : List ItemKind) (old mid new : List ℕ) → AddsUses c found ks old mid → AddsUses c found js mid new → AddsUses c found (ks ++ js) old new
  adds_uses ks js old mid new a b = (
    a.0 ++ b.0,
    uses_append ks js a.0 b.0 a.1 b.1,
    b.2 ∙ ap (λ l. l ++ b.0) a.2 ∙ append_assoc old a.0 b.0,
  )

  pub adds_interface : (k : ItemKind) (id : InterfaceId) (old mid new : List ℕ) → IsOfInterface k id → Stands c k → mid ≡ old ++ places_used c found id → AddsUses c found (values_of (exports_of c id)) mid new
      → AddsUses c found (k ∷ []) old new
  adds_interface k id old mid new is s e a = (
    places_used c found id ++ a.0 ++ [],
    interface_item id is s a.1 nothing,
    a.2 ∙ ap (λ l. l ++ a.0) e ∙ append_assoc old (places_used c found id) a.0 ∙ ap (λ l. old ++ l) (sym (append-nil (places_used c found id ++ a.0))),
  )

  pub adds_nothing : (k : ItemKind) (old : List ℕ) → (Stands c k → (i : InterfaceId) → IsOfInterface k i → ⊥) → AddsUses c found (k ∷ []) old old
  adds_nothing k old h = ([], other_item h nothing, sym (append-nil old))

option_listed : {X : Type 0} (o : Option X) → cons_option o [] ≡ option_to_list o
option_listed None = refl
option_listed (Some x) = refl

pub filter_map_next : {X Y : Type 0} (f : X → Option Y) (xs : List X) (i : ℕ) (x : X) → slice_get xs i ≡ Some x → filter_map f (take (i + 1) xs) ≡ filter_map f (take i xs) ++ option_to_list (f x)
filter_map_next f xs i x e =
    ap (filter_map f) (take_next xs i ∙ ap (λ o. take i xs ++ option_to_list o) e) ∙ filter_map-append f (take i xs) (x ∷ []) ∙ ap (λ l. filter_map f (take i xs) ++ l) (option_listed (f x))

-- ---- what is given is no source

source_kind : (c : Collection) → IsAcyclic c → (j k : ItemKind) → Stands c j → Stands c k → tree_in c j ≡ tree_in c k → item_kind j ≡ item_kind k
source_kind c acyclic j k s t e = sym (kind_is c acyclic j s) ∙ ap tree_kind e ∙ kind_is c acyclic k t

no_source : (j k : ItemKind) → IsUsedKind j → IsSource k → item_kind j ≡ item_kind k → ⊥
no_source (ItemKind.Ty (TypeKind.Resource r)) (ItemKind.Instance i) u s e = absurd (cc e)
no_source (ItemKind.Ty (TypeKind.Resource r)) (ItemKind.Ty (TypeKind.Interface i)) u s e = absurd (cc e)
no_source (ItemKind.Ty (TypeKind.Value v)) (ItemKind.Instance i) u s e = absurd (cc e)
no_source (ItemKind.Ty (TypeKind.Value v)) (ItemKind.Ty (TypeKind.Interface i)) u s e = absurd (cc e)
no_source j (ItemKind.Func f) u s e = absurd s.1
no_source j (ItemKind.Component f) u s e = absurd s.1
no_source j (ItemKind.Module f) u s e = absurd s.1
no_source j (ItemKind.Value f) u s e = absurd s.1
no_source j (ItemKind.Ty (TypeKind.Resource r)) u s e = absurd s.1
no_source j (ItemKind.Ty (TypeKind.Func r)) u s e = absurd s.1
no_source j (ItemKind.Ty (TypeKind.Value r)) u s e = absurd s.1
no_source j (ItemKind.Ty (TypeKind.World r)) u s e = absurd s.1
no_source j (ItemKind.Ty (TypeKind.Module r)) u s e = absurd s.1
no_source j k u s e = absurd u

pub given_is_no_source : (a : Importing) → IsAcyclic a.types.now → (x : Item) → IsGiven a x → IsSource x.kind → ⊥
given_is_no_source a acyclic x g s =
    let t = g.1 in
    let used = (used_if_is _ g.0.item t.taken).1 in
    no_source g.0.item x.kind used s (source_kind a.types.now acyclic g.0.item x.kind t.taken_stands t.stands t.same)

-- ---- the use that gives a name is one

named_same : (us : List (Name × UsedType)) (n : Name) (u v : Use) → IsUseNamed us n u → IsUseNamed us n v → u.interface ≡ v.interface
named_same us n u v p q = p.2.interface ∙ ap (λ (x : UsedType). x.interface) (same_Some p.0 q.0 (sym p.1 ∙ q.1)) ∙ sym q.2.interface

pub one_use : (a : Importing) (n : Name) (u v : Use) → IsUseOf a n u → IsUseOf a n v → u.interface ≡ v.interface
one_use a n u v (inl p) (inl q) = named_same (world_uses_of a.types.now a.world) n u v p q
one_use a n u v (inl p) (inr q) = absurd (cc (p.1, q.0))
one_use a n u v (inr p) (inl q) = absurd (cc (p.0, q.1))
one_use a n u v (inr p) (inr q) = named_same a.uses.now n u v p.1 q.1

-- likewise of an item with the same name and kind
pub given_same : (a : Importing) (found : List (Name × ℕ)) (x y : Item) (m : ℕ) → x.name.now ≡ y.name.now → x.kind ≡ y.kind → IsGivenAt a found x m → IsGivenAt a found y m
given_same a found x y m n k g = (
  g.0,
  record {
    use_is = subst (λ (l : Name). IsUseOf a l g.0.used) n g.1.use_is;
    taken = g.1.taken;
    taken_stands = g.1.taken_stands;
    stands = subst (Stands a.types.now) k g.1.stands;
    same = g.1.same ∙ ap (tree_in a.types.now) k;
  },
  g.2,
)

-- of the import at the place
pub given_there : (a : Importing) (found : List (Name × ℕ)) (x : Item) (at m : ℕ) → IsTakenFrom a found at m → slice_get (all_imports a) at ≡ Some (x.name.now, x.kind) → IsGivenAt a found x m
given_there a found x at m g e =
    let p = same_Some (g.item.name.now, g.item.kind) (x.name.now, x.kind) (sym g.import_is ∙ e) in
    given_same a found g.item x m (ap (λ q. q.0) p) (ap (λ q. q.1) p) g.given

-- ---- sources before a place

module _ (a : Importing) (order : List ℕ) (at : ℕ) where
  pub sources_none : (old : List ℕ) → AddsSources a order at [] old old
  sources_none old = ([], sym (append-nil old), (λ m i. absurd i), (λ m i s. absurd i))

  pub sources_both : (xs ys old mid new : List ℕ) → AddsSources a order at xs old mid → AddsSources a order at ys mid new → AddsSources a order at (xs ++ ys) old new
  sources_both xs ys old mid new f g = (
    f.0 ++ g.0,
    g.1 ∙ ap (λ l. l ++ g.0) f.1 ∙ append_assoc old f.0 g.0,
    (λ m i. elim (among_split m f.0 g.0 i) [
      | inl j ↦ let r = f.2 m j in (Among-left m xs ys r.0, r.1)
      | inr j ↦ let r = g.2 m j in (Among-right m xs ys r.0, r.1)
    ]),
    (λ m i s. elim (among_split m xs ys i) [ inl j ↦ Among-left m f.0 g.0 (f.3 m j s) | inr j ↦ Among-right m f.0 g.0 (g.3 m j s) ]),
  )

  pub source_added : (x : ℕ) (old new : List ℕ) → IsSourceBefore a order x at → new ≡ old ++ x ∷ [] → AddsSources a order at (x ∷ []) old new
  source_added x old new s e = (
    x ∷ [],
    e,
    (λ m i. (i, elim i [ inl q ↦ subst (λ k. IsSourceBefore a order k at) (sym q) s | inr z ↦ absurd z ])),
    (λ m i t. i),
  )

  pub source_left : (x : ℕ) (old : List ℕ) → (IsSourceBefore a order x at → ⊥) → AddsSources a order at (x ∷ []) old old
  source_left x old none = (
    [],
    sym (append-nil old),
    (λ m i. absurd i),
    (λ m i t. elim i [ inl q ↦ absurd (none (subst (λ k. IsSourceBefore a order k at) q t)) | inr z ↦ absurd z ]),
  )

-- ---- a set of places

last_not_among : (xs : List ℕ) (x : ℕ) → AreDistinct (xs ++ x ∷ []) → Among x xs → ⊥
last_not_among (k ∷ ks) x d (inl e) = d.0 (subst (λ m. Among m (ks ++ x ∷ [])) e (last_among ks x))
last_not_among (k ∷ ks) x d (inr m) = last_not_among ks x d.1 m
last_not_among [] x d m = absurd m

new_place : (b : Bool) (ks : List ℕ) (x : ℕ) → b ≡ false → (if b then ks else ks ++ x ∷ []) ≡ ks ++ x ∷ []
new_place true ks x e = absurd (true≢false e)
new_place false ks x e = refl

pub set_next : (ps : List ℕ) (i : ℕ) (keys new : List ℕ) → i < length ps → AreDistinct ps → keys ≡ take i ps → new ≡ (if has_place keys (get_or ps i 0) then keys else keys ++ get_or ps i 0 ∷ []) → new ≡ take (i + 1) ps
set_next ps i keys new lt d are e =
    let x = get_or ps i 0 in
    let more = take_more ps i 0 lt in
    let front = subst (λ (l : List ℕ). AreDistinct l) more (distinct-left (take (i + 1) ps) (drop (i + 1) ps) (subst (λ (l : List ℕ). AreDistinct l) (sym (take-append-drop (i + 1) ps)) d)) in
    let none = is_false (has_place keys x) (λ t. last_not_among (take i ps) x front (subst (Among x) are (place_among keys x t))) in
    e ∙ new_place (has_place keys x) keys x none ∙ ap (λ l. l ++ x ∷ []) are ∙ sym more

-- ---- what is behind what it needs

source_test : ItemKind → Bool
source_test (ItemKind.Instance i) = true
source_test (ItemKind.Ty (TypeKind.Interface i)) = true
source_test k = false

tested : (k : ItemKind) → IsSource k → source_test k ≡ true
unfolding source_test
tested (ItemKind.Instance i) s = refl
tested (ItemKind.Ty (TypeKind.Interface i)) s = refl
tested k s = absurd s.1

is_source : (k : ItemKind) → source_test k ≡ true → IsSource k
unfolding source_test
is_source (ItemKind.Instance i) e = (i, refl)
is_source (ItemKind.Ty (TypeKind.Interface i)) e = (i, refl)
is_source k e = absurd (true≢false (sym e))

module _ (a : Importing) where
  abbrev source_at : ℕ → Bool
  source_at at = option_map_or (λ x. source_test x.1) (slice_get (all_imports a) at) false

  at_source : (at : ℕ) → IsSourceAt a at → source_at at ≡ true
  at_source at s = ap (λ o. option_map_or (λ x. source_test x.1) o false) s.2 ∙ tested s.1 s.3

  source_there : (at : ℕ) → source_at at ≡ true → IsSourceAt a at
  source_there at t = go (slice_get (all_imports a) at) refl t
    where
      go : (o : Option (Name × ItemKind)) → slice_get (all_imports a) at ≡ o → option_map_or (λ (x : Name × ItemKind). source_test x.1) o false ≡ true → IsSourceAt a at
      go None e t = absurd (true≢false (sym t))
      go (Some x) e t = (x.0, x.1, e, is_source x.1 t)

rank_in : List ℕ → ℕ → ℕ
rank_in order k = unwrap_or (position (nat_eq k) order) 0

rank_less : (order : List ℕ) (m n : ℕ) → ComesBefore order m n → rank_in order m < rank_in order n
unfolding rank_in
rank_less order m n b =
    let p : rank_in order m ≡ b.first = ap (λ o. unwrap_or o 0) b.one_is in
    let q : rank_in order n ≡ b.second = ap (λ o. unwrap_or o 0) b.other_is in
    omega (arith, b.less, p, q)

module _ (a : Importing) (found : List (Name × ℕ)) (needs : List (List ℕ)) (ks : List ℕ) (len : length needs ≡ length (all_imports a)) (acyclic : IsAcyclic a.types.now)
    (have : HaveNeeds a found needs) (behind : IsBehindNeeds needs ks) where
  within : (at : ℕ) → IsSourceAt a at → at < length (all_imports a)
  within at s = slice_get_within (all_imports a) at (s.0, s.1) s.2

  -- what a place needs
  needed : (at : ℕ) → at < length (all_imports a) → IsNeeds a found have.0 at (needs_at needs at)
  needed at lt =
      let x = there_is needs at (omega (arith, lt, len)) in
      subst (IsNeeds a found have.0 at) (sym (ap (λ o. unwrap_or o []) x.1)) (have.2 at x.0 x.1)

  -- what it uses
  used : (at : ℕ) → at < length (all_imports a) → (ns : List ℕ) × HasUses a found at ns
  used at lt = let x = there_is have.1.0 at (omega (arith, lt, have.1.1.0)) in (x.0, have.1.1.1 at x.0 x.1)

  falls : Falls needs (source_at a) (rank_in have.0)
  falls n m t i lt =
      let s = source_there a n t in
      let w = within n s in
      let u = used n w in
      let all = (needed n w).source s w u.0 u.1 in
      let r = (all.2 m (subst (Among m) all.1 i)).1 in
      (at_source a m r.0, rank_less have.0 m n r.1)

  interfaces_behind : (before rest : List ℕ) (at m : ℕ) → ks ≡ before ++ at ∷ rest → UsesBefore a found have.0 at m → Among m before
  interfaces_behind before rest at m e u =
      let w = within at u.source in
      let all = (needed at w).source u.source w u.uses u.are in
      let lt = within m u.before.0 in
      behind (source_at a) (rank_in have.0) falls before rest at m e (at_source a at u.source) (subst (Among m) (sym all.1) (all.3 m u.among u.before)) (omega (arith, lt, len))

  -- the place of an import that a use gives
  module _ (at m : ℕ) (g : IsTakenFrom a found at m) where
    not_source : source_at a at ≡ false
    not_source = go (source_at a at) refl
      where
        go : (b : Bool) → source_at a at ≡ b → source_at a at ≡ false
        go true e =
            let s = source_there a at e in
            absurd (given_is_no_source a acyclic g.item (g.given.0, g.given.1) (subst IsSource (same_item (s.0, s.1) (g.item.name.now, g.item.kind) s.2 g.import_is) s.3))
        go false e = e

    abbrev test : ℕ → Bool
    test k = if eqb k at then true else source_at a k

    abbrev rank : ℕ → ℕ
    rank k = if eqb k at then suc (rank_in have.0 m) else rank_in have.0 k

    apart : (k : ℕ) → source_at a k ≡ true → eqb k at ≡ false
    apart k t = go (eqb k at) refl
      where
        go : (b : Bool) → eqb k at ≡ b → eqb k at ≡ false
        go true e = absurd (true≢false (sym t ∙ ap (source_at a) ((Decides-eqb k at).0 e) ∙ not_source))
        go false e = e

    test_there : (k : ℕ) → source_at a k ≡ true → test k ≡ true
    test_there k t = ap (λ b. if b then true else source_at a k) (apart k t) ∙ t

    rank_there : (k : ℕ) → source_at a k ≡ true → rank k ≡ rank_in have.0 k
    rank_there k t = ap (λ b. if b then suc (rank_in have.0 m) else rank_in have.0 k) (apart k t)

    at_within : at < length (all_imports a)
    at_within = slice_get_within (all_imports a) at (g.item.name.now, g.item.kind) g.import_is

    itself : eqb at at ≡ true
    itself = (Decides-eqb at at).1 refl

    needs_one : needs_at needs at ≡ m ∷ []
    needs_one = (needed at at_within).given m g

    all_fall : Falls needs test rank
    all_fall n p t i lt = go (eqb n at) refl
      where
        go : (b : Bool) → eqb n at ≡ b → (test p ≡ true) × (rank p < rank n)
        go true e =
            let same = (Decides-eqb n at).0 e in
            elim (subst (Among p) (ap (needs_at needs) same ∙ needs_one) i) [
              | inl q ↦
                  let s = at_source a p (subst (IsSourceAt a) (sym q) g.source) in
                  let r = rank_there p s in
                  let h : rank n ≡ suc (rank_in have.0 m) = ap (λ c. if c then suc (rank_in have.0 m) else rank_in have.0 n) e in
                  (test_there p s, omega (arith, r, h, ap (rank_in have.0) q))
              | inr z ↦ absurd z
            ]
        go false e =
            let s : source_at a n ≡ true = sym (ap (λ c. if c then true else source_at a n) e) ∙ t in
            let f = falls n p s i lt in
            let r = rank_there p f.0 in
            let h = rank_there n s in
            (test_there p f.0, omega (arith, f.1, r, h))

    given_behind : (before rest : List ℕ) → ks ≡ before ++ at ∷ rest → Among m before
    given_behind before rest e =
        let lt = within m g.source in
        behind test rank all_fall before rest at m e (ap (λ b. if b then true else source_at a at) itself) (subst (Among m) (sym needs_one) (inl refl)) (omega (arith, lt, len))

  pub sources_behind : SourcesBehind a found ks
  sources_behind = record { plain = have.0; plain_is = have.1; interfaces = interfaces_behind; given = λ before rest at m e g. given_behind at m g before rest e }
