-- Uses that fail, those that interfaces and items need, and lists of them.
use Rattle.std.proofs.Common.{◌≡◌, ◌⊎◌, ◌≤◌, ◌+◌, ℕ, Bool, false, true≢false, List, ◌++◌, take, length, Option, Some, None, inl, inr, refl, sym, ap, ◌∙◌, subst, slice_get, if◌then◌else◌}
use Rattle.std.specs.Prelude.{⊤}
use Rattle.std.specs.Bool.{Decides}
use Rattle.std.proofs.lemmas.Bool.Decides.{Decides-like}
use Rattle.std.proofs.lemmas.Option.{none-some, same_Some}
use Rattle.wac_types_base.specs.declared.ids.InterfaceId.{InterfaceId}
use Rattle.wac_types_base.specs.declared.item.ItemKind.{ItemKind}
use Rattle.wac_types_base.specs.declared.defined.UsedType.{UsedType}
use Rattle.wac_types_base.specs.Entries.{Name, value_at, with_values}
use Rattle.wac_types_base.specs.Record.{Collection}
use Rattle.wac_types_base.specs.Graph.{Among}
use Rattle.wac_types_base.specs.Stated.{Stated, Used, kind_of, stated_of, uses_of, exports_of, identifier_of}
use Rattle.wac_types_base.specs.Tree.{tree}
use Rattle.wac_types_base.proofs.Adding.{Among-left, Among-right}
use Rattle.wac_types_base.proofs.Lists.{among_last, among_mapped, among_split}
use Rattle.wac_types_base.proofs.Looked.{among-get, take-one_more}
use Rattle.wac_types_base.proofs.Loops.{take-all}
use Rattle.wac_types_base.proofs.Stating.{used_of as used_at, stated_uses}
use Rattle.wac_composition.specs.Classes.{is_instance_kind}
use Rattle.wac_composition.specs.Writable.{there_of, item_in, given_in, stands_as}
use Rattle.wac_composition.specs.NotWritten.{Needs, a_use, under_use, under_item, IsImported}
use Rattle.wac_composition.proofs.NotWritten.{trees_decide}
use Rattle.wac_composition.proofs.Lists.{mapped_among}
use Rattle.wac_types_parts.specs.declared.parts.Use.{Use}
use Rattle.wac_types_parts.specs.Parts.{IsUseAt}
use Rattle.wac_types_parts.proofs.Lists.{take_zero}
use Rattle.wac_writable.specs.Tests.{used_of}
use Rattle.wac_writable.specs.Uses.{AddedFails, UseFails, SomeNeeded, NeededBy, FailsAt, SomeUse, SomeItem}
use Rattle.wac_writable.proofs.InterfaceLaws.{HasParts}

-- ---- tests

pub tells_no : {P : Type 0} → (P → ⊥) → Decides false P
tells_no n = (λ e. absurd (true≢false (sym e)), λ p. absurd (n p))

-- ---- one element after the other

-- none of these is one
abbrev pub NoneOf : {X : Type 0} → (X → Type 0) → List X → Type 0
NoneOf {X} F xs = (x : X) → Among x xs → F x → ⊥

module _ {X : Type 0} (F : X → Type 0) (xs : List X) where
  pub none_first : NoneOf F (take 0 xs)
  none_first x m f = subst (Among x) (take_zero xs) m

  pub none_next : (i : ℕ) (x : X) → slice_get xs i ≡ Some x → NoneOf F (take i xs) → (F x → ⊥) → NoneOf F (take (i + 1) xs)
  none_next i x at before not_this y m f = elim (among_last y x (take i xs) (subst (Among y) (take-one_more xs i x at) m)) [
    | inl n ↦ before y n f
    | inr e ↦ not_this (subst F e f)
  ]

  pub none_left : (i : ℕ) → length xs ≤ i → NoneOf F (take i xs) → NoneOf F xs
  none_left i past = subst (NoneOf F) (take-all xs i past)

-- ---- what an import has

stands_decide : (x y : Option Stated) → Decides (stands_as x y) ((z : Stated) → x ≡ Some z → (w : Stated) × (y ≡ Some w) × (tree z ≡ tree w))
stands_decide None y = (λ e z q. absurd (none-some _ q), λ h. refl)
stands_decide (Some x) None = tells_no (λ h. let r = h x refl in none-some _ r.1)
stands_decide (Some x) (Some y) = (
  λ q z r. (y, refl, ap tree (sym (same_Some _ _ r)) ∙ (trees_decide x y).0 q),
  λ h. let w = h x refl in (trees_decide x y).1 (w.2 ∙ ap tree (sym (same_Some _ _ w.1))),
)

module _ (is : List (Name × Stated)) (n : Name) (u : Used) where
  pub imported_decides : (y : Stated) → value_at is n ≡ Some y → Decides (stands_as (item_in u.interface u) (given_in y u)) (IsImported is n u)
  imported_decides y e =
      let d = stands_decide (item_in u.interface u) (given_in y u) in (
        λ q. record { interface = y; there = e; item = d.0 q },
        λ h. let s : h.interface ≡ y = same_Some _ _ (sym h.there ∙ e) in d.1 (λ z r. let w = h.item z r in (w.0, ap (λ i. given_in i u) (sym s) ∙ w.1, w.2)),
      )

  pub nothing_imported : value_at is n ≡ None → IsImported is n u → ⊥
  nothing_imported e h = none-some _ (sym e ∙ h.there)

-- ---- uses that take the same

imported_alike : (is : List (Name × Stated)) (n : Name) (u v : Used) → u.interface ≡ v.interface → there_of u ≡ there_of v → IsImported is n u → IsImported is n v
imported_alike is n u v e t h = record {
  interface = h.interface;
  there = h.there;
  item = λ x q.
      let r = h.item x (ap (λ i. value_at (exports_of i) (there_of u)) e ∙ ap (λ m. value_at (exports_of v.interface) m) t ∙ q) in
      (r.0, ap (λ m. if is_instance_kind (kind_of h.interface) then value_at (exports_of h.interface) m else None) (sym t) ∙ r.1, r.2);
}

module _ (o : Bool) (is : List (Name × Stated)) where
  pub fails_alike : (u v : Used) → u.interface ≡ v.interface → there_of u ≡ there_of v → UseFails o is u → UseFails o is v
  fails_alike u v e t f = record {
    name = f.name;
    named = ap identifier_of (sym e) ∙ f.named;
    missing = λ g. f.missing (imported_alike is f.name v u (sym e) (sym t) g);
    added = subst (AddedFails o) e f.added;
  }

  at_alike : (u v : Used) → u.interface ≡ v.interface → there_of u ≡ there_of v → FailsAt o is u → FailsAt o is v
  at_alike u v e t (inl f) = inl (fails_alike u v e t f)
  at_alike u v e t (inr n) = inr (subst (NeededBy o is) e n)

  -- ---- what is needed is used, or needed by one that is used or by an item

  module _ (us : List Used) (es : List (Name × Stated)) where
    pub needed_split : SomeNeeded o is us es → SomeUse o is us ⊎ SomeItem o is es
    needed_split s = by s.one s.needed s.fails
      where
        by : (u : Used) → Needs us es u → UseFails o is u → SomeUse o is us ⊎ SomeItem o is es
        by u (a_use m) f = inl (u, m, inl f)
        by u (under_use v m k w) f = inl (v, m, inr (k, record { one = u; needed = w; fails = f }))
        by u (under_item n x m k w) f = inr (n, x, m, (k, record { one = u; needed = w; fails = f }))

    pub use_needed : SomeUse o is us → SomeNeeded o is us es
    use_needed (u, m, inl f) = record { one = u; needed = a_use m; fails = f }
    use_needed (u, m, inr (k, s)) = record { one = s.one; needed = under_use u m k s.needed; fails = s.fails }

    pub item_needed : SomeItem o is es → SomeNeeded o is us es
    item_needed (n, x, m, (k, s)) = record { one = s.one; needed = under_item n x m k s.needed; fails = s.fails }

  pub item_left : (es fs : List (Name × Stated)) → SomeItem o is es → SomeItem o is (es ++ fs)
  item_left es fs (n, x, m, k) = (n, x, Among-left (n, x) es fs m, k)

  pub item_right : (es fs : List (Name × Stated)) → SomeItem o is fs → SomeItem o is (es ++ fs)
  item_right es fs (n, x, m, k) = (n, x, Among-right (n, x) es fs m, k)

  pub item_split : (es fs : List (Name × Stated)) → SomeItem o is (es ++ fs) → SomeItem o is es ⊎ SomeItem o is fs
  item_split es fs (n, x, m, k) = elim (among_split (n, x) es fs m) [
    | inl a ↦ inl (n, x, a, k)
    | inr b ↦ inr (n, x, b, k)
  ]

  -- what is left decides
  pub world_needed : (us : List Used) (es fs : List (Name × Stated)) (b : Bool) → (SomeUse o is us → ⊥) → (SomeItem o is es → ⊥) → Decides b (SomeItem o is fs) → Decides b (SomeNeeded o is us (es ++ fs))
  world_needed us es fs b f g d = Decides-like b (λ s. item_needed us (es ++ fs) (item_right es fs s)) back d
    where
      of_items : SomeItem o is es ⊎ SomeItem o is fs → SomeItem o is fs
      of_items (inl s) = absurd (g s)
      of_items (inr s) = s

      by : SomeUse o is us ⊎ SomeItem o is (es ++ fs) → SomeItem o is fs
      by (inl s) = absurd (f s)
      by (inr s) = of_items (item_split es fs s)

      back : SomeNeeded o is us (es ++ fs) → SomeItem o is fs
      back s = by (needed_split us (es ++ fs) s)

  -- a use that does not fail itself
  pub needed_decides : (u : Used) (b : Bool) → (UseFails o is u → ⊥) → Decides b (NeededBy o is u.interface) → Decides b (FailsAt o is u)
  needed_decides u b none d = Decides-like b inr back d
    where
      back : FailsAt o is u → NeededBy o is u.interface
      back (inl f) = absurd (none f)
      back (inr n) = n

  -- ---- uses, and items, by their ids

  module _ (c : Collection) where
    abbrev pub use_in : Name × UsedType → Used
    use_in e = record { name = e.0; there = e.1.name; interface = stated_of c (ItemKind.Instance e.1.interface) }

    abbrev pub FailsIn : Name × UsedType → Type 0
    FailsIn e = FailsAt o is (use_in e)

    abbrev pub ItemNeeds : Name × ItemKind → Type 0
    ItemNeeds e = NeededBy o is (stated_of c e.1)

    use_among : (us : List (Name × UsedType)) (e : Name × UsedType) → Among e us → Among (use_in e) (stated_uses c us)
    use_among us e m = among_mapped (λ (u : Used × ⊤). u.0) (used_at c us) (use_in e, tt) (among_mapped (λ (e : Name × UsedType). (use_in e, tt)) us e m)

    use_back : (us : List (Name × UsedType)) (u : Used) → Among u (stated_uses c us) → (e : Name × UsedType) × Among e us × (u ≡ use_in e)
    use_back us u m =
        let a = mapped_among (λ (u : Used × ⊤). u.0) (used_at c us) u m in
        let b = mapped_among (λ (e : Name × UsedType). (use_in e, tt)) us a.0 a.1 in
        (b.0, b.1, a.2 ∙ ap (λ (p : Used × ⊤). p.0) b.2)

    -- a use that is looked at, as it is stated
    module _ (us : List (Name × UsedType)) (at : ℕ) (u : Use) (is_at : IsUseAt us at u) where
      same_interface : (used_of c u).interface ≡ (use_in is_at.0).interface
      same_interface = ap (λ i. stated_of c (ItemKind.Instance i)) is_at.2.interface

      at_entry : FailsAt o is (used_of c u) → FailsIn is_at.0
      at_entry f = at_alike (used_of c u) (use_in is_at.0) same_interface is_at.2.there f

      from_entry : FailsIn is_at.0 → FailsAt o is (used_of c u)
      from_entry f = at_alike (use_in is_at.0) (used_of c u) (sym same_interface) (sym is_at.2.there) f

      pub use_found : (xs : List Used) → xs ≡ stated_uses c us → FailsAt o is (used_of c u) → SomeUse o is xs
      use_found xs e f = (use_in is_at.0, subst (Among (use_in is_at.0)) (sym e) (use_among us is_at.0 (among-get us at is_at.0 is_at.1)), at_entry f)

      pub use_passed : NoneOf FailsIn (take at us) → (FailsAt o is (used_of c u) → ⊥) → NoneOf FailsIn (take (at + 1) us)
      use_passed before not_this = none_next FailsIn us at is_at.0 is_at.1 before (λ f. not_this (from_entry f))

    pub uses_passed : (us : List (Name × UsedType)) (at : ℕ) (xs : List Used) → xs ≡ stated_uses c us → length us ≤ at → NoneOf FailsIn (take at us) → SomeUse o is xs → ⊥
    uses_passed us at xs e past none (u, m, f) =
        let b = use_back us u (subst (Among u) e m) in
        none_left FailsIn us at past none b.0 b.1 (subst (FailsAt o is) b.2 f)

    pub item_found : (es : List (Name × ItemKind)) (at : ℕ) (n : Name) (k : ItemKind) (xs : List (Name × Stated)) → slice_get es at ≡ Some (n, k) → xs ≡ with_values (stated_of c) es → NeededBy o is (stated_of c k) → SomeItem o is xs
    item_found es at n k xs is_at e f =
        (n, stated_of c k, subst (Among (n, stated_of c k)) (sym e) (among_mapped (λ (e : Name × ItemKind). (e.0, stated_of c e.1)) es (n, k) (among-get es at (n, k) is_at)), f)

    pub items_passed : (es : List (Name × ItemKind)) (at : ℕ) (xs : List (Name × Stated)) → xs ≡ with_values (stated_of c) es → length es ≤ at → NoneOf ItemNeeds (take at es) → SomeItem o is xs → ⊥
    items_passed es at xs e past none (n, x, m, f) =
        let b = mapped_among (λ (e : Name × ItemKind). (e.0, stated_of c e.1)) es (n, x) (subst (Among (n, x)) e m) in
        none_left ItemNeeds es at past none b.0 b.1 (subst (NeededBy o is) (ap (λ (p : Name × Stated). p.1) b.2) f)

    -- ---- an item with the uses and the exports of an interface

    module _ (k : ItemKind) (id : InterfaceId) (p : HasParts c k id) where
      abbrev inner : Stated
      inner = stated_of c (ItemKind.Instance id)

      to_parts : SomeNeeded o is (uses_of inner) (exports_of inner) → NeededBy o is (stated_of c k)
      to_parts s = (p.kind, subst (λ us. SomeNeeded o is us (exports_of (stated_of c k))) (sym p.uses) (subst (SomeNeeded o is (uses_of inner)) (sym p.exports) s))

      pub use_of_parts : SomeUse o is (uses_of inner) → NeededBy o is (stated_of c k)
      use_of_parts s = to_parts (use_needed (uses_of inner) (exports_of inner) s)

      pub item_of_parts : SomeItem o is (exports_of inner) → NeededBy o is (stated_of c k)
      item_of_parts s = to_parts (item_needed (uses_of inner) (exports_of inner) s)

      pub none_of_parts : (SomeUse o is (uses_of inner) → ⊥) → (SomeItem o is (exports_of inner) → ⊥) → NeededBy o is (stated_of c k) → ⊥
      none_of_parts f g n = elim (needed_split (uses_of inner) (exports_of inner) (subst (λ us. SomeNeeded o is us (exports_of inner)) p.uses (subst (SomeNeeded o is (uses_of (stated_of c k))) p.exports n.1))) [
        | inl s ↦ f s
        | inr s ↦ g s
      ]
