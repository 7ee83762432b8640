-- Walks over uses and items, one step after the other.
use Rattle.std.proofs.Common.{◌≡◌, ℕ, ◌+◌, ◌<◌, ◌≤◌, Bool, true, false, List, Some, take, length, slice_get, arith}
use Rattle.std.proofs.lemmas.Bool.Decides.{not_from_Decides}
use Rattle.wac_types_base.specs.declared.item.ItemKind.{ItemKind}
use Rattle.wac_types_base.specs.declared.defined.UsedType.{UsedType}
use Rattle.wac_types_base.specs.Entries.{Name, with_values}
use Rattle.wac_types_base.specs.Record.{Collection}
use Rattle.wac_types_base.specs.Collection.{size_of}
use Rattle.wac_types_base.specs.Stated.{Stated, Used, stated_of}
use Rattle.wac_types_base.proofs.Stating.{stated_uses}
use Rattle.wac_types_parts.specs.declared.parts.Use.{Use}
use Rattle.wac_types_parts.specs.Parts.{IsUseAt}
use Rattle.wac_writable.specs.declared.writable.Test.{Test}
use Rattle.wac_writable.specs.declared.writable.Giver.{Giver}
use Rattle.wac_writable.specs.Tests.{used_of}
use Rattle.wac_writable.specs.Uses.{FailsAt, NeededBy, SomeUse, SomeItem}
use Rattle.wac_writable.specs.Givers.{TellsBeside, TellsAt, TellsNeeded}
use Rattle.wac_writable.proofs.UseLaws.{NoneOf, none_first, none_next, FailsIn, ItemNeeds, use_found, use_passed, uses_passed, item_found, items_passed}
use Rattle.wac_writable.proofs.GiverLaws.{Passed, goes_nowhere, tells_after, beside_yes, beside_no}

module _ (t : Test) where
  abbrev c : Collection
  c = t.types.now

  -- none of the uses, or items, before a place fails
  abbrev pub UsesPassed : Giver → Giver → ℕ → List (Name × UsedType) → ℕ → Type 0
  UsesPassed a b n us at = Passed t a b n (λ is. NoneOf (FailsIn t.is_outer is c) (take at us))

  abbrev pub ItemsPassed : Giver → Giver → ℕ → List (Name × ItemKind) → ℕ → Type 0
  ItemsPassed a b n es at = Passed t a b n (λ is. NoneOf (ItemNeeds t.is_outer is c) (take at es))

  module _ (a : Giver) (n : ℕ) where
    pub uses_start : (us : List (Name × UsedType)) → UsesPassed a a n us 0
    uses_start us ka k = (goes_nowhere t n a k, none_first (FailsIn t.is_outer _ c) us)

    -- a use that fails, or needs what fails
    module _ (b d : Giver) (us : List (Name × UsedType)) (at : ℕ) (u : Use) (is_at : IsUseAt us at u) (r : Bool) (lt : size_of c (ItemKind.Instance u.interface) < n) (before : UsesPassed a b n us at) (f : TellsAt t b d u r) where
      pub use_fails_here : (xs : List Used) → xs ≡ stated_uses c us → (P : List (Name × Stated) → Type 0) → ((is : List (Name × Stated)) → SomeUse t.is_outer is xs → P is) → r ≡ true → TellsBeside t a d n P true
      use_fails_here xs is P g e = beside_yes t a d n P (λ ka k.
          let x = tells_after t a b d n (size_of c (ItemKind.Instance u.interface) + 1) (λ is. FailsAt t.is_outer is (used_of c u)) r ka k (omega (arith, lt)) (before ka k).0 f in
          g _ (use_found t.is_outer _ c us at u is_at xs is (x.0.0 e)))

      pub use_passes_here : r ≡ false → UsesPassed a d n us (at + 1)
      use_passes_here e ka k =
          let x = tells_after t a b d n (size_of c (ItemKind.Instance u.interface) + 1) (λ is. FailsAt t.is_outer is (used_of c u)) r ka k (omega (arith, lt)) (before ka k).0 f in
          (x.1 e, use_passed t.is_outer _ c us at u is_at (before ka k).1 (not_from_Decides r x.0 e))

    pub uses_end : (b : Giver) (us : List (Name × UsedType)) (at : ℕ) (xs : List Used) → xs ≡ stated_uses c us → length us ≤ at → UsesPassed a b n us at → TellsBeside t a b n (λ is. SomeUse t.is_outer is xs) false
    uses_end b us at xs is past before = beside_no t a b n (λ is. SomeUse t.is_outer is xs) (λ ka k. ((before ka k).0, uses_passed t.is_outer _ c us at xs is past (before ka k).1))

    -- an item that needs what fails
    module _ (b d : Giver) (es : List (Name × ItemKind)) (at : ℕ) (m : Name) (j : ItemKind) (is_at : slice_get es at ≡ Some (m, j)) (r : Bool) (lt : size_of c j < n) (before : ItemsPassed a b n es at) (f : TellsNeeded t b d j r) where
      pub item_fails_here : (xs : List (Name × Stated)) → xs ≡ with_values (stated_of c) es → (P : List (Name × Stated) → Type 0) → ((is : List (Name × Stated)) → SomeItem t.is_outer is xs → P is) → r ≡ true → TellsBeside t a d n P true
      item_fails_here xs is P g e = beside_yes t a d n P (λ ka k.
          let x = tells_after t a b d n (size_of c j) (λ is. NeededBy t.is_outer is (stated_of c j)) r ka k (omega (arith, lt)) (before ka k).0 f in
          g _ (item_found t.is_outer _ c es at m j xs is_at is (x.0.0 e)))

      pub item_passes_here : r ≡ false → ItemsPassed a d n es (at + 1)
      item_passes_here e ka k =
          let x = tells_after t a b d n (size_of c j) (λ is. NeededBy t.is_outer is (stated_of c j)) r ka k (omega (arith, lt)) (before ka k).0 f in
          (x.1 e, none_next (ItemNeeds t.is_outer _ c) es at (m, j) is_at (before ka k).1 (not_from_Decides r x.0 e))

    pub items_start : (es : List (Name × ItemKind)) → ItemsPassed a a n es 0
    items_start es ka k = (goes_nowhere t n a k, none_first (ItemNeeds t.is_outer _ c) es)

    pub items_end : (b : Giver) (es : List (Name × ItemKind)) (at : ℕ) (xs : List (Name × Stated)) → xs ≡ with_values (stated_of c) es → length es ≤ at → ItemsPassed a b n es at → TellsBeside t a b n (λ is. SomeItem t.is_outer is xs) false
    items_end b es at xs is past before = beside_no t a b n (λ is. SomeItem t.is_outer is xs) (λ ka k. ((before ka k).0, items_passed t.is_outer _ c es at xs is past (before ka k).1))
