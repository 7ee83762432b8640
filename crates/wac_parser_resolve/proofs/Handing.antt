-- The packages that are handed in, as a list and by their keys.
use Rattle.std.proofs.Common.{◌≡◌, ℕ, Bool, true, false, cond, List, [], ◌∷◌, Option, Some, None, refl, sym, ap, subst, ◌∙◌}
use Rattle.std.specs.Borrow.{Bor}
use Rattle.std.specs.List.{IsDistinct, AllByRecursion}
use Rattle.std.specs.Map.{keys_of, lookup}
use Rattle.std.specs.Option.{option_and_then}
use Rattle.semver.specs.declared.Version.{Version}
use Rattle.wac_types_names.specs.declared.package.BorrowedPackageKey.{BorrowedPackageKey}
use Rattle.wac_types_names.specs.contracts.package.BorrowedPackageKeyPartialEq.TheImpl as key_eq
use Rattle.wac_types_names.specs.Keys.{Key, borrowed_key, same_key}
use Rattle.wac_parser_declare.specs.Packages.{Content}
use Rattle.wac_parser_declare.specs.Scope.{package_under}
use Rattle.wac_parser_resolve.specs.declared.packages.PackageRef.{PackageRef}
use Rattle.wac_parser_resolve.specs.Knowing.{handed_entries, handed_content, with_handed}
use Rattle.wac_types_names.proofs.KeyTests.{key_same}

abbrev Handed : Type 0
Handed = BorrowedPackageKey × PackageRef

module _ (k : Key) where
  under_more : (o : Option Content) (l : Key) (ps : List (Key × Content)) → same_key k l ≡ false → package_under (with_handed o l ps) k ≡ package_under ps k
  under_more None l ps e = refl
  under_more (Some w) l ps e = ap (λ b. cond b (Some w) (package_under ps k)) e

  under_here : (o : Option Content) (l : Key) (ps : List (Key × Content)) → same_key k l ≡ true → package_under ps k ≡ None → package_under (with_handed o l ps) k ≡ o
  under_here None l ps e none = none
  under_here (Some w) l ps e none = ap (λ b. cond b (Some w) (package_under ps k)) e

  module _ (eq : BorrowedPackageKey → BorrowedPackageKey → Bool) (tests : (a b : BorrowedPackageKey) → same_key (borrowed_key a) (borrowed_key b) ≡ true → eq a b ≡ true) where
    other : (e f : BorrowedPackageKey) → same_key k (borrowed_key e) ≡ true → eq e f ≡ false → same_key k (borrowed_key f) ≡ false
    other e f own apart = by (same_key k (borrowed_key f)) refl
      where
        by : (b : Bool) → same_key k (borrowed_key f) ≡ b → same_key k (borrowed_key f) ≡ false
        by false t = t
        by true t =
            let same : k ≡ borrowed_key e = key_same k (borrowed_key e) own in
            absurd (cc (tests e f (subst (λ (x : Key). same_key x (borrowed_key f) ≡ true) same t), apart))

    none_under : (e : BorrowedPackageKey) (es : List Handed) → same_key k (borrowed_key e) ≡ true → AllByRecursion (λ y. eq e y ≡ false) (keys_of es) → package_under (handed_entries es) k ≡ None
    none_under e [] own all = refl
    none_under e (f ∷ es) own all = under_more (handed_content f.1) (borrowed_key f.0) (handed_entries es) (other e f.0 own all.0) ∙ none_under e es own all.1

    pub handed_same : (es : List Handed) → IsDistinct eq (keys_of es) → option_and_then handed_content (lookup (λ key. same_key k (borrowed_key key)) es) ≡ package_under (handed_entries es) k
    unfolding IsDistinct
    handed_same [] d = refl
    handed_same (e ∷ es) d = by (handed_same es d.1) (same_key k (borrowed_key e.0)) refl
      where
        by : option_and_then handed_content (lookup (λ key. same_key k (borrowed_key key)) es) ≡ package_under (handed_entries es) k → (b : Bool) → same_key k (borrowed_key e.0) ≡ b
            → option_and_then handed_content (lookup (λ key. same_key k (borrowed_key key)) (e ∷ es)) ≡ package_under (handed_entries (e ∷ es)) k
        by rest true t =
            ap (λ b. option_and_then handed_content (cond b (Some e.1) (lookup (λ key. same_key k (borrowed_key key)) es))) t
            ∙ sym (under_here (handed_content e.1) (borrowed_key e.0) (handed_entries es) t (none_under e.0 es t d.0))
        by rest false t =
            ap (λ b. option_and_then handed_content (cond b (Some e.1) (lookup (λ key. same_key k (borrowed_key key)) es))) t ∙ rest
            ∙ sym (under_more (handed_content e.1) (borrowed_key e.0) (handed_entries es) t)

-- ---- keys that are equal

abbrev pub KeyEq : BorrowedPackageKey → BorrowedPackageKey → Bool
KeyEq = key_eq.eq-value.it

versions_same : (n m : Bor (List ℕ)) (v w : Option (Bor Version)) → same_key (borrowed_key (record { name = n; version = v })) (borrowed_key (record { name = m; version = w })) ≡ true
    → KeyEq (record { name = n; version = v }) (record { name = m; version = w }) ≡ true
versions_same n m None None e = e
versions_same n m None (Some w) e = e
versions_same n m (Some v) None e = e
versions_same n m (Some v) (Some w) e = e

pub key_tests : (a b : BorrowedPackageKey) → same_key (borrowed_key a) (borrowed_key b) ≡ true → KeyEq a b ≡ true
key_tests a b e = versions_same a.name b.name a.version b.version e
