-- Packages that are apart, and one more of them.
use Rattle.std.proofs.Common.{◌≡◌, ℕ, List, [], ◌∷◌, ◌++◌, true, false, Bool, refl, sym, ◌∙◌, subst, inl, inr}
use Rattle.wac_types_base.specs.Graph.{Among}
use Rattle.wac_types_base.proofs.Lists.{among_last}
use Rattle.wac_workspace.specs.declared.entries.Entry.{Entry}
use Rattle.wac_workspace.specs.Packages.{HasKey, HasBytes, HasHanded, IsApart, AreApart, PackageParts, IsEntryMade}

-- one more package, which is apart from each
pub apart_push : (ps : List Entry) (p : Entry) → AreApart ps → ((q : Entry) → Among q ps → IsApart p q) → AreApart (ps ++ p ∷ [])
apart_push [] p h new = ((λ q a. absurd a), tt)
apart_push (r ∷ rs) p h new = (
  λ q a. elim (among_last q p rs a) [ inl there ↦ h.0 q there | inr e ↦ subst (λ (x : Entry). IsApart x r) (sym e) (new r (inl refl)) ],
  apart_push rs p h.1 (λ q a. new q (inr a)),
)

not_both : (e : Entry) → e.is_handed ≡ true → e.is_handed ≡ false → ⊥
not_both e h k = cc

-- a handed component whose key and bytes are no package's
pub apart_handed : (ps : List Entry) (p : Entry) (m : PackageParts) → IsEntryMade m p → AreApart ps → (HasKey ps m.key → ⊥) → (HasBytes ps m.bytes → ⊥) → AreApart (ps ++ p ∷ [])
apart_handed ps p m made h key bytes = apart_push ps p h (λ q a. record {
  keys = λ e. key (q, a, sym e ∙ made.key);
  outputs = λ e. absurd (bytes (q, a, sym e ∙ made.bytes));
})

by_origin : (ps : List Entry) (q : Entry) (bytes : List ℕ) → Among q ps → (HasHanded ps bytes → ⊥) → q.package.bytes ≡ bytes → q.is_handed ≡ false
by_origin ps q bytes a none e = by_test q.is_handed refl
  where
    by_test : (b : Bool) → q.is_handed ≡ b → q.is_handed ≡ false
    by_test true h = absurd (none (q, a, (h, e)))
    by_test false h = h

-- an output whose key is no package's, and whose bytes are no handed component's
pub apart_output : (ps : List Entry) (p : Entry) (m : PackageParts) → IsEntryMade m p → p.is_handed ≡ false → AreApart ps → (HasKey ps m.key → ⊥) → (HasHanded ps m.bytes → ⊥) → AreApart (ps ++ p ∷ [])
apart_output ps p m made origin h key bytes = apart_push ps p h (λ q a. record {
  keys = λ e. key (q, a, sym e ∙ made.key);
  outputs = λ e. (origin, by_origin ps q m.bytes a bytes (sym e ∙ made.bytes));
})
