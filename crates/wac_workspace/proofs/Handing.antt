-- The packages of a workspace as they are handed to a document.
use Rattle.std.proofs.Common.{◌≡◌, ℕ, zero, suc, ◌<◌, Bool, true, false, cond, is_some, List, [], ◌∷◌, ◌++◌, length, take, get_or, Option, Some, None, refl, sym, ap, ◌∙◌, arith, inl, inr}
use Rattle.std.specs.Borrow.{Bor}
use Rattle.indexmap.specs.IndexMap.{insert_entry}
use Rattle.semver.specs.declared.Version.{Version}
use Rattle.wac_types_base.specs.declared.item.ItemKind.{ItemKind}
use Rattle.wac_types_base.specs.Record.{Collection}
use Rattle.wac_types_base.specs.Collection.{item_node}
use Rattle.wac_types_base.specs.Graph.{Among}
use Rattle.wac_types_names.specs.declared.package.BorrowedPackageKey.{BorrowedPackageKey}
use Rattle.wac_types_names.specs.Keys.{borrowed_key}
use Rattle.wac_types_names.specs.Packaged.{Packaged}
use Rattle.wac_parser_declare.specs.Packages.{Content}
use Rattle.wac_parser_resolve.specs.declared.packages.PackageRef.{PackageRef}
use Rattle.wac_parser_resolve.specs.Knowing.{content_of, handed_content, handed_entries, with_handed}
use Rattle.wac_parser_resolve.proofs.Handing.{KeyEq}
use Rattle.wac_types_names.proofs.KeyTests.{key_same}
use Rattle.wac_workspace.specs.declared.entries.Entry.{Entry}
use Rattle.wac_workspace.specs.Getting.{IsRefTo}
use Rattle.wac_workspace.specs.Packages.{key_of, AreApart}
use Rattle.wac_workspace.specs.Resolving.{content, handed}
use Rattle.wac_workspace.specs.View.{HasWorld}
use Rattle.wac_workspace.proofs.Searching.{among_at}

abbrev pub Lent : Type 0
Lent = BorrowedPackageKey × PackageRef

-- the package under its key
abbrev pub IsLent : Lent → Entry → Type 0
IsLent p e = (borrowed_key p.0 ≡ key_of e) × IsRefTo e p.1

abbrev pub AreLent : List Lent → List Entry → Type 0
AreLent [] [] = Unit {0}
AreLent [] (e ∷ es) = ⊥
AreLent (p ∷ ps) [] = ⊥
AreLent (p ∷ ps) (e ∷ es) = IsLent p e × AreLent ps es

-- keys that are equal are one key
versions_told : (n m : Bor (List ℕ)) (v w : Option (Bor Version)) → KeyEq (record { name = n; version = v }) (record { name = m; version = w }) ≡ true
    → borrowed_key (record { name = n; version = v }) ≡ borrowed_key (record { name = m; version = w })
versions_told n m None None e = key_same (borrowed_key (record { name = n; version = None })) (borrowed_key (record { name = m; version = None })) e
versions_told n m None (Some w) e = key_same (borrowed_key (record { name = n; version = None })) (borrowed_key (record { name = m; version = Some w })) e
versions_told n m (Some v) None e = key_same (borrowed_key (record { name = n; version = Some v })) (borrowed_key (record { name = m; version = None })) e
versions_told n m (Some v) (Some w) e = key_same (borrowed_key (record { name = n; version = Some v })) (borrowed_key (record { name = m; version = Some w })) e

key_told : (a b : BorrowedPackageKey) → KeyEq a b ≡ true → borrowed_key a ≡ borrowed_key b
key_told a b e = versions_told a.name b.name a.version b.version e

-- a package whose key is none of theirs comes last
pub lent_more : (ps : List Lent) (es : List Entry) (k : BorrowedPackageKey) (r : PackageRef) (e : Entry) → AreLent ps es → IsLent (k, r) e → ((q : Entry) → Among q es → key_of q ≡ key_of e → ⊥)
    → AreLent (insert_entry KeyEq ps k r) (es ++ e ∷ [])
lent_more [] [] k r e h new apart = (new, tt)
lent_more [] (x ∷ es) k r e h new apart = absurd h
lent_more (p ∷ ps) [] k r e h new apart = absurd h
lent_more (p ∷ ps) (x ∷ es) k r e h new apart = by (lent_more ps es k r e h.1 new (λ q a. apart q (inr a))) (KeyEq k p.0) refl
  where
    by : AreLent (insert_entry KeyEq ps k r) (es ++ e ∷ []) → (b : Bool) → KeyEq k p.0 ≡ b → AreLent (cond b ((p.0, r) ∷ ps) (p ∷ insert_entry KeyEq ps k r)) (x ∷ es ++ e ∷ [])
    by rest true t = absurd (apart x (inl refl) (sym h.0.0 ∙ sym (key_told k p.0 t) ∙ new.0))
    by rest false t = (h.0, rest)

pub apart_at : (es : List Entry) (i : ℕ) (d : Entry) → i < length es → AreApart es → (q : Entry) → Among q (take i es) → key_of q ≡ key_of (get_or es i d) → ⊥
apart_at [] i d h apart q a = absurd (omega (arith, h))
apart_at (e ∷ es) zero d h apart q a = absurd a
apart_at (e ∷ es) (suc i) d h apart q (inl s) = λ same. (apart.0 (get_or es i d) (among_at (λ (x : Entry). x ≡ x) es i d (omega (arith, h)))).keys (sym same ∙ ap key_of s)
apart_at (e ∷ es) (suc i) d h apart q (inr a) = apart_at es i d (omega (arith, h)) apart.1 q a

seen : Collection → Packaged → Option Content
seen c p = cond (is_some (item_node c (ItemKind.Component p.ty))) (Some (content_of c p)) None

handed_here : (p : Lent) (e : Entry) → IsLent p e → HasWorld e → handed_content p.1 ≡ Some (content e)
unfolding seen
handed_here p e h w = (λ j. seen (h.1.types j) (h.1.«package» j)) ∙ ap (λ b. cond b (Some (content e)) None) w

-- a document sees each with its world and its bytes
pub handed_told : (ps : List Lent) (es : List Entry) → AreLent ps es → ((q : Entry) → Among q es → HasWorld q) → handed_entries ps ≡ handed es
handed_told [] [] h w = refl
handed_told [] (x ∷ es) h w = absurd h
handed_told (p ∷ ps) [] h w = absurd h
handed_told (p ∷ ps) (x ∷ es) h w = λ j. with_handed (handed_here p x h.0 (w x (inl refl)) j) (h.0.0 j) (handed_told ps es h.1 (λ q a. w q (inr a)) j)
