-- Names, paths and packages say the same whatever the spans are, and over packages that are the same where they are named.
use Rattle.std.specs.Prelude.{ℕ, ◌+◌, ◌==◌, Bool, true, false, cond, List, [], ◌∷◌, ◌++◌, length, Option, Some, None, is_some, option_map}
use Rattle.std.specs.Cmp.Lexicographic.{pointwise}
use Rattle.std.proofs.Common.{◌≡◌, refl, sym, ap, ◌∙◌, subst, inl}
use Rattle.std.proofs.lemmas.List.{map-append}
use Rattle.wac_types_base.specs.Entries.{Name, value_at, with_values}
use Rattle.wac_types_base.specs.Stated.{Stated, desc, exports_of}
use Rattle.wac_types_base.proofs.Standing.{is_some-option_map}
use Rattle.wac_types_base.proofs.Stating.{value_with}
use Rattle.wac_types_names.specs.Keys.{Key}
use Rattle.wac_parser_tree.specs.Trees as t
use Rattle.wac_parser_tree.specs.Bare.{nowhere, bare_ident, bare_package_name, bare_package_path, bare_use_path, bare_world_ref}
use Rattle.wac_parser_tree.specs.Named.{Named, in_path}
use Rattle.wac_parser_tree.specs.Segments.{Segment, place, placed, between_slashes, segment_spans, package_name_span}
use Rattle.wac_parser_refusals.specs.Causes.{◌>>=◌, ◌>>◌, pure, present, UndefinedName, UnknownPackage, PackageMissingExport, PackagePathMissingExport}
use Rattle.wac_parser_refusals.proofs.Alike.{IsAlike, both, neither, itself, AreSame, then_alike, next_alike, present_same, HoldsIn}
use Rattle.wac_parser_declare.specs.Scope.{Meant, Scope, Context, Path, in_package, at_root, has, meant, named, taken, bind, package_under, world_of_package, definitions, use_path, world_path, own_path, package_path, from_root, from_definitions, path_item, at_path, passed_text}

-- ---- names of a scope

abbrev pub bare_meant : Meant → Meant
bare_meant m = record { item = m.item; span = nowhere }

abbrev pub bare_scope : Scope → Scope
bare_scope ns = with_values bare_meant ns

pub has_read : {T U : Type 0} (f : T → U) (xs : List (Name × T)) (n : Name) → has (with_values f xs) n ≡ has xs n
has_read f xs n = ap is_some (value_with f xs n) ∙ is_some-option_map f (value_at xs n)

pub meant_alike : (ns : Scope) (i : t.Ident) → IsAlike itself bare_meant (meant ns i) (meant (bare_scope ns) (bare_ident i))
meant_alike ns i = subst (λ (o : Option Meant). IsAlike itself bare_meant (meant ns i) (present o (UndefinedName i.string) nowhere)) (sym (value_with bare_meant ns i.string)) (go (value_at ns i.string))
  where
    go : (o : Option Meant) → IsAlike itself bare_meant (present o (UndefinedName i.string) i.span) (present (option_map bare_meant o) (UndefinedName i.string) nowhere)
    go None = neither _ _
    go (Some m) = both m

pub named_alike : (ns : Scope) (i : t.Ident) → AreSame (named ns i) (named (bare_scope ns) (bare_ident i))
named_alike ns i = then_alike (λ (m : Meant). pure m.item) (λ (m : Meant). pure m.item) (meant_alike ns i) (λ m. both m.item)

taken_alike : (o : Option Meant) (i : t.Ident) → AreSame (taken o i) (taken (option_map bare_meant o) (bare_ident i))
taken_alike None i = both tt
taken_alike (Some m) i = neither _ _

pub bind_alike : (ns : Scope) (i : t.Ident) (x : Stated) → IsAlike itself bare_scope (bind ns i x) (bind (bare_scope ns) (bare_ident i) x)
bind_alike ns i x = subst (λ (o : Option Meant). IsAlike itself bare_scope (bind ns i x) (taken o (bare_ident i) >> pure after)) (sym (value_with bare_meant ns i.string))
    (next_alike (taken_alike (value_at ns i.string) i) (subst (λ (ms : Scope). IsAlike itself bare_scope (pure (ns ++ one ∷ [])) (pure ms)) (map-append (λ (e : Name × Meant). (e.0, bare_meant e.1)) ns (one ∷ [])) (both (ns ++ one ∷ []))))
  where
    one : Name × Meant
    one = (i.string, record { item = x; span = i.span })

    after : Scope
    after = bare_scope ns ++ (i.string, record { item = x; span = nowhere }) ∷ []

-- ---- packages

-- a package has one world in both
abbrev pub IsSameIn : List (Key × Stated) → List (Key × Stated) → Named → Type 0
IsSameIn ps qs k = package_under ps k ≡ package_under qs k

abbrev pub AreSameIn : List (Key × Stated) → List (Key × Stated) → List Named → Type 0
AreSameIn ps qs ks = HoldsIn (IsSameIn ps qs) ks

-- the same place over other packages, without spans
abbrev pub bare_context : List (Key × Stated) → Context → Context
bare_context qs c = record { own = bare_package_name c.own; packages = qs; root = bare_scope c.root }

pub package_alike : (ps qs : List (Key × Stated)) (k : Key) (s z : t.Span) → package_under ps k ≡ package_under qs k → AreSame (world_of_package ps k s) (world_of_package qs k z)
package_alike ps qs k s z e = subst (λ (o : Option Stated). AreSame (world_of_package ps k s) (present o (UnknownPackage k.0) z)) e (present_same (package_under ps k) (UnknownPackage k.0) (UnknownPackage k.0) s z)

-- ---- paths

own_path_alike : (parent : Name) (x : Stated) (m n : ℕ) (ws : List Name) → AreSame (own_path parent x (placed m ws)) (own_path parent x (placed n ws))
own_path_alike parent x m n [] = both x
own_path_alike parent x m n (w ∷ ws) =
    then_alike _ _ (present_same (value_at (exports_of x) w) (PackagePathMissingExport parent (desc x) w) (PackagePathMissingExport parent (desc x) w) _ _)
    (λ y. own_path_alike w y (m + length w + 1) (n + length w + 1) ws)

package_path_alike : (p : Name) (passed gone : List Segment) (x : Stated) (m n : ℕ) (ws : List Name) → AreSame (package_path p passed x (placed m ws)) (package_path p gone x (placed n ws))
package_path_alike p passed gone x m n [] = both x
package_path_alike p passed gone x m n (w ∷ ws) =
    then_alike _ _ (present_same (value_at (exports_of x) w) (PackageMissingExport p w (Some (desc x)) (passed_text passed)) (PackageMissingExport p w (Some (desc x)) (passed_text gone)) _ _)
    (λ y. package_path_alike p (passed ++ segment m ∷ []) (gone ++ segment n ∷ []) y (m + length w + 1) (n + length w + 1) ws)
  where
    segment : ℕ → Segment
    segment k = (w, record { offset = place k; length = length w })

from_root_alike : (c : Context) (qs : List (Key × Stated)) (m n : ℕ) (ws : List Name) → AreSame (from_root c (placed m ws)) (from_root (bare_context qs c) (placed n ws))
from_root_alike c qs m n [] = neither _ _
from_root_alike c qs m n (w ∷ ws) = then_alike _ _ (named_somewhere c.root w _ _) (λ y. own_path_alike w y (m + length w + 1) (n + length w + 1) ws)
  where
    named_somewhere : (ns : Scope) (w : Name) (s z : t.Span) → AreSame (named ns (record { string = w; span = s })) (named (bare_scope ns) (record { string = w; span = z }))
    named_somewhere ns w s z = then_alike (λ (m : Meant). pure m.item) (λ (m : Meant). pure m.item) (subst (λ (o : Option Meant). IsAlike itself bare_meant (present (value_at ns w) (UndefinedName w) s) (present o (UndefinedName w) z)) (sym (value_with bare_meant ns w)) (go (value_at ns w))) (λ m. both m.item)
      where
        go : (o : Option Meant) → IsAlike itself bare_meant (present o (UndefinedName w) s) (present (option_map bare_meant o) (UndefinedName w) z)
        go None = neither _ _
        go (Some m) = both m

from_definitions_alike : (p : t.PackagePath) (ds : List (Name × Stated)) (m n : ℕ) (ws : List Name) → AreSame (from_definitions p ds (placed m ws)) (from_definitions (bare_package_path p) ds (placed n ws))
from_definitions_alike p ds m n [] = neither _ _
from_definitions_alike p ds m n (w ∷ ws) =
    then_alike _ _ (present_same (value_at ds w) (PackageMissingExport p.name w None []) (PackageMissingExport p.name w None []) _ _)
    (λ y. package_path_alike p.name _ _ y (m + length w + 1) (n + length w + 1) ws)

pub path_alike : (c : Context) (qs : List (Key × Stated)) (p : t.PackagePath) → AreSameIn c.packages qs (in_path p) → AreSame (path_item c p) (path_item (bare_context qs c) (bare_package_path p))
path_alike c qs p h = go (pointwise ◌==◌ p.name c.own.name)
  where
    low : ℕ
    low = p.span.offset + length p.name + 1

    go : (b : Bool) → AreSame
        (cond b (from_root c (segment_spans p)) (world_of_package c.packages (p.name, p.version) (package_name_span p) >>= λ w. from_definitions p (definitions w) (segment_spans p)))
        (cond b (from_root (bare_context qs c) (segment_spans (bare_package_path p))) (world_of_package qs (p.name, p.version) (package_name_span (bare_package_path p)) >>= λ w. from_definitions (bare_package_path p) (definitions w) (segment_spans (bare_package_path p))))
    go true = from_root_alike c qs low (0 + length p.name + 1) (between_slashes p.segments)
    go false = then_alike _ _ (package_alike c.packages qs (p.name, p.version) _ _ (h (p.name, p.version) (inl refl))) (λ w. from_definitions_alike p (definitions w) low (0 + length p.name + 1) (between_slashes p.segments))

abbrev pub bare_path : Path → Path
bare_path (in_package p) = in_package (bare_package_path p)
bare_path (at_root i) = at_root (bare_ident i)

abbrev pub in_any_path : Path → List Named
in_any_path (in_package p) = in_path p
in_any_path (at_root i) = []

pub at_alike : (c : Context) (qs : List (Key × Stated)) (p : Path) → AreSameIn c.packages qs (in_any_path p) → AreSame (at_path c p) (at_path (bare_context qs c) (bare_path p))
at_alike c qs (in_package p) h = path_alike c qs p h
at_alike c qs (at_root i) h = named_alike c.root i

pub use_path_bare : (p : t.UsePath) → use_path (bare_use_path p) ≡ bare_path (use_path p)
use_path_bare (t.UsePath.package_path p) = refl
use_path_bare (t.UsePath.ident i) = refl

pub world_path_bare : (p : t.WorldRef) → world_path (bare_world_ref p) ≡ bare_path (world_path p)
world_path_bare (t.WorldRef.package_path p) = refl
world_path_bare (t.WorldRef.ident i) = refl
