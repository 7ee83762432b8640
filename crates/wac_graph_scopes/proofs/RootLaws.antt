-- Declarations at the root, read as entries.
use Rattle.std.specs.List.{AllZip}
use Rattle.std.specs.Prelude.{option_to_list, slice_get, if◌then◌else◌}
use Rattle.std.proofs.Common.{◌≡◌, ℕ, zero, suc, Bool, true, false, List, [], ◌∷◌, ◌++◌, Option, Some, None, refl, sym, ap, subst, ◌∙◌, inl, inr}
use Rattle.std.proofs.lemmas.List.{append-nil, map-append}
use Rattle.std.proofs.lemmas.Option.{same_Some}
use Rattle.wac_types_base.specs.Entries.{AreDistinct, Name, names_of, has_name}
use Rattle.wac_types_base.specs.Graph.{Among}
use Rattle.wac_types_base.proofs.Lists.{not_among}
use Rattle.wac_types_base.specs.Tree.{Tree}
use Rattle.wac_graph_bytes.specs.declared.value.Sort.{Sort}
use Rattle.wac_graph_bytes.specs.declared.value.Sort.TheVariants as sort
use Rattle.wac_graph_bytes.specs.Entries.{Alias, ExportAlias, OuterAlias, Declarations, End, CoreThen, TypeThen, ComponentTypeThen, InstanceTypeThen, AliasThen, ImportThen, ExportThen, PlainType, ComponentType, InstanceType, Entry, Core, Typed, Imported, Exported}
use Rattle.wac_graph_bytes.specs.Typing.{◌>>=◌, Worlds, Meaning, Item, Known, Scope, Inside, with_one, with_core, nothing_inside, adds_inside, imports_inside, exports_inside, defined, described, alias_of, alias_sort, module_tree, instance_tree, component_tree, declared}
use Rattle.wac_graph_bytes.specs.Wirings.{Source}
use Rattle.wac_graph_bytes.specs.Meaning.{State, source_of, exports_one, step, steps}
use Rattle.wac_graph_bytes.proofs.Steps.{bind_some, some_is}
use Rattle.wac_graph_scopes.specs.Roots.{root_entries, root_exports, alias_entry, alias_export, if_new, repeated, at_root, has_no_export, HaveSources, IsEarly, ReadsWith, RootsRead}
use Rattle.wac_graph_scopes.proofs.ScopeLaws.{Extends-one}
use Rattle.wac_types_parts.proofs.Lists.{distinct-append}

pub zip_more : {A B : Type 0} (R : A → B → Type 0) (xs : List A) (ys : List B) (x : A) (y : B) → AllZip R xs ys → R x y → AllZip R (xs ++ x ∷ []) (ys ++ y ∷ [])
zip_more R [] [] x y h r = (r, tt)
zip_more R [] (b ∷ ys) x y h r = absurd h
zip_more R (a ∷ xs) [] x y h r = absurd h
zip_more R (a ∷ xs) (b ∷ ys) x y h r = (h.0, zip_more R xs ys x y h.1 r)

-- what stands of types stays
types_one : (s : Sort) (m : Meaning) (h : Scope) (k : ℕ) (n : Meaning) → slice_get h.types k ≡ Some n → slice_get (with_one s m h).types k ≡ Some n
types_one s m h k n e = (Extends-one s m h).indexes sort.Ty k n e

pub types_kept : (w : Worlds) (outer : List Scope) (i j : Inside) (ds : Declarations) → declared w outer i ds ≡ Some j → (k : ℕ) (m : Meaning) → slice_get i.here.types k ≡ Some m → slice_get j.here.types k ≡ Some m
unfolding declared
types_kept w outer i j End e k m at = ap (λ (x : Inside). slice_get x.here.types k) (sym (some_is i j e)) ∙ at
types_kept w outer i j (CoreThen ds rest) e k m at =
    let b = bind_some (module_tree ds) (λ t. declared w outer (record i { here = with_core t i.here }) rest) j e in
    types_kept w outer (record i { here = with_core b.0 i.here }) j rest b.2 k m at
types_kept w outer i j (TypeThen t rest) e k m at =
    let b = bind_some (defined w (i.here ∷ outer) t) (λ t. declared w outer (adds_inside sort.Ty (Known t) i) rest) j e in
    types_kept w outer (adds_inside sort.Ty (Known b.0) i) j rest b.2 k m (types_one sort.Ty (Known b.0) i.here k m at)
types_kept w outer i j (ComponentTypeThen ds rest) e k m at =
    let b = bind_some (declared w (i.here ∷ outer) nothing_inside ds >>= component_tree) (λ t. declared w outer (adds_inside sort.Ty (Known t) i) rest) j e in
    types_kept w outer (adds_inside sort.Ty (Known b.0) i) j rest b.2 k m (types_one sort.Ty (Known b.0) i.here k m at)
types_kept w outer i j (InstanceTypeThen ds rest) e k m at =
    let b = bind_some (declared w (i.here ∷ outer) nothing_inside ds >>= instance_tree) (λ t. declared w outer (adds_inside sort.Ty (Known t) i) rest) j e in
    types_kept w outer (adds_inside sort.Ty (Known b.0) i) j rest b.2 k m (types_one sort.Ty (Known b.0) i.here k m at)
types_kept w outer i j (AliasThen a rest) e k m at =
    let b = bind_some (alias_of w (i.here ∷ outer) a) (λ m. declared w outer (adds_inside (alias_sort a) m i) rest) j e in
    types_kept w outer (adds_inside (alias_sort a) b.0 i) j rest b.2 k m (types_one (alias_sort a) b.0 i.here k m at)
types_kept w outer i j (ImportThen n d rest) e k m at =
    let b = bind_some (described w (i.here ∷ outer) n d) (λ x. declared w outer (imports_inside n x i) rest) j e in
    types_kept w outer (imports_inside n b.0 i) j rest b.2 k m (types_one b.0.0 (Item n b.0.0 b.0.1) i.here k m at)
types_kept w outer i j (ExportThen n d rest) e k m at =
    let b = bind_some (described w (i.here ∷ outer) n d) (λ x. declared w outer (exports_inside n x i) rest) j e in
    types_kept w outer (exports_inside n b.0 i) j rest b.2 k m (types_one b.0.0 (Item n b.0.0 b.0.1) i.here k m at)

module _ (early : ℕ → Option (Name × ℕ)) (w : Worlds) (j : Inside) (sources : HaveSources early j) where
  abbrev More : Inside → Declarations → List (Name × ℕ) → List (Name × Source ℕ) → Type 0
  More i ds seen es = ReadsWith early j w (at_root i es) (root_entries early seen ds) (root_exports early seen ds)

  -- one more entry before the others
  entry_then : (i next : Inside) (e : Entry) (rest : Declarations) (seen more : List (Name × ℕ)) (es fs : List (Name × Source ℕ)) → step w (at_root i es) e ≡ Some (at_root next fs)
      → More next rest more fs → ReadsWith early j w (at_root i es) (e ∷ root_entries early more rest) (root_exports early more rest)
  unfolding steps
  entry_then i next e rest seen more es fs one h = record { listing = h.listing; reads = ap (λ (o : Option State). o >>= λ n. steps w n (root_entries early more rest)) one ∙ h.reads; are = h.are }

  -- an alias is one, or the export in its place
  abbrev AliasIs : (i : Inside) (a : Alias) (m : Meaning) (seen : List (Name × ℕ)) (es : List (Name × Source ℕ)) → Option (Name × ℕ) → Type 0
  AliasIs i a m seen es o = (fs : List (Name × Source ℕ)) × (step w (at_root i es) (alias_entry a o) ≡ Some (at_root (adds_inside (alias_sort a) m i) fs)) × AllZip (IsEarly early j) (seen ++ option_to_list o) fs

  plain_alias : (i : Inside) (a : Alias) (m : Meaning) (seen : List (Name × ℕ)) (es : List (Name × Source ℕ)) → alias_of w (i.here ∷ []) a ≡ Some m → AllZip (IsEarly early j) seen es → AliasIs i a m seen es None
  unfolding step
  plain_alias i a m seen es reads z = (
    es,
    ap (λ (o : Option Meaning). o >>= λ n. Some (at_root (adds_inside (alias_sort a) n i) es)) reads,
    subst (λ (l : List (Name × ℕ)). AllZip (IsEarly early j) l es) (sym (append-nil seen)) z,
  )

  exported : (i : Inside) (k : ℕ) (m : Meaning) (x : Name × ℕ) (s : Source ℕ) (es : List (Name × Source ℕ)) → slice_get i.here.types k ≡ Some m → source_of m ≡ Some s
      → step w (at_root i es) (Exported (record { name = x.0; sort = sort.Ty; index = k; stated = None })) ≡ Some (at_root (adds_inside sort.Ty m i) (es ++ (x.0, s) ∷ []))
  unfolding step
  exported i k m x s es at is =
      ap (λ (o : Option Meaning). o >>= λ n. source_of n >>= λ y. Some (exports_one x.0 sort.Ty n y (at_root i es))) at
      ∙ ap (λ (o : Option (Source ℕ)). o >>= λ y. Some (exports_one x.0 sort.Ty m y (at_root i es))) is

  -- an alias that repeats a type
  repeating : (i : Inside) (k : ℕ) (m : Meaning) (rest : Declarations) (seen : List (Name × ℕ)) (es : List (Name × Source ℕ)) → declared w [] (adds_inside sort.Ty m i) rest ≡ Some j
      → alias_of w (i.here ∷ []) (OuterAlias sort.Ty zero k) ≡ Some m → AllZip (IsEarly early j) seen es → (o : Option (Name × ℕ)) → early k ≡ o → (b : Bool) → AliasIs i (OuterAlias sort.Ty zero k) m seen es (elim o [ None ↦ None | Some x ↦ if b then None else Some x ])
  repeating i k m rest seen es more reads z None e b = plain_alias i (OuterAlias sort.Ty zero k) m seen es reads z
  repeating i k m rest seen es more reads z (Some x) e true = plain_alias i (OuterAlias sort.Ty zero k) m seen es reads z
  repeating i k m rest seen es more reads z (Some x) e false =
      let at : slice_get j.here.types k ≡ Some m = types_kept w [] (adds_inside sort.Ty m i) j rest more k m (types_one sort.Ty m i.here k m reads) in
      let s = sources k x e m at in (
        es ++ (x.0, s.0) ∷ [],
        exported i k m x s.0 es reads s.1,
        zip_more (IsEarly early j) seen es x (x.0, s.0) z (record { index = k; named = e; name = refl; meaning = m; at = at; is = s.1 }),
      )

  alias_is : (i : Inside) (a : Alias) (m : Meaning) (rest : Declarations) (seen : List (Name × ℕ)) (es : List (Name × Source ℕ)) → declared w [] (adds_inside (alias_sort a) m i) rest ≡ Some j
      → alias_of w (i.here ∷ []) a ≡ Some m → AllZip (IsEarly early j) seen es → AliasIs i a m seen es (alias_export early seen a)
  alias_is i (ExportAlias s k n) m rest seen es more reads z = plain_alias i (ExportAlias s k n) m seen es reads z
  alias_is i (OuterAlias sort.Func n k) m rest seen es more reads z = plain_alias i (OuterAlias sort.Func n k) m seen es reads z
  alias_is i (OuterAlias sort.Component n k) m rest seen es more reads z = plain_alias i (OuterAlias sort.Component n k) m seen es reads z
  alias_is i (OuterAlias sort.Instance n k) m rest seen es more reads z = plain_alias i (OuterAlias sort.Instance n k) m seen es reads z
  alias_is i (OuterAlias sort.Module n k) m rest seen es more reads z = plain_alias i (OuterAlias sort.Module n k) m seen es reads z
  alias_is i (OuterAlias sort.Ty (suc n) k) m rest seen es more reads z = plain_alias i (OuterAlias sort.Ty (suc n) k) m seen es reads z
  alias_is i (OuterAlias sort.Ty zero k) m rest seen es more reads z = by (early k) refl
    where
      by : (o : Option (Name × ℕ)) → early k ≡ o → AliasIs i (OuterAlias sort.Ty zero k) m seen es (if_new seen o)
      by None e = repeating i k m rest seen es more reads z None e true
      by (Some x) e = repeating i k m rest seen es more reads z (Some x) e (has_name (names_of seen) x.0)

  pub reads : (i : Inside) (ds : Declarations) (seen : List (Name × ℕ)) (es : List (Name × Source ℕ)) → AllZip (IsEarly early j) seen es → has_no_export ds ≡ true → declared w [] i ds ≡ Some j → More i ds seen es
  unfolding declared step steps
  reads i End seen es z n e = record { listing = es; reads = ap (λ (k : Inside). Some (at_root k es)) (some_is i j e); are = z }
  reads i (CoreThen ds rest) seen es z n e =
      let b = bind_some (module_tree ds) (λ t. declared w [] (record i { here = with_core t i.here }) rest) j e in
      let next : Inside = record i { here = with_core b.0 i.here } in
      entry_then i next (Core ds) rest seen seen es es (ap (λ (o : Option Tree). o >>= λ t. Some (at_root (record i { here = with_core t i.here }) es)) b.1) (reads next rest seen es z n b.2)
  reads i (TypeThen t rest) seen es z n e =
      let b = bind_some (defined w (i.here ∷ []) t) (λ t. declared w [] (adds_inside sort.Ty (Known t) i) rest) j e in
      let next : Inside = adds_inside sort.Ty (Known b.0) i in
      entry_then i next (Typed (PlainType t)) rest seen seen es es (ap (λ (o : Option Tree). o >>= λ t. Some (at_root (adds_inside sort.Ty (Known t) i) es)) b.1) (reads next rest seen es z n b.2)
  reads i (ComponentTypeThen ds rest) seen es z n e =
      let b = bind_some (declared w (i.here ∷ []) nothing_inside ds >>= component_tree) (λ t. declared w [] (adds_inside sort.Ty (Known t) i) rest) j e in
      let next : Inside = adds_inside sort.Ty (Known b.0) i in
      entry_then i next (Typed (ComponentType ds)) rest seen seen es es (ap (λ (o : Option Tree). o >>= λ t. Some (at_root (adds_inside sort.Ty (Known t) i) es)) b.1) (reads next rest seen es z n b.2)
  reads i (InstanceTypeThen ds rest) seen es z n e =
      let b = bind_some (declared w (i.here ∷ []) nothing_inside ds >>= instance_tree) (λ t. declared w [] (adds_inside sort.Ty (Known t) i) rest) j e in
      let next : Inside = adds_inside sort.Ty (Known b.0) i in
      entry_then i next (Typed (InstanceType ds)) rest seen seen es es (ap (λ (o : Option Tree). o >>= λ t. Some (at_root (adds_inside sort.Ty (Known t) i) es)) b.1) (reads next rest seen es z n b.2)
  reads i (AliasThen a rest) seen es z n e =
      let b = bind_some (alias_of w (i.here ∷ []) a) (λ m. declared w [] (adds_inside (alias_sort a) m i) rest) j e in
      let next : Inside = adds_inside (alias_sort a) b.0 i in
      let o = alias_export early seen a in
      let x = alias_is i a b.0 rest seen es b.2 b.1 z in
      entry_then i next (alias_entry a o) rest seen (seen ++ option_to_list o) es x.0 x.1 (reads next rest (seen ++ option_to_list o) x.0 x.2 n b.2)
  reads i (ImportThen m d rest) seen es z n e =
      let b = bind_some (described w (i.here ∷ []) m d) (λ x. declared w [] (imports_inside m x i) rest) j e in
      let next : Inside = imports_inside m b.0 i in
      entry_then i next (Imported m d) rest seen seen es es (ap (λ (o : Option (Sort × Tree)). o >>= λ x. Some (at_root (imports_inside m x i) es)) b.1) (reads next rest seen es z n b.2)
  reads i (ExportThen m d rest) seen es z n e = absurd (cc n)

-- no name is exported twice
module _ (early : ℕ → Option (Name × ℕ)) where
  once_more : (seen : List (Name × ℕ)) (o : Option (Name × ℕ)) (b : Bool) → AreDistinct (names_of seen) → ((x : Name × ℕ) → o ≡ Some x → has_name (names_of seen) x.0 ≡ b) → AreDistinct (names_of (seen ++ option_to_list (elim o [ None ↦ None | Some x ↦ if b then None else Some x ])))
  once_more seen None b d h = subst (λ (l : List (Name × ℕ)). AreDistinct (names_of l)) (sym (append-nil seen)) d
  once_more seen (Some x) true d h = subst (λ (l : List (Name × ℕ)). AreDistinct (names_of l)) (sym (append-nil seen)) d
  once_more seen (Some x) false d h =
      subst AreDistinct (sym (map-append (λ (y : Name × ℕ). y.0) seen (x ∷ [])))
      (distinct-append (names_of seen) (x.0 ∷ []) d ((λ m. m), tt) (λ n m k. elim k [ inl e ↦ not_among (names_of seen) x.0 (h x refl) (subst (λ (y : Name). Among y (names_of seen)) e m) | inr z ↦ z ]))

  alias_once : (seen : List (Name × ℕ)) (a : Alias) → AreDistinct (names_of seen) → AreDistinct (names_of (seen ++ option_to_list (alias_export early seen a)))
  alias_once seen a d = by (repeated a)
    where
      new : (o : Option (Name × ℕ)) → AreDistinct (names_of (seen ++ option_to_list (if_new seen o)))
      new None = once_more seen None true d (λ x e. absurd (cc e))
      new (Some x) = once_more seen (Some x) (has_name (names_of seen) x.0) d (λ y e. ap (λ (z : Name × ℕ). has_name (names_of seen) z.0) (sym (same_Some _ _ e)))

      by : (o : Option ℕ) → AreDistinct (names_of (seen ++ option_to_list (elim o [ None ↦ None | Some k ↦ if_new seen (early k) ])))
      by None = once_more seen None true d (λ x e. absurd (cc e))
      by (Some k) = new (early k)

  pub exports_once : (seen : List (Name × ℕ)) (ds : Declarations) → AreDistinct (names_of seen) → AreDistinct (names_of (root_exports early seen ds))
  exports_once seen End d = d
  exports_once seen (CoreThen ds rest) d = exports_once seen rest d
  exports_once seen (TypeThen t rest) d = exports_once seen rest d
  exports_once seen (ComponentTypeThen ds rest) d = exports_once seen rest d
  exports_once seen (InstanceTypeThen ds rest) d = exports_once seen rest d
  exports_once seen (AliasThen a rest) d = exports_once (seen ++ option_to_list (alias_export early seen a)) rest (alias_once seen a d)
  exports_once seen (ImportThen n e rest) d = exports_once seen rest d
  exports_once seen (ExportThen n e rest) d = exports_once seen rest d

pub roots_read : RootsRead
roots_read early w i j ds seen es z sources n e = reads early w j sources i ds seen es z n e
