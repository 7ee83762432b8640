-- In a sound composition whose asks are met each import is bound to what fits it, and the world that is handed out is true.
use Rattle.std.specs.Prelude.{◌==◌, ◌<◌, drop, option_map, unwrap_or, is_some, not, cond, filter, slice_get, IsSome, if◌then◌else◌}
use Rattle.std.proofs.lemmas.Option.{none-some, same_Some}
use Rattle.std.specs.List.{flat_map}
use Rattle.std.specs.Cmp.Lexicographic.{pointwise, bytes_decides}
use Rattle.std.proofs.Common.{◌≡◌, ℕ, ◌+◌, List, [], ◌∷◌, ◌++◌, map, length, Bool, true, false, true≢false, Option, Some, None, inl, inr, refl, sym, ap, subst, ◌∙◌}
use Rattle.wac_types_base.specs.Entries.{Name, value_at}
use Rattle.wac_types_base.specs.Graph.{Among}
use Rattle.wac_types_base.specs.Collection.{world}
use Rattle.wac_types_base.specs.Stated.{Stated, row, folded_row, names, filled, parts_at, only_places, with_names, first_parts, Kind, kind_of, imports_of, exports_of, uses_of, instance_type, world_of}
use Rattle.wac_types_base.specs.Tree.{Tree, Fields, tree}
use Rattle.wac_types_base.specs.Fits.{HasField, Fits, FieldsFit, instance_fits}
use Rattle.wac_types_fit.proofs.TreeLaws.{Fits-refl, Fits-trans}
use Rattle.wac_types_fit.proofs.Looking.{given, looked-has, has-looked}
use Rattle.wac_types_fit.proofs.Meeting.{mapped-some}
use Rattle.wac_types_names.specs.Keys.{Key}
use Rattle.wac_graph_bytes.specs.Wirings.{Tag, Source, Absent, Outer, Inst, Projection, Bundle, Definition, project, Uses, Instantiation}
use Rattle.wac_nesting.specs.Given.{HasNone, HasTree, IsDefinition, Gives, Provides, States, AreOuters, IsBoundInstance}
use Rattle.wac_nesting.proofs.Given.{project_tree}
use Rattle.wac_composition.specs.Composition.{Origin, imported, projected, defined, Placed, Made, Composition}
use Rattle.wac_composition.specs.Asks.{ToFill, Ask, explicit_ask, filled_asks, named_asks, asks_of}
use Rattle.wac_composition.specs.Classes.{spelling, is_instance_kind}
use Rattle.wac_composition.specs.OuterImports.{outer_imports}
use Rattle.wac_types_written.specs.Written.{bare_world, formed_at, is_type, found_in, written_definition}
use Rattle.wac_composition.specs.Worlds.{then_in, final_type, source_of, exported_type, world_exports, used_world, composed_world}
use Rattle.wac_composition.specs.Wired.{source_for, argument_source, instantiation, export_source, composed_wiring}
use Rattle.wac_composition.specs.Sound.{fields_of, maps_of, IsStraight, an_instance, no_instance, HasType, of_import, of_instance, of_export, of_definition, given_as, IsBefore, IsSound, IsMade, IsWired}
use Rattle.wac_composition.proofs.KeptFits.{fields_ordered, fields_looked, instance_tree, made_tree}
use Rattle.wac_composition.proofs.Clashing.{value_among}
use Rattle.wac_composition.specs.OuterLaws.{AreMet}
use Rattle.wac_composition.proofs.Straight.{outer_straight}
use Rattle.wac_composition.proofs.Unused.{made_world, without_same, zero_plus}
use Rattle.wac_composition.proofs.AskedAgain.{among_first}
use Rattle.wac_composition.proofs.Lists.{flat_among}
use Rattle.wac_types_base.proofs.Looked.{among-get}
use Rattle.wac_types_base.proofs.Adding.{Among-right}
use Rattle.wac_types_base.proofs.Lists.{among_mapped}
use Rattle.wac_graph_bytes.proofs.Replace.{Uses-project}

-- ---- maps of named items

pub has_field : (es : List (Name × Stated)) (n : Name) (x : Stated) → value_at es n ≡ Some x → HasField n (tree x) (fields_of es)
has_field es n x e = looked-has n (tree x) (fields_of es) (fields_looked es n ∙ ap (option_map tree) e)

pub field_has : (es : List (Name × Stated)) (n : Name) (t : Tree) → HasField n t (fields_of es) → (x : Stated) × (value_at es n ≡ Some x) × (tree x ≡ t)
field_has es n t h = mapped-some tree (value_at es n) t (sym (fields_looked es n) ∙ has-looked n t (fields_of es) (fields_ordered es) h)

pub has_none : (es : List (Name × Stated)) (n : Name) → HasNone n (fields_of es) → value_at es n ≡ None
has_none es n h = go (value_at es n) refl
  where
    go : (o : Option Stated) → value_at es n ≡ o → o ≡ None
    go None e = refl
    go (Some x) e = absurd (h (tree x) (has_field es n x e))

value_mapped : {X Y : Type 0} (f : X → Y) (es : List (Name × X)) (n : Name) → value_at (map (λ e. (e.0, f e.1)) es) n ≡ option_map f (value_at es n)
value_mapped f [] n = refl
value_mapped f (e ∷ es) n = go (value_mapped f es n) (pointwise ◌==◌ n e.0)
  where
    go : value_at (map (λ e. (e.0, f e.1)) es) n ≡ option_map f (value_at es n) → (b : Bool) → (if b then Some (f e.1) else value_at (map (λ e. (e.0, f e.1)) es) n) ≡ option_map f (if b then Some e.1 else value_at es n)
    go rest true = refl
    go rest false = rest

-- an instance that fits another is one of exports that fit
fits_instance : (v : Tree) (xs : Fields) → Fits v (Tree.instance xs) → (ys : Fields) × (v ≡ Tree.instance ys) × FieldsFit ys xs
fits_instance v xs (instance_fits {xs = ys} f) = (ys, refl, f)

instances_same : {xs ys : Fields} → Tree.instance xs ≡ Tree.instance ys → xs ≡ ys
instances_same e = cc

-- ---- lists

-- an entry that stands under its name, and passes
pub among_passing : (t : Name × Stated → Bool) (es : List (Name × Stated)) (n : Name) (x : Stated) → value_at es n ≡ Some x → t (n, x) ≡ true → Among (n, x) (filter t es)
among_passing t [] n x e p = absurd (none-some _ e)
among_passing t (f ∷ es) n x e p = go (λ r. among_passing t es n x r p) (pointwise ◌==◌ n f.0) refl e (t f) refl
  where
    go : (value_at es n ≡ Some x → Among (n, x) (filter t es)) → (b : Bool) → pointwise ◌==◌ n f.0 ≡ b → (if b then Some f.1 else value_at es n) ≡ Some x → (k : Bool) → t f ≡ k → Among (n, x) (cond k (f ∷ filter t es) (filter t es))
    go rest true q r true s = inl (λ i. ((bytes_decides n f.0).0 q i, sym (same_Some _ _ r) i))
    go rest true q r false s =
        let is : (n, x) ≡ f = λ i. ((bytes_decides n f.0).0 q i, sym (same_Some _ _ r) i) in
        absurd (true≢false (sym p ∙ ap t is ∙ s))
    go rest false q r true s = inr (rest r)
    go rest false q r false s = rest r

-- ---- the maps of a world that is made

read_imports : (is : List (Name × Stated)) (os : List (Option Stated)) → first_parts (with_names (names is) (only_places (row (filled is ++ os)))) ≡ is
read_imports [] os = refl
read_imports (e ∷ is) os = ap (λ l. e ∷ l) (read_imports is os)

read_exports : (es : List (Name × Stated)) → first_parts (with_names (names es) (only_places (row (filled es)))) ≡ es
read_exports [] = refl
read_exports (e ∷ es) = ap (λ l. e ∷ l) (read_exports es)

behind_imports : (is : List (Name × Stated)) (os : List (Option Stated)) → drop (length (names is)) (only_places (row (filled is ++ os))) ≡ only_places (row os)
behind_imports [] os = refl
behind_imports (e ∷ is) os = behind_imports is os

made_imports : (i : Option Name) (is es : List (Name × Stated)) → imports_of (world_of i [] is es) ≡ is
made_imports i is es = read_imports is (filled es)

made_exports : (i : Option Name) (is es : List (Name × Stated)) → exports_of (world_of i [] is es) ≡ es
made_exports i is es =
    ap (λ k. first_parts (with_names (names es) (drop k (only_places (row (filled is ++ filled es)))))) (sym (zero_plus (length (names is))))
    ∙ ap (λ os. first_parts (with_names (names es) os)) (behind_imports is (filled es)) ∙ read_exports es

made_maps : (i : Option Name) (is es : List (Name × Stated)) → tree (world_of i [] is es) ≡ Tree.component (fields_of (imports_of (world_of i [] is es))) (fields_of (exports_of (world_of i [] is es)))
made_maps i is es = made_world i is es ∙ (λ j. Tree.component (fields_of (sym (made_imports i is es) j)) (fields_of (sym (made_exports i is es) j)))

same_maps : {is es js fs : Fields} → Tree.component is es ≡ Tree.component js fs → (is ≡ js) × (es ≡ fs)
same_maps e = (cc, cc)

no_type : (k : Kind) → is_instance_kind k ≡ true → is_type k ≡ true → ⊥
no_type Kind.IsFunction a b = true≢false (sym a)
no_type Kind.IsInstance a b = true≢false (sym b)
no_type Kind.IsComponent a b = true≢false (sym a)
no_type Kind.IsModule a b = true≢false (sym a)
no_type Kind.IsValue a b = true≢false (sym a)
no_type Kind.IsResource a b = true≢false (sym a)
no_type Kind.IsFunctionType a b = true≢false (sym a)
no_type Kind.IsValueType a b = true≢false (sym a)
no_type Kind.IsInterface a b = true≢false (sym a)
no_type Kind.IsWorld a b = true≢false (sym a)
no_type Kind.IsModuleType a b = true≢false (sym a)

-- an instance that is straight
straight_instance : (x : Stated) (xs : Fields) → IsStraight x → tree x ≡ Tree.instance xs → (is_instance_kind (kind_of x) ≡ true) × ((n : Name) (y : Stated) → Among (n, y) (exports_of x) → IsStraight y)
straight_instance x xs (an_instance e h) q = (e, h)
straight_instance x xs (no_instance f) q = absurd (f xs q)

-- ---- exports, as what stands under names

abbrev Export_of : Type 0 → Type 0
Export_of I = Origin I × Stated

abbrev paired : {I : Type 0} → List (Name × Origin I × Stated) → List (Name × Export_of I)
paired es = map (λ e. (e.0, (e.1, e.2))) es

paired_among : {I : Type 0} (es : List (Name × Origin I × Stated)) (n : Name) (p : Export_of I) → value_at (paired es) n ≡ Some p → Among (n, p.0, p.1) es
paired_among [] n p e = absurd (none-some _ e)
paired_among (f ∷ es) n p e = go (paired_among es n p) (pointwise ◌==◌ n f.0) refl e
  where
    go : (value_at (paired es) n ≡ Some p → Among (n, p.0, p.1) es) → (b : Bool) → pointwise ◌==◌ n f.0 ≡ b → (if b then Some (f.1, f.2) else value_at (paired es) n) ≡ Some p → Among (n, p.0, p.1) (f ∷ es)
    go rest true q r = inl (λ i. ((bytes_decides n f.0).0 q i, (sym (same_Some _ _ r) i).0, (sym (same_Some _ _ r) i).1))
    go rest false q r = inr (rest r)

paired_exports : {A I : Type 0} (as_ : List (Ask A)) (es : List (Name × Origin I × Stated)) → world_exports as_ es ≡ map (λ e. (e.0, exported_type as_ e.1)) (paired es)
paired_exports as_ [] = refl
paired_exports as_ (e ∷ es) = ap (λ l. (e.0, exported_type as_ (e.1, e.2)) ∷ l) (paired_exports as_ es)

paired_origins : {I : Type 0} (es : List (Name × Origin I × Stated)) → map {B = Name × Origin I} (λ e. (e.0, e.1)) es ≡ map {B = Name × Origin I} (λ e. (e.0, e.1.0)) (paired es)
paired_origins [] = refl
paired_origins (e ∷ es) = ap (λ l. (e.0, e.1) ∷ l) (paired_origins es)

module _ {A : Type 0} (tag_of : Key → Tag) (c : Composition A ℕ) (met : AreMet c) (sound : IsSound c) where
  abbrev asks : List (Ask A)
  asks = asks_of c

  abbrev outs : Name → Option Tree
  outs n = option_map tree (value_at (outer_imports asks) n)

  -- what an origin is in the wiring: its final type, which fits the one by which steps go
  record Stands (o : Origin ℕ) (x : Stated) : Type 0 where
    item : Stated
    has : HasTree outs (IsMade c) (source_of asks o) (tree item)
    fits : Fits (tree item) (tree (given_as o x))
    final : unwrap_or (final_type asks o) x ≡ item
    straight : (final_type asks o ≡ Some item) → IsStraight item

  imported_stands : (i : Placed A) → Among i c.imports → Stands (imported i.name) i.item
  imported_stands i m =
      let a : Among (explicit_ask i) asks = among_first (named_asks c) _ (explicit_ask i) (among_first (map explicit_ask c.imports) (flat_map filled_asks c.made) (explicit_ask i) (among_mapped explicit_ask c.imports i m)) in
      let k = met (explicit_ask i) a in
      record {
        item = k.item;
        has = ap (option_map tree) k.there;
        fits = k.fits;
        final = ap (λ o. unwrap_or o i.item) k.there;
        straight = λ e. outer_straight asks sound.straight (spelling asks i.name) k.item k.there;
      }

  instance_stands : (k : ℕ) (m : Made A ℕ) → slice_get c.made k ≡ Some m → Stands (Origin.instance k) (instance_type m.world)
  instance_stands k m e =
      let is : tree (instance_type m.world) ≡ Tree.instance (fields_of (exports_of m.world)) = made_tree None (uses_of m.world) (exports_of m.world) in
      record {
        item = instance_type m.world;
        has = (maps_of m.world, record { made = m; there = e; says = refl }, is);
        fits = Fits-refl (tree (instance_type m.world));
        final = refl;
        straight = λ q. absurd (none-some _ q);
      }

  defined_stands : (n : Name) (x : Stated) → is_type (kind_of x) ≡ true → IsDefinition (tree (written_definition x)) → Stands (defined n x) x
  defined_stands n x k d = record {
    item = written_definition x;
    has = (refl, d);
    fits = Fits-refl (tree (written_definition x));
    final = refl;
    straight = λ q. no_instance (λ xs e. subst IsDefinition e d);
  }

  -- what is no definition is given as it is
  given_same : (o : Origin ℕ) (x : Stated) → HasType c o x → is_instance_kind (kind_of x) ≡ true → given_as o x ≡ x
  given_same o x (of_import i m) k = refl
  given_same o x (of_instance j m e) k = refl
  given_same o x (of_export p y n z h i e) k = refl
  given_same o x (of_definition n y t d) k = absurd (no_type (kind_of x) k t)

  -- an export of what stands
  record Export (o : Origin ℕ) (x item : Stated) (n : Name) (y : Stated) : Type 0 where
    one : Stated
    has : HasTree outs (IsMade c) (source_of asks (projected o n)) (tree one)
    fits : Fits (tree one) (tree y)
    final : unwrap_or (final_type asks (projected o n)) y ≡ one
    straight : (final_type asks (projected o n) ≡ Some one) → IsStraight one

  -- of an instance that comes from an import
  final_export : (o : Origin ℕ) (x item : Stated) (n : Name) (y : Stated) → HasTree outs (IsMade c) (source_of asks o) (tree item) → Fits (tree item) (tree x) → IsStraight item → final_type asks o ≡ Some item
      → is_instance_kind (kind_of x) ≡ true → value_at (exports_of x) n ≡ Some y → Export o x item n y
  final_export o x item n y has f s q k e =
      let i = fits_instance (tree item) (fields_of (exports_of x)) (subst (Fits (tree item)) (instance_tree x k) f) in
      let t = straight_instance item i.0 s i.1 in
      let own : i.0 ≡ fields_of (exports_of item) = instances_same (sym i.1 ∙ instance_tree item t.0) in
      let g = given i.0 (fields_of (exports_of x)) n (tree y) i.2 (has_field (exports_of x) n y e) in
      let v = field_has (exports_of item) n g.0 (subst (HasField n g.0) own g.1) in
      let final : final_type asks (projected o n) ≡ Some v.0 = ap (λ p. then_in p n) q ∙ v.1 in
      record {
        one = v.0;
        has = project_tree outs (IsMade c) (source_of asks o) (fields_of (exports_of item)) n (tree v.0) (subst (HasTree outs (IsMade c) (source_of asks o)) (instance_tree item t.0) has) (has_field (exports_of item) n v.0 v.1);
        fits = subst (λ w. Fits w (tree y)) (sym v.2) g.2;
        final = ap (λ p. unwrap_or p y) final;
        straight = λ r. t.1 n v.0 (value_among (exports_of item) n v.0 v.1);
      }

  -- of an instance of the composition
  made_export : (o : Origin ℕ) (x item : Stated) (n : Name) (y : Stated) → HasTree outs (IsMade c) (source_of asks o) (tree item) → final_type asks o ≡ None → x ≡ item
      → is_instance_kind (kind_of x) ≡ true → value_at (exports_of x) n ≡ Some y → Export o x item n y
  made_export o x item n y has q same k e = record {
    one = y;
    has = project_tree outs (IsMade c) (source_of asks o) (fields_of (exports_of x)) n (tree y) (subst (HasTree outs (IsMade c) (source_of asks o)) (ap tree (sym same) ∙ instance_tree x k) has) (has_field (exports_of x) n y e);
    fits = Fits-refl (tree y);
    final = ap (λ p. unwrap_or (then_in p n) y) q;
    straight = λ r. absurd (none-some _ (sym (ap (λ p. then_in p n) q) ∙ r));
  }

  exported_stands : (o : Origin ℕ) (x : Stated) (n : Name) (y : Stated) → HasType c o x → Stands o x → is_instance_kind (kind_of x) ≡ true → value_at (exports_of x) n ≡ Some y → Stands (projected o n) y
  exported_stands o x n y h s k e = done (go (final_type asks o) refl)
    where
      fit : Fits (tree s.item) (tree x)
      fit = subst (λ w. Fits (tree s.item) (tree w)) (given_same o x h k) s.fits

      go : (p : Option Stated) → final_type asks o ≡ p → Export o x s.item n y
      go None q = made_export o x s.item n y s.has q (sym (ap (λ p. unwrap_or p x) q) ∙ s.final) k e
      go (Some z) q =
          let is : final_type asks o ≡ Some s.item = q ∙ ap Some (sym (ap (λ p. unwrap_or p x) q) ∙ s.final) in
          final_export o x s.item n y s.has fit (s.straight is) is k e

      done : Export o x s.item n y → Stands (projected o n) y
      done v = record { item = v.one; has = v.has; fits = v.fits; final = v.final; straight = v.straight }

  stands : (o : Origin ℕ) (x : Stated) → HasType c o x → Stands o x
  stands o x (of_import i m) = imported_stands i m
  stands o x (of_instance k m e) = instance_stands k m e
  stands o x (of_export p y n z h i e) = exported_stands p y n z h (stands p y h) i e
  stands o x (of_definition n y k d) = defined_stands n y k d

  -- ---- arguments

  filled_ask : (k : ℕ) (m : Made A ℕ) (n : Name) (x : Stated) → slice_get c.made k ≡ Some m → value_at (imports_of m.world) n ≡ Some x → value_at m.arguments n ≡ None
      → Among (record { asking = ToFill; by = m.by; name = n; item = x }) asks
  filled_ask k m n x e v a =
      let open_ = among_passing (λ (e : Name × Stated). not (is_some (value_at m.arguments e.0))) (imports_of m.world) n x v (ap (λ o. not (is_some o)) a) in
      let one = among_mapped (λ (e : Name × Stated). record { asking = ToFill; by = m.by; name = e.0; item = e.1 }) _ (n, x) open_ in
      among_first (named_asks c) _ _ (Among-right _ (map explicit_ask c.imports) (flat_map filled_asks c.made) (flat_among filled_asks c.made m _ (among-get c.made k m e) one))

  given_for : (k : ℕ) (m : Made A ℕ) (n : Name) (x : Stated) → slice_get c.made k ≡ Some m → value_at (imports_of m.world) n ≡ Some x → (o : Option (Origin ℕ)) → value_at m.arguments n ≡ o
      → Gives outs (IsMade c) (source_for tag_of c o n) (tree x)
  given_for k m n x e v None a =
      let i = met (record { asking = ToFill; by = m.by; name = n; item = x }) (filled_ask k m n x e v a) in
      record { given = tree i.item; has = ap (option_map tree) i.there; fits = i.fits }
  given_for k m n x e v (Some o) a =
      let g = sound.given k m n o x e a v in
      let s = stands o g.item g.has in
      record { given = tree s.item; has = s.has; fits = Fits-trans (tree s.item) (tree (given_as o g.item)) (tree x) s.fits g.fits }

  argument_given : (k : ℕ) (m : Made A ℕ) (n : Name) (x : Stated) → slice_get c.made k ≡ Some m → value_at (imports_of m.world) n ≡ Some x → Gives outs (IsMade c) (argument_source tag_of c m n) (tree x)
  argument_given k m n x e v =
      subst (λ o. Gives outs (IsMade c) (if is_some o then source_for tag_of c (value_at m.arguments n) n else Absent) (tree x)) (sym v)
      (given_for k m n x e v (value_at m.arguments n) refl)

  argument_only : (m : Made A ℕ) (n : Name) → value_at (imports_of m.world) n ≡ None → argument_source tag_of c m n ≡ Absent
  argument_only m n v = ap (λ o. if is_some o then source_for tag_of c (value_at m.arguments n) n else Absent) v

  bound_all : (m : Made A ℕ) (k : ℕ) → slice_get c.made k ≡ Some m → Provides outs (IsMade c) (argument_source tag_of c m) (fields_of (imports_of m.world))
  bound_all m k e = record {
    each = λ n t h.
        let v = field_has (imports_of m.world) n t h in
        subst (Gives outs (IsMade c) (argument_source tag_of c m n)) v.2 (argument_given k m n v.0 e v.1);
    only = λ n h. argument_only m n (has_none (imports_of m.world) n h);
  }

  instance_at : (k : ℕ) (x : Instantiation ℕ) (o : Option (Made A ℕ)) → option_map (instantiation tag_of c) o ≡ Some x → (m : Made A ℕ) × (o ≡ Some m) × (instantiation tag_of c m ≡ x)
  instance_at k x None e = absurd (none-some _ e)
  instance_at k x (Some m) e = (m, refl, same_Some _ _ e)

  bound : (k : ℕ) (x : Instantiation ℕ) → (composed_wiring tag_of c).at k ≡ Some x → IsBoundInstance (IsMade c) (composed_wiring tag_of c) k x
  bound k x e =
      let m = instance_at k x (slice_get c.made k) e in
      subst (IsBoundInstance (IsMade c) (composed_wiring tag_of c) k) m.2
      (record { world = maps_of m.0.world; is = record { made = m.0; there = m.1; says = refl }; bound = bound_all m.0 k m.1 })

  -- ---- order

  abbrev There : ℕ → Type 0
  There j = IsSome (option_map (instantiation tag_of c) (slice_get c.made j))

  got_there : (j : ℕ) (m : Made A ℕ) → slice_get c.made j ≡ Some m → There j
  got_there j m e = ap (λ o. is_some (option_map (instantiation tag_of c) o)) e

  uses_there : (o : Origin ℕ) (x : Stated) → HasType c o x → Uses There (source_of asks o)
  uses_there o x (of_import i m) = tt
  uses_there o x (of_instance k m e) = got_there k m e
  uses_there o x (of_export p y n z h i e) = Uses-project There (source_of asks p) n (uses_there p y h)
  uses_there o x (of_definition n y k d) = tt

  uses_before : (k : ℕ) (o : Origin ℕ) (x : Stated) → HasType c o x → IsBefore k o → Uses (λ j. (j < k) × There j) (source_of asks o)
  uses_before k o x (of_import i m) b = tt
  uses_before k o x (of_instance j m e) b = (b, got_there j m e)
  uses_before k o x (of_export p y n z h i e) b = Uses-project (λ j. (j < k) × There j) (source_of asks p) n (uses_before k p y h b)
  uses_before k o x (of_definition n y t d) b = tt

  argument_before : (k : ℕ) (m : Made A ℕ) (n : Name) → slice_get c.made k ≡ Some m → (v : Option Stated) → value_at (imports_of m.world) n ≡ v → (o : Option (Origin ℕ)) → value_at m.arguments n ≡ o
      → Uses (λ j. (j < k) × There j) (if is_some v then source_for tag_of c o n else Absent)
  argument_before k m n e None q o a = tt
  argument_before k m n e (Some x) q None a = tt
  argument_before k m n e (Some x) q (Some o) a = let g = sound.given k m n o x e a q in uses_before k o g.item g.has g.before

  ordered_args : (k : ℕ) (x : Instantiation ℕ) → (composed_wiring tag_of c).at k ≡ Some x → (n : Name) → Uses (λ j. (j < k) × There j) (x.args n)
  ordered_args k x e n =
      let m = instance_at k x (slice_get c.made k) e in
      subst (λ (y : Instantiation ℕ). Uses (λ j. (j < k) × There j) (y.args n)) m.2 (argument_before k m.0 n m.1 (value_at (imports_of m.0.world) n) refl (value_at m.0.arguments n) refl)

  abbrev origins : List (Name × Origin ℕ)
  origins = map (λ (e : Name × Origin ℕ × Stated). (e.0, e.1)) c.exports

  export_there : (n : Name) (o : Option (Export_of ℕ)) → value_at (paired c.exports) n ≡ o → Uses There (export_source tag_of c (option_map (λ e. e.0) o))
  export_there n None q = tt
  export_there n (Some e) q = uses_there e.0 e.1 (sound.exported n e.0 e.1 (paired_among c.exports n e q))

  origin_at : (n : Name) → value_at origins n ≡ option_map (λ e. e.0) (value_at (paired c.exports) n)
  origin_at n = ap (λ l. value_at l n) (paired_origins c.exports) ∙ value_mapped (λ (e : Export_of ℕ). e.0) (paired c.exports) n

  ordered_exports : (n : Name) → Uses There ((composed_wiring tag_of c).exports n)
  ordered_exports n = subst (λ o. Uses There (export_source tag_of c o)) (sym (origin_at n)) (export_there n (value_at (paired c.exports) n) refl)

  -- ---- the world

  abbrev outers : List (Name × Stated)
  outers = outer_imports asks

  abbrev exports : List (Name × Stated)
  exports = world_exports asks c.exports

  maps_same : Tree.component (fields_of (imports_of (composed_world c))) (fields_of (exports_of (composed_world c))) ≡ Tree.component (fields_of outers) (fields_of exports)
  maps_same =
      let p = parts_at (world None [] (names outers) (names exports)) (folded_row (formed_at bare_world) (row (filled outers ++ filled exports))) in
      sym (made_maps p.identifier (found_in p.imports) (found_in p.exports)) ∙ without_same (used_world c) ∙ made_world None outers exports

  are_outers : AreOuters outs (fields_of outers)
  are_outers = record {
    each = λ n t h. let v = field_has outers n t h in ap (option_map tree) v.1 ∙ ap Some v.2;
    only = λ n t e. let v = mapped-some tree (value_at outers n) t e in subst (λ u. HasField n u (fields_of outers)) v.2 (has_field outers n v.0 v.1);
  }

  export_at : (n : Name) → value_at exports n ≡ option_map (exported_type asks) (value_at (paired c.exports) n)
  export_at n = ap (λ l. value_at l n) (paired_exports asks c.exports) ∙ value_mapped (λ (e : Export_of ℕ). exported_type asks e) (paired c.exports) n

  export_has : (n : Name) (x : Stated) (o : Option (Export_of ℕ)) → value_at (paired c.exports) n ≡ o → option_map (exported_type asks) o ≡ Some x
      → HasTree outs (IsMade c) (export_source tag_of c (option_map (λ e. e.0) o)) (tree x)
  export_has n x None q e = absurd (none-some _ e)
  export_has n x (Some p) q e =
      let s = stands p.0 p.1 (sound.exported n p.0 p.1 (paired_among c.exports n p q)) in
      subst (λ y. HasTree outs (IsMade c) (source_of asks p.0) (tree y)) (sym s.final ∙ same_Some _ _ e) s.has

  export_none : (n : Name) (o : Option (Export_of ℕ)) → option_map (exported_type asks) o ≡ None → export_source tag_of c (option_map (λ e. e.0) o) ≡ Absent
  export_none n None e = refl
  export_none n (Some p) e = absurd (none-some _ (sym e))

  are_exports : States outs (IsMade c) (composed_wiring tag_of c).exports (fields_of exports)
  are_exports = record {
    each = λ n t h.
        let v = field_has exports n t h in
        subst (HasTree outs (IsMade c) (export_source tag_of c (value_at origins n))) v.2
        (subst (λ o. HasTree outs (IsMade c) (export_source tag_of c o) (tree v.0)) (sym (origin_at n)) (export_has n v.0 (value_at (paired c.exports) n) refl (sym (export_at n) ∙ v.1)));
    only = λ n h. ap (export_source tag_of c) (origin_at n) ∙ export_none n (value_at (paired c.exports) n) (sym (export_at n) ∙ has_none exports n h);
  }

  pub wired : IsWired tag_of c
  wired = record {
    ordered = record { args = ordered_args; exports = ordered_exports };
    bound = bound;
    true_world = record {
      imports = subst (AreOuters outs) (sym (same_maps maps_same).0) are_outers;
      exports = subst (States outs (IsMade c) (composed_wiring tag_of c).exports) (sym (same_maps maps_same).1) are_exports;
    };
  }
