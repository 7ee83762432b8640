-- Items in a scope of written types, one after another.
use Rattle.std.proofs.Common.{◌≡◌, ℕ, zero, suc, ◌+◌, List, [], ◌∷◌, ◌++◌, length, Option, Some, refl, sym, ap, ◌∙◌, subst, arith, slice_get, string_bytes}
use Rattle.std.specs.Prelude.{String, IfOk, Result}
use Rattle.std.specs.Global.{Global}
use Rattle.std.proofs.lemmas.List.{length_push}
use Rattle.std.proofs.lemmas.Result.{IfOk-weaker}
use Rattle.wac_types_base.specs.Record.{Collection}
use Rattle.wac_types_base.specs.Entries.{Name}
use Rattle.wac_types_base.specs.Tree.{Tree}
use Rattle.wac_types_base.specs.declared.item.ItemKind.{ItemKind}
use Rattle.wac_types_fit.specs.Trees.{tree_in}
use Rattle.wac_graph_bytes.specs.declared.value.Sort.{Sort}
use Rattle.wac_graph_bytes.specs.declared.value.Sort.TheVariants as sort
use Rattle.wac_graph_bytes.specs.declared.value.Description.{Description}
use Rattle.wac_graph_bytes.specs.declared.value.Description.TheVariants as desc
use Rattle.wac_graph_bytes.specs.declared.entry.Alias.TheVariants as alias
use Rattle.wac_graph_bytes.specs.declared.entry.Declaration.{Declaration, Alias}
use Rattle.wac_graph_bytes.specs.Counting.{description_sort}
use Rattle.wac_graph_bytes.specs.Entries.{End}
use Rattle.wac_graph_bytes.specs.Typing.{◌>>=◌, Worlds, Meaning, Part, Scope, with_one, with_core, Inside, adds_inside, declared, found_at, found, part_of, item_tree, type_tree, item_of, type_in, export_named}
use Rattle.wac_graph_bytes.specs.Views.{before}
use Rattle.wac_graph_bytes.proofs.Steps.{bind_some, core_kept, get_kept, get_last}
use Rattle.wac_graph_scopes.specs.declared.scope.KnownTypes.{KnownTypes}
use Rattle.wac_graph_scopes.specs.declared.scope.TypeScope.{TypeScope}
use Rattle.wac_graph_scopes.specs.declared.items.ItemScope.{ItemScope}
use Rattle.wac_graph_scopes.specs.Scopes.{Extends, AreKnown, IsScope, Exchanges, Goes}
use Rattle.wac_graph_scopes.specs.Used.{Used, used_at}
use Rattle.wac_graph_scopes.specs.Items.{IsItemScope, ItemsGo, ExportsItem, ExportsIndex, IsTypeItem, AreUsed, AreAround, HasType, adds_core, HasCore, count_of, with_count, HasItem, GivesItem, GivesMeaning, IsInstanceAt}
use Rattle.wac_graph_scopes.proofs.ScopeLaws.{Extends-refl, Extends-trans, Extends-one, type_added, scope_at}

-- ---- what stands on

pub Extends-core : (t : Tree) (h : Scope) → Extends h (with_core t h)
Extends-core t h = record {
  indexes = λ s k m e. ap (λ (xs : List Meaning). slice_get xs k) (core_kept s t h) ∙ e;
  cores = λ k u e. get_kept h.cores t u k e;
}

pub found_on : (g h : Scope) (outer : List Scope) (depth k : ℕ) (m : Meaning) → Extends g h → found_at (g ∷ outer) depth sort.Ty k ≡ Some m → found_at (h ∷ outer) depth sort.Ty k ≡ Some m
found_on g h outer zero k m x e = x.indexes sort.Ty k m e
found_on g h outer (suc depth) k m x e = e

pub item_on : (w : Worlds) (g h : Scope) (outer : List Scope) (depth : ℕ) (t : Tree) (k : ℕ) → Extends g h → IsTypeItem w (g ∷ outer) depth t k → IsTypeItem w (h ∷ outer) depth t k
item_on w g h outer depth t k x a =
    let b = bind_some (found_at (g ∷ outer) depth sort.Ty k) (type_tree w) a.there a.reads in
    record { there = a.there; item = a.item; reads = ap (λ (o : Option Meaning). o >>= type_tree w) (found_on g h outer depth k b.0 x b.1) ∙ b.2 }

pub used_on : (w : Worlds) (c : Collection) (g h : Scope) (outer : List Scope) (depth : ℕ) (us : Used) → Extends g h → AreUsed w c (g ∷ outer) depth us → AreUsed w c (h ∷ outer) depth us
used_on w c g h outer depth us x a j n u m = let b = a j n u m in record { stands = b.stands; kind = b.kind; index = item_on w g h outer depth _ u.index x b.index }

-- one scope deeper
pub used_deeper : (w : Worlds) (c : Collection) (ss : List Scope) (depth next : ℕ) (us vs : Used) → next ≡ depth + 1 → vs ≡ us → AreUsed w c ss depth us → AreAround w c ss next vs
used_deeper w c ss depth next us vs e f a here j n u m =
    let b = a j n u (subst (λ (l : Used). used_at l j n ≡ Some u) f m) in
    let i = b.index in
    let deep : next ≡ suc depth = omega (arith, e) in
    record { stands = b.stands; kind = b.kind; index = subst (λ (n : ℕ). IsTypeItem w (here ∷ ss) n (tree_in c u.item) u.index) (sym deep) (record { there = i.there; item = i.item; reads = i.reads }) }

-- a scope of another collection, of which those types are known
pub item_exchanged : (w : Worlds) (c d : Collection) (outer : List Scope) (i : Inside) (s : ItemScope) (t : TypeScope) (ks ls : KnownTypes) → Exchanges s.types ks t ls → IsItemScope w c outer i s → AreKnown w (i.here ∷ outer) d ks
    → IsItemScope w d outer i (record s { types = t }) × AreKnown w (i.here ∷ outer) c ls
item_exchanged w c d outer i s t ks ls x h a =
    let b = x w c d outer i h.written a in
    (record { written = b.0; cores = h.cores; funcs = h.funcs; components = h.components; instances = h.instances; modules = h.modules }, b.1)

-- ---- going on

module _ (w : Worlds) (c : Collection) (outer : List Scope) where
  pub ItemsGo-refl : (i : Inside) (s : ItemScope) → IsItemScope w c outer i s → ItemsGo w c outer i i s
  ItemsGo-refl i s h = record { stands = h; extends = Extends-refl i.here; imports = refl; exports = refl }

  pub ItemsGo-trans : (i j k : Inside) (s u : ItemScope) → ItemsGo w c outer i j s → ItemsGo w c outer j k u → ItemsGo w c outer i k u
  ItemsGo-trans i j k s u a b = record {
    stands = b.stands;
    extends = Extends-trans i.here j.here k.here a.extends b.extends;
    imports = b.imports ∙ a.imports;
    exports = b.exports ∙ a.exports;
  }

  -- the export that follows
  pub export_follows : (i j : Inside) (n : Name) (t : Tree) (s u : ItemScope) → ItemsGo w c outer i j s → ExportsItem w c outer j n t u → ExportsItem w c outer i n t u
  export_follows i j n t s u a b = record {
    after = b.after;
    stands = b.stands;
    extends = Extends-trans i.here j.here b.after.here a.extends b.extends;
    imports = b.imports ∙ a.imports;
    exports = b.exports ∙ ap (λ (l : List (Name × Tree)). l ++ (n, t) ∷ []) a.exports;
  }

  pub index_follows : (i j : Inside) (n : Name) (kind : ItemKind) (s u : ItemScope) (k : ℕ) → ItemsGo w c outer i j s → ExportsIndex w c outer j n kind u k → ExportsIndex w c outer i n kind u k
  unfolding export_follows
  index_follows i j n kind s u k a b = record { exported = export_follows i j n (tree_in c kind) s u a b.exported; means = b.means }

  -- types alone are written
  pub types_go : (i j : Inside) (s : ItemScope) (t : TypeScope) → IsItemScope w c outer i s → Goes w c outer i j t → ItemsGo w c outer i j (record s { types = t })
  types_go i j s t h g = record {
    stands = record {
      written = g.stands;
      cores = h.cores ∙ sym (ap (λ (l : List Tree). length l) g.others.cores);
      funcs = h.funcs ∙ sym (ap (λ (l : List Meaning). length l) g.others.funcs);
      components = h.components ∙ sym (ap (λ (l : List Meaning). length l) g.others.components);
      instances = h.instances ∙ sym (ap (λ (l : List Meaning). length l) g.others.instances);
      modules = h.modules ∙ sym (ap (λ (l : List Meaning). length l) g.others.modules);
    };
    extends = g.extends;
    imports = g.imports;
    exports = g.exports;
  }

  -- what is remembered changes
  pub noted : (i : Inside) (s : ItemScope) (t : TypeScope) → IsItemScope w c outer i s → IsScope w c outer i t → IsItemScope w c outer i (record s { types = t })
  noted i s t h g = record { written = g; cores = h.cores; funcs = h.funcs; components = h.components; instances = h.instances; modules = h.modules }

  -- ---- one more declaration

  pub has_type : (i : Inside) (m : Meaning) (s : ItemScope) (t : TypeScope) (d : Declaration) → IsItemScope w c outer i s → declared w outer i (before d End) ≡ Some (adds_inside sort.Ty m i)
      → t.declarations.items ≡ s.types.declarations.items ++ d ∷ [] → t.types ≡ s.types.types + 1 → t.known ≡ s.types.known → t.resources ≡ s.types.resources
      → HasType w c outer i m (record s { types = t }) s.types.types
  has_type i m s t d h e ds ts ks rs = record { goes = types_go i (adds_inside sort.Ty m i) s t h (type_added w c outer i m s.types t d h.written e ds ts ks rs); index = h.written.types }

  pub has_core : (i : Inside) (x : Tree) (s : ItemScope) (t : TypeScope) (d : Declaration) (n : ℕ) → IsItemScope w c outer i s → declared w outer i (before d End) ≡ Some (adds_core x i)
      → t.declarations.items ≡ s.types.declarations.items ++ d ∷ [] → t.types ≡ s.types.types → t.known ≡ s.types.known → t.resources ≡ s.types.resources → n ≡ s.cores + 1
      → HasCore w c outer i x (record s { types = t; cores = n }) s.cores
  has_core i x s t d n h e ds ts ks rs ns = record {
    goes = record {
      stands = record {
        written = scope_at w c outer i (adds_core x i) s.types t d h.written e (Extends-core x i.here) ds (ts ∙ h.written.types) ks rs;
        cores = omega (arith, ns, h.cores, length_push i.here.cores x);
        funcs = h.funcs;
        components = h.components;
        instances = h.instances;
        modules = h.modules;
      };
      extends = Extends-core x i.here;
      imports = refl;
      exports = refl;
    };
    index = h.cores;
  }

  module _ (i j : Inside) (m : Meaning) (s : ItemScope) (t : TypeScope) (e : Declaration) (n : ℕ) (h : IsItemScope w c outer i s) (reads : declared w outer i (before e End) ≡ Some j)
      (ds : t.declarations.items ≡ s.types.declarations.items ++ e ∷ []) (ts : t.types ≡ s.types.types) (ks : t.known ≡ s.types.known) (rs : t.resources ≡ s.types.resources) where
    extended : (d : Sort) → j.here ≡ with_one d m i.here → Extends i.here j.here
    extended d here = subst (λ (x : Scope). Extends i.here x) (sym here) (Extends-one d m i.here)

    pub has_item : (d : Description) → j.here ≡ with_one (description_sort d) m i.here → n ≡ count_of d s + 1 → HasItem w c outer i j d (with_count d n (record s { types = t })) (count_of d s)
    has_item (desc.Module k) here ns = record {
      stands = record {
        written = scope_at w c outer i j s.types t e h.written reads (extended sort.Module here) ds (ts ∙ h.written.types ∙ sym (ap (λ (x : Scope). length x.types) here)) ks rs;
        cores = h.cores ∙ sym (ap (λ (x : Scope). length x.cores) here);
        funcs = h.funcs ∙ sym (ap (λ (x : Scope). length x.funcs) here);
        components = h.components ∙ sym (ap (λ (x : Scope). length x.components) here);
        instances = h.instances ∙ sym (ap (λ (x : Scope). length x.instances) here);
        modules = omega (arith, ns, h.modules, length_push i.here.modules m, ap (λ (x : Scope). length x.modules) here);
      };
      index = h.modules;
    }
    has_item (desc.Func k) here ns = record {
      stands = record {
        written = scope_at w c outer i j s.types t e h.written reads (extended sort.Func here) ds (ts ∙ h.written.types ∙ sym (ap (λ (x : Scope). length x.types) here)) ks rs;
        cores = h.cores ∙ sym (ap (λ (x : Scope). length x.cores) here);
        funcs = omega (arith, ns, h.funcs, length_push i.here.funcs m, ap (λ (x : Scope). length x.funcs) here);
        components = h.components ∙ sym (ap (λ (x : Scope). length x.components) here);
        instances = h.instances ∙ sym (ap (λ (x : Scope). length x.instances) here);
        modules = h.modules ∙ sym (ap (λ (x : Scope). length x.modules) here);
      };
      index = h.funcs;
    }
    has_item (desc.Equal k) here ns = record {
      stands = record {
        written = scope_at w c outer i j s.types (record t { types = n }) e h.written reads (extended sort.Ty here) ds (omega (arith, ns, h.written.types, length_push i.here.types m, ap (λ (x : Scope). length x.types) here)) ks rs;
        cores = h.cores ∙ sym (ap (λ (x : Scope). length x.cores) here);
        funcs = h.funcs ∙ sym (ap (λ (x : Scope). length x.funcs) here);
        components = h.components ∙ sym (ap (λ (x : Scope). length x.components) here);
        instances = h.instances ∙ sym (ap (λ (x : Scope). length x.instances) here);
        modules = h.modules ∙ sym (ap (λ (x : Scope). length x.modules) here);
      };
      index = h.written.types;
    }
    has_item desc.Resource here ns = record {
      stands = record {
        written = scope_at w c outer i j s.types (record t { types = n }) e h.written reads (extended sort.Ty here) ds (omega (arith, ns, h.written.types, length_push i.here.types m, ap (λ (x : Scope). length x.types) here)) ks rs;
        cores = h.cores ∙ sym (ap (λ (x : Scope). length x.cores) here);
        funcs = h.funcs ∙ sym (ap (λ (x : Scope). length x.funcs) here);
        components = h.components ∙ sym (ap (λ (x : Scope). length x.components) here);
        instances = h.instances ∙ sym (ap (λ (x : Scope). length x.instances) here);
        modules = h.modules ∙ sym (ap (λ (x : Scope). length x.modules) here);
      };
      index = h.written.types;
    }
    has_item (desc.Component k) here ns = record {
      stands = record {
        written = scope_at w c outer i j s.types t e h.written reads (extended sort.Component here) ds (ts ∙ h.written.types ∙ sym (ap (λ (x : Scope). length x.types) here)) ks rs;
        cores = h.cores ∙ sym (ap (λ (x : Scope). length x.cores) here);
        funcs = h.funcs ∙ sym (ap (λ (x : Scope). length x.funcs) here);
        components = omega (arith, ns, h.components, length_push i.here.components m, ap (λ (x : Scope). length x.components) here);
        instances = h.instances ∙ sym (ap (λ (x : Scope). length x.instances) here);
        modules = h.modules ∙ sym (ap (λ (x : Scope). length x.modules) here);
      };
      index = h.components;
    }
    has_item (desc.Instance k) here ns = record {
      stands = record {
        written = scope_at w c outer i j s.types t e h.written reads (extended sort.Instance here) ds (ts ∙ h.written.types ∙ sym (ap (λ (x : Scope). length x.types) here)) ks rs;
        cores = h.cores ∙ sym (ap (λ (x : Scope). length x.cores) here);
        funcs = h.funcs ∙ sym (ap (λ (x : Scope). length x.funcs) here);
        components = h.components ∙ sym (ap (λ (x : Scope). length x.components) here);
        instances = omega (arith, ns, h.instances, length_push i.here.instances m, ap (λ (x : Scope). length x.instances) here);
        modules = h.modules ∙ sym (ap (λ (x : Scope). length x.modules) here);
      };
      index = h.instances;
    }

  pub count_same : (d : Description) (s : ItemScope) (t : TypeScope) → t.types ≡ s.types.types → count_of d (record s { types = t }) ≡ count_of d s
  count_same (desc.Module k) s t e = refl
  count_same (desc.Func k) s t e = refl
  count_same (desc.Equal k) s t e = e
  count_same desc.Resource s t e = e
  count_same (desc.Component k) s t e = refl
  count_same (desc.Instance k) s t e = refl

  pub item_counted : (i j : Inside) (m : Meaning) (s u : ItemScope) (t : TypeScope) (e : Declaration) (d : Description) (n k : ℕ) → IsItemScope w c outer i s → declared w outer i (before e End) ≡ Some j
      → t.declarations.items ≡ s.types.declarations.items ++ e ∷ [] → t.types ≡ s.types.types → t.known ≡ s.types.known → t.resources ≡ s.types.resources
      → j.here ≡ with_one (description_sort d) m i.here → k ≡ count_of d (record s { types = t }) → n ≡ k + 1 → u ≡ with_count d n (record s { types = t }) → HasItem w c outer i j d u k
  item_counted i j m s u t e d n k h reads ds ts ks rs here ke ne ue =
      let same : k ≡ count_of d s = ke ∙ count_same d s t ts in
      let more : n ≡ count_of d s + 1 = ne ∙ ap (λ (x : ℕ). x + 1) same in
      let a = has_item i j m s t e n h reads ds ts ks rs d here more in
      record { stands = subst (λ (x : ItemScope). IsItemScope w c outer j x) (sym ue) a.stands; index = same ∙ a.index }

  -- ---- aliases

  pub outer_reads : (i : Inside) (depth k : ℕ) (m : Meaning) → found_at (i.here ∷ outer) depth sort.Ty k ≡ Some m → declared w outer i (before (Alias (alias.Outer sort.Ty depth k)) End) ≡ Some (adds_inside sort.Ty m i)
  unfolding declared
  outer_reads i depth k m e = ap (λ (o : Option Meaning). o >>= λ m. Some (adds_inside sort.Ty m i)) e

  last_meaning : (i : Inside) (m : Meaning) (k : ℕ) (t x : Tree) → k ≡ length i.here.types → type_tree w m ≡ Some x → item_of x ≡ t → IsTypeItem w (with_one sort.Ty m i.here ∷ outer) 0 t k
  last_meaning i m k t x e f g = record { there = x; item = g; reads = ap (λ (o : Option Meaning). o >>= type_tree w) (get_last i.here.types m k e) ∙ f }

  pub outer_aliased : {E : Type 0} (i : Inside) (depth k : ℕ) (t : Tree) (u : ItemScope) (r : Result ℕ E) → IsTypeItem w (i.here ∷ outer) depth t k
      → ((m : Meaning) → declared w outer i (before (Alias (alias.Outer sort.Ty depth k)) End) ≡ Some (adds_inside sort.Ty m i) → IfOk r (HasType w c outer i m u)) → IfOk r (GivesItem w c outer i t u)
  outer_aliased i depth k t u r a adds =
      let b = bind_some (found_at (i.here ∷ outer) depth sort.Ty k) (type_tree w) a.there a.reads in
      IfOk-weaker r _ _ (λ own h. record { after = adds_inside sort.Ty b.0 i; goes = h.goes; index = last_meaning i b.0 own t a.there h.index b.2 a.item }) (adds b.0 (outer_reads i depth k b.0 b.1))

  pub repeated : {E : Type 0} (i : Inside) (k : ℕ) (m : Meaning) (u : ItemScope) (r : Result ℕ E) → slice_get i.here.types k ≡ Some m
      → IfOk r (HasType w c outer i m u) → IfOk r (GivesMeaning w c outer i m u)
  repeated i k m u r at adds = IfOk-weaker r _ _ (λ own h. record { after = adds_inside sort.Ty m i; goes = h.goes; index = get_last i.here.types m own h.index }) adds

  export_reads : (i : Inside) (k : ℕ) (n : String Global) (m : Meaning) (t u x : Tree) → found (i.here ∷ outer) sort.Instance k ≡ Some m → item_tree w m ≡ Some t → export_named (string_bytes n) t ≡ Some u → type_in u ≡ Some x
      → declared w outer i (before (Alias (alias.Export sort.Ty k n)) End) ≡ Some (adds_inside sort.Ty (Part m sort.Ty (string_bytes n)) i)
  unfolding declared
  export_reads i k n m t u x e f g h =
      ap (λ (o : Option Meaning). (o >>= λ m. part_of (item_tree w m) m sort.Ty (string_bytes n)) >>= λ m. Some (adds_inside sort.Ty m i)) e
      ∙ ap (λ (o : Option Tree). part_of o m sort.Ty (string_bytes n) >>= λ m. Some (adds_inside sort.Ty m i)) f
      ∙ ap (λ (o : Option Tree). (o >>= type_in >>= λ _. Some (Part m sort.Ty (string_bytes n))) >>= λ m. Some (adds_inside sort.Ty m i)) g
      ∙ ap (λ (o : Option Tree). (o >>= λ _. Some (Part m sort.Ty (string_bytes n))) >>= λ m. Some (adds_inside sort.Ty m i)) h

  pub export_aliased : {E : Type 0} (i : Inside) (k : ℕ) (n : String Global) (t u x : Tree) (v : ItemScope) (r : Result ℕ E) → IsInstanceAt w (i.here ∷ outer) t k → export_named (string_bytes n) t ≡ Some u → type_in u ≡ Some x → item_of x ≡ u
      → ((m : Meaning) → declared w outer i (before (Alias (alias.Export sort.Ty k n)) End) ≡ Some (adds_inside sort.Ty m i) → IfOk r (HasType w c outer i m v)) → IfOk r (GivesItem w c outer i u v)
  export_aliased i k n t u x v r a named is of adds =
      let m = Part a.0 sort.Ty (string_bytes n) in
      let reads : type_tree w m ≡ Some x =
      ap (λ (o : Option Tree). o >>= export_named (string_bytes n) >>= type_in) a.2 ∙ ap (λ (o : Option Tree). o >>= type_in) named ∙ is in
      IfOk-weaker r _ _ (λ own h. record { after = adds_inside sort.Ty m i; goes = h.goes; index = last_meaning i m own u x h.index reads of }) (adds m (export_reads i k n a.0 t u x a.1 a.2 named is))
