-- A declaration adds at most one thing of a sort: so no more of a sort stand than there are declarations, and their count has
-- a next one.
use Rattle.std.proofs.Common.{◌≡◌, ℕ, ◌+◌, ◌-◌, ◌^◌, ◌≤◌, List, [], ◌∷◌, ◌++◌, length, Option, Some, sym, ap, ◌∙◌, subst, arith, string_bytes, Vec, Global}
use Rattle.std.specs.Prelude.{min}
use Rattle.std.proofs.lemmas.List.{length_push}
use Rattle.wac_types_base.specs.Record.{Collection}
use Rattle.wac_types_base.specs.Tree.{Tree}
use Rattle.wac_graph_bytes.specs.declared.value.Sort.{Sort}
use Rattle.wac_graph_bytes.specs.declared.value.Sort.TheVariants as sort
use Rattle.wac_graph_bytes.specs.declared.value.Description.{Description}
use Rattle.wac_graph_bytes.specs.declared.value.Description.TheVariants as desc
use Rattle.wac_graph_bytes.specs.declared.entry.Declaration.{Declaration, Module, Defined, ComponentType', InstanceType', Alias, Import, Export}
use Rattle.wac_graph_bytes.specs.Entries.{End}
use Rattle.wac_graph_bytes.specs.Typing.{◌>>=◌, Worlds, Meaning, Item, Known, Scope, space, with_one, with_core, Inside, nothing_inside, defined, described, alias_of, alias_sort, module_tree, instance_tree, component_tree, adds_inside, imports_inside, exports_inside, declared}
use Rattle.wac_graph_bytes.specs.Views.{defined_view, alias_view, module_view, before, row_view, declarations_of}
use Rattle.wac_graph_bytes.proofs.Steps.{bind_some, some_is, core_kept, cores_kept}
use Rattle.wac_graph_bytes.proofs.Extending.{first_then}
use Rattle.wac_graph_scopes.specs.declared.scope.TypeScope.{TypeScope}
use Rattle.wac_graph_scopes.specs.declared.items.ItemScope.{ItemScope}
use Rattle.wac_graph_scopes.specs.Scopes.{IsScope}
use Rattle.wac_graph_scopes.specs.Items.{IsItemScope, count_of}

-- of no sort stand more than that
record Within (n : ℕ) (h : Scope) : Type 0 where
  spaces : (s : Sort) → length (space s h) ≤ n
  cores : length h.cores ≤ n

same_within : (n k : ℕ) (h : Scope) → n ≡ k → Within n h → Within k h
same_within n k h e a = subst (λ (m : ℕ). Within m h) e a

one_at_most : (s t : Sort) (m : Meaning) (h : Scope) → length (space s (with_one t m h)) ≤ length (space s h) + 1
one_at_most sort.Func sort.Func m h = omega (arith, length_push h.funcs m)
one_at_most sort.Ty sort.Ty m h = omega (arith, length_push h.types m)
one_at_most sort.Component sort.Component m h = omega (arith, length_push h.components m)
one_at_most sort.Instance sort.Instance m h = omega (arith, length_push h.instances m)
one_at_most sort.Module sort.Module m h = omega (arith, length_push h.modules m)
one_at_most _ _ m h = omega arith

one_within : (n : ℕ) (t : Sort) (m : Meaning) (h j : Scope) → with_one t m h ≡ j → Within n h → Within (n + 1) j
one_within n t m h j e a = subst (λ (x : Scope). Within (n + 1) x) e (record {
  spaces = λ s. omega (arith, one_at_most s t m h, a.spaces s);
  cores = omega (arith, ap (λ (l : List Tree). length l) (cores_kept t m h), a.cores);
})

core_within : (n : ℕ) (t : Tree) (h j : Scope) → with_core t h ≡ j → Within n h → Within (n + 1) j
core_within n t h j e a = subst (λ (x : Scope). Within (n + 1) x) e (record {
  spaces = λ s. omega (arith, ap (λ (l : List Meaning). length l) (core_kept s t h), a.spaces s);
  cores = omega (arith, length_push h.cores t, a.cores);
})

-- what a step made
made : {A : Type 0} (o : Option A) (f : A → Inside) (j : Inside) → (o >>= λ x. Some (f x)) ≡ Some j → (x : A) × ((f x).here ≡ j.here)
made o f j e =
    let b = bind_some o (λ x. Some (f x)) j e in
    (b.0, ap (λ (y : Inside). y.here) (some_is (f b.0) j b.2))

module _ (w : Worlds) (outer : List Scope) where
  declared_within : (i j : Inside) (d : Declaration) (n : ℕ) → declared w outer i (before d End) ≡ Some j → Within n i.here → Within (n + 1) j.here
  unfolding declared
  declared_within i j (Module ds) n e a =
      let b = made (module_tree (module_view ds.items)) (λ t. record i { here = with_core t i.here }) j e in
      core_within n b.0 i.here j.here b.1 a
  declared_within i j (Defined t) n e a =
      let b = made (defined w (i.here ∷ outer) (defined_view t)) (λ t. adds_inside sort.Ty (Known t) i) j e in
      one_within n sort.Ty (Known b.0) i.here j.here b.1 a
  declared_within i j (ComponentType' _ row) n e a =
      let b = made (declared w (i.here ∷ outer) nothing_inside (row_view row) >>= component_tree) (λ t. adds_inside sort.Ty (Known t) i) j e in
      one_within n sort.Ty (Known b.0) i.here j.here b.1 a
  declared_within i j (InstanceType' _ row) n e a =
      let b = made (declared w (i.here ∷ outer) nothing_inside (row_view row) >>= instance_tree) (λ t. adds_inside sort.Ty (Known t) i) j e in
      one_within n sort.Ty (Known b.0) i.here j.here b.1 a
  declared_within i j (Alias x) n e a =
      let b = made (alias_of w (i.here ∷ outer) (alias_view x)) (λ m. adds_inside (alias_sort (alias_view x)) m i) j e in
      one_within n (alias_sort (alias_view x)) b.0 i.here j.here b.1 a
  declared_within i j (Import m d) n e a =
      let b = made (described w (i.here ∷ outer) (string_bytes m) d) (λ x. imports_inside (string_bytes m) x i) j e in
      one_within n b.0.0 (Item (string_bytes m) b.0.0 b.0.1) i.here j.here b.1 a
  declared_within i j (Export m d) n e a =
      let b = made (described w (i.here ∷ outer) (string_bytes m) d) (λ x. exports_inside (string_bytes m) x i) j e in
      one_within n b.0.0 (Item (string_bytes m) b.0.0 b.0.1) i.here j.here b.1 a

  all_within : (i j : Inside) (ds : List Declaration) (n : ℕ) → declared w outer i (declarations_of ds) ≡ Some j → Within n i.here → Within (n + length ds) j.here
  unfolding declared
  all_within i j [] n e a = subst (λ (x : Inside). Within (n + 0) x.here) (some_is i j e) (same_within n (n + 0) i.here (omega arith) a)
  all_within i j (d ∷ ds) n e a =
      let b = bind_some (declared w outer i (before d End)) (λ x. declared w outer x (declarations_of ds)) j (sym (first_then w outer i d (declarations_of ds)) ∙ e) in
      same_within (n + 1 + length ds) (n + length (d ∷ ds)) j.here (omega arith) (all_within b.0 j ds (n + 1) b.2 (declared_within i b.0 d n b.1 a))

  -- no more things of a sort stand than there are declarations
  declarations_within : (i : Inside) (ds : List Declaration) → declared w outer nothing_inside (declarations_of ds) ≡ Some i → Within (length ds) i.here
  declarations_within i ds e = same_within (0 + length ds) (length ds) i.here (omega arith) (all_within nothing_inside i ds 0 e (record { spaces = none; cores = omega arith }))
    where
      none : (s : Sort) → length (space s nothing_inside.here) ≤ 0
      none sort.Func = omega arith
      none sort.Ty = omega arith
      none sort.Component = omega arith
      none sort.Instance = omega arith
      none sort.Module = omega arith

-- ---- the next count

-- a count of no more than what a list held has a next one, where the list holds one thing more
pub next_counts : {X : Type 0} (v : Vec X Global) (xs : List X) (x : X) (n k : ℕ) → v.items ≡ xs ++ x ∷ [] → n ≤ length xs → k ≡ min (n + 1) (2 ^ 64 - 1) → k ≡ n + 1
next_counts v xs x n k e a is = omega (arith, ap (λ (l : List _). length l) e, length_push xs x, v.ok.0, v.ok.1, v.small, a, is)

module _ (w : Worlds) (c : Collection) (outer : List Scope) (i : Inside) where
  pub types_next : (s : TypeScope) (v : Vec Declaration Global) (d : Declaration) (k : ℕ) → IsScope w c outer i s → v.items ≡ s.declarations.items ++ d ∷ [] → k ≡ min (s.types + 1) (2 ^ 64 - 1) → k ≡ s.types + 1
  types_next s v d k h e is =
      let a = declarations_within w outer i s.declarations.items h.reads in
      next_counts v s.declarations.items d s.types k e (omega (arith, h.types, a.spaces sort.Ty)) is

  pub cores_next : (s : ItemScope) (v : Vec Declaration Global) (d : Declaration) (k : ℕ) → IsItemScope w c outer i s → v.items ≡ s.types.declarations.items ++ d ∷ [] → k ≡ min (s.cores + 1) (2 ^ 64 - 1) → k ≡ s.cores + 1
  cores_next s v d k h e is =
      let a = declarations_within w outer i s.types.declarations.items h.written.reads in
      next_counts v s.types.declarations.items d s.cores k e (omega (arith, h.cores, a.cores)) is

  count_within : (s : ItemScope) (d : Description) → IsItemScope w c outer i s → Within (length s.types.declarations.items) i.here → count_of d s ≤ length s.types.declarations.items
  count_within s (desc.Module k) h a = omega (arith, h.modules, a.spaces sort.Module)
  count_within s (desc.Func k) h a = omega (arith, h.funcs, a.spaces sort.Func)
  count_within s (desc.Equal k) h a = omega (arith, h.written.types, a.spaces sort.Ty)
  count_within s desc.Resource h a = omega (arith, h.written.types, a.spaces sort.Ty)
  count_within s (desc.Component k) h a = omega (arith, h.components, a.spaces sort.Component)
  count_within s (desc.Instance k) h a = omega (arith, h.instances, a.spaces sort.Instance)

  -- the count was read behind the declaration
  pub items_next : (s : ItemScope) (v : Vec Declaration Global) (e : Declaration) (d : Description) (n k : ℕ) → IsItemScope w c outer i s → v.items ≡ s.types.declarations.items ++ e ∷ [] → n ≡ count_of d s → k ≡ min (n + 1) (2 ^ 64 - 1) → k ≡ n + 1
  items_next s v e d n k h is at next =
      let a = count_within s d h (declarations_within w outer i s.types.declarations.items h.written.reads) in
      next_counts v s.types.declarations.items e n k is (omega (arith, at, a)) next
