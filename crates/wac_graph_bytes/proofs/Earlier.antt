-- In a meaning each instance's sources name earlier instances only, and a nested string is shorter than the one around it.
use Rattle.std.proofs.Common.{◌≡◌, ℕ, zero, suc, ◌+◌, ◌<◌, ◌≤◌, Bool, true, false, cond, List, [], ◌∷◌, ◌++◌, length, map, Option, Some, None, refl, sym, ap, ◌∙◌, subst, arith, inl, inr, length-append}
use Rattle.std.specs.Prelude.{slice_get, ◌⊎◌}
use Rattle.std.specs.Option.{option_map}
use Rattle.std.specs.List.{AllByRecursion, flat_map}
use Rattle.std.proofs.lemmas.List.{length_push}
use Rattle.wac_types_base.specs.Entries.{Name, value_at}
use Rattle.wac_types_base.specs.Tree.{Tree}
use Rattle.wac_graph_bytes.specs.declared.value.Sort.{Sort}
use Rattle.wac_graph_bytes.specs.declared.value.Sort.TheVariants as sort
use Rattle.wac_graph_bytes.specs.Entries.{Entry, Argument, Alias, ExportAlias, OuterAlias, Core, Nested, Instantiate, Aliased, Typed, Imported, Exported, Section, Custom, CoreTypes, NestedComponent, Instances, Aliases, Types, Imports, Exports, section_entries, entries_of}
use Rattle.wac_graph_bytes.specs.Leb.{unsigned}
use Rattle.wac_graph_bytes.proofs.Replace.{Uses-weaker}
use Rattle.wac_graph_bytes.specs.Spelling.{section_bytes, component_bytes, preamble}
use Rattle.wac_graph_bytes.specs.Wirings.{Source, Absent, Outer, Inst, Projection, Bundle, Definition, IsNamed, IsPlain, IsClosed, Uses, Tag, OfBytes, OfDependency, Instantiation, Wiring, IsOrdered}
use Rattle.wac_graph_bytes.specs.Typing.{◌>>=◌, Meaning, Item, Made, Part, Known, Code, Scope, space, with_one, with_core, found, found_at, Worlds, item_of, item_tree, part_of, export_named, item_of_sort, described, module_tree, type_of, alias_sort, alias_of, same_name}
use Rattle.wac_graph_bytes.specs.Meaning.{source_of, tag_of, arguments_of, Listed, makes, adds, imports_one, exports_one, states, State, start, step, steps, source_at, instantiation, Means}
use Rattle.wac_names.proofs.Parts.{some_of}
use Rattle.wac_names.proofs.NameForms.{all_weaker}
use Rattle.wac_graph_bytes.proofs.Steps.{bind_some, some_is, states_keeps, core_kept}
use Rattle.wac_types_base.proofs.Walking.{some_place}
use Rattle.wac_types_base.proofs.GraphLemmas.{is_there}

-- ---- what is kept: numbers below n, nested strings shorter than l

abbrev Below : (n l : ℕ) → Meaning → Type 0
Below n l (Item m s t) = Unit {0}
Below n l (Made k tag) = k < n
Below n l (Part m s x) = Below n l m
Below n l (Known t) = Unit {0}
Below n l (Code bytes) = length bytes < l

abbrev TagShort : ℕ → Tag → Type 0
TagShort l (OfBytes bytes) = length bytes < l
TagShort l (OfDependency n) = Unit {0}

-- a source that is there and names instances below n
abbrev Under : ℕ → Source ℕ → Type 0
Under n s = Uses (λ j. j < n) s × IsNamed s

abbrev AllUnder : ℕ → List (Name × Source ℕ) → Type 0
AllUnder n xs = AllByRecursion (λ a. Under n a.1) xs

below_more : (n k l : ℕ) (m : Meaning) → n ≤ k → Below n l m → Below k l m
below_more n k l (Item x s t) le b = tt
below_more n k l (Made j tag) le b = omega (arith, le, b)
below_more n k l (Part m s x) le b = below_more n k l m le b
below_more n k l (Known t) le b = tt
below_more n k l (Code bytes) le b = b

uses_more : (n k : ℕ) (s : Source ℕ) → n ≤ k → Under n s → Under k s
uses_more n k Absent le u = u
uses_more n k (Outer x) le u = u
uses_more n k (Inst j) le u = (omega (arith, le, u.0), u.1)
uses_more n k (Projection s x) le u = uses_more n k s le u
uses_more n k (Bundle f) le u = absurd u.1
uses_more n k (Definition t) le u = u

all_more : (n k : ℕ) (xs : List (Name × Source ℕ)) → n ≤ k → AllUnder n xs → AllUnder k xs
all_more n k [] le a = tt
all_more n k (x ∷ xs) le a = (uses_more n k x.1 le a.0, all_more n k xs le a.1)

all_push : {X : Type 0} (P : X → Type 0) (xs : List X) (x : X) → AllByRecursion P xs → P x → AllByRecursion P (xs ++ x ∷ [])
all_push P [] x a h = (h, tt)
all_push P (y ∷ xs) x a h = (a.0, all_push P xs x a.1 h)

-- the source of what is below
source_under : (n l : ℕ) (m : Meaning) (s : Source ℕ) → source_of m ≡ Some s → Below n l m → Under n s
source_under n l (Item x r t) s e b = subst (λ (s : Source ℕ). Under n s) (some_is (Outer x) s e) (tt, tt)
source_under n l (Made k tag) s e b = subst (λ (s : Source ℕ). Under n s) (some_is (Inst k) s e) (b, tt)
source_under n l (Part m r x) s e b =
    let a = bind_some (source_of m) (λ s. Some (Projection s x)) s e in
    subst (λ (s : Source ℕ). Under n s) (some_is (Projection a.0 x) s a.2) (source_under n l m a.0 a.1 b)
source_under n l (Known t) s e b = subst (λ (s : Source ℕ). Under n s) (some_is (Definition (item_of t)) s e) (tt, tt)
source_under n l (Code bytes) s e b = absurd (none_is s e)
  where
    none_is : {A : Type 0} (s : A) → None ≡ Some s → ⊥
    none_is s e = cc

tag_short : (n l : ℕ) (m : Meaning) (t : Tag) → tag_of m ≡ Some t → Below n l m → TagShort l t
tag_short n l (Item x r u) t e b = subst (λ (t : Tag). TagShort l t) (some_is (OfDependency x) t e) tt
tag_short n l (Code bytes) t e b = subst (λ (t : Tag). TagShort l t) (some_is (OfBytes bytes) t e) b
tag_short n l _ t e b = absurd (none_is t e)
  where
    none_is : {A : Type 0} (s : A) → None ≡ Some s → ⊥
    none_is s e = cc

-- what stands behind one more
get_push : {X : Type 0} (xs : List X) (y x : X) (i : ℕ) → slice_get (xs ++ y ∷ []) i ≡ Some x → (slice_get xs i ≡ Some x) ⊎ ((x ≡ y) × (i ≡ length xs))
get_push [] y x zero e = inr (sym (some_is' y x e), refl)
  where
    some_is' : {A : Type 0} (x y : A) → some_of x ≡ some_of y → x ≡ y
    some_is' x y e = cc
get_push [] y x (suc i) e = absurd (none_is x e)
  where
    none_is : {A : Type 0} (s : A) → None ≡ Some s → ⊥
    none_is s e = cc
get_push (z ∷ xs) y x zero e = inl e
get_push (z ∷ xs) y x (suc i) e = elim (get_push xs y x i e) [ inl h ↦ inl h | inr h ↦ inr (h.0, omega (arith, h.1)) ]

space_push : (s t : Sort) (m x : Meaning) (sc : Scope) (i : ℕ) → slice_get (space s (with_one t m sc)) i ≡ Some x → (slice_get (space s sc) i ≡ Some x) ⊎ (x ≡ m)
space_push sort.Func sort.Func m x sc i e = elim (get_push sc.funcs m x i e) [ inl h ↦ inl h | inr h ↦ inr h.0 ]
space_push sort.Ty sort.Ty m x sc i e = elim (get_push sc.types m x i e) [ inl h ↦ inl h | inr h ↦ inr h.0 ]
space_push sort.Component sort.Component m x sc i e = elim (get_push sc.components m x i e) [ inl h ↦ inl h | inr h ↦ inr h.0 ]
space_push sort.Instance sort.Instance m x sc i e = elim (get_push sc.instances m x i e) [ inl h ↦ inl h | inr h ↦ inr h.0 ]
space_push sort.Module sort.Module m x sc i e = elim (get_push sc.modules m x i e) [ inl h ↦ inl h | inr h ↦ inr h.0 ]
space_push _ _ m x sc i e = inl e

abbrev ScopeBelow : (n l : ℕ) → Scope → Type 0
ScopeBelow n l sc = (s : Sort) (i : ℕ) (m : Meaning) → slice_get (space s sc) i ≡ Some m → Below n l m

scope_push : (n l : ℕ) (t : Sort) (m : Meaning) (sc : Scope) → ScopeBelow n l sc → Below n l m → ScopeBelow n l (with_one t m sc)
scope_push n l t m sc all b s i x e = elim (space_push s t m x sc i e) [ inl h ↦ all s i x h | inr h ↦ subst (λ (x : Meaning). Below n l x) (sym h) b ]

record IsSound (l : ℕ) (st : State) : Type 0 where
  scope : ScopeBelow (length st.listed.instances) l st.scope
  instances : (k : ℕ) (x : Tag × List (Name × Source ℕ)) → slice_get st.listed.instances k ≡ Some x → TagShort l x.0 × AllUnder k x.1
  exports : AllUnder (length st.listed.instances) st.listed.exports

-- one more index, and nothing else
sound_adds : (l : ℕ) (s : Sort) (m : Meaning) (st : State) → IsSound l st → Below (length st.listed.instances) l m → IsSound l (adds s m st)
sound_adds l s m st h b = record { scope = scope_push (length st.listed.instances) l s m st.scope h.scope b; instances = h.instances; exports = h.exports }

abbrev NestedShort : ℕ → Entry → Type 0
NestedShort l (Nested bytes) = length bytes < l
NestedShort l _ = Unit {0}

found_below : (n l : ℕ) (sc : Scope) (count : ℕ) (s : Sort) (i : ℕ) (m : Meaning) → ScopeBelow n l sc → found_at (sc ∷ []) count s i ≡ Some m → Below n l m
found_below n l sc zero s i m all e = all s i m e
found_below n l sc (suc c) s i m all e = absurd (none_is m e)
  where
    none_is : {A : Type 0} (s : A) → None ≡ Some s → ⊥
    none_is s e = cc

part_below : (n l : ℕ) (o : Option Tree) (m x : Meaning) (s : Sort) (nm : Name) → part_of o m s nm ≡ Some x → Below n l m → Below n l x
part_below n l None m x s nm e b = subst (λ (x : Meaning). Below n l x) (some_is (Part m s nm) x e) b
part_below n l (Some t) m x s nm e b =
    let a = bind_some (export_named nm t >>= item_of_sort s) (λ t. Some (Part m s nm)) x e in
    subst (λ (x : Meaning). Below n l x) (some_is (Part m s nm) x a.2) b

alias_below : (n l : ℕ) (w : Worlds) (sc : Scope) (a : Alias) (x : Meaning) → ScopeBelow n l sc → alias_of w (sc ∷ []) a ≡ Some x → Below n l x
alias_below n l w sc (ExportAlias s i nm) x all e =
    let a = bind_some (found (sc ∷ []) sort.Instance i) (λ m. part_of (item_tree w m) m s nm) x e in
    part_below n l (item_tree w a.0) a.0 x s nm a.2 (all sort.Instance i a.0 a.1)
alias_below n l w sc (OuterAlias s count i) x all e = found_below n l sc count s i x all e

arguments_under : (n l : ℕ) (sc : Scope) (as' : List Argument) (xs : List (Name × Source ℕ)) → ScopeBelow n l sc → arguments_of sc as' ≡ Some xs → AllUnder n xs
arguments_under n l sc [] xs all e = subst (λ (xs : List (Name × Source ℕ)). AllUnder n xs) (some_is [] xs e) tt
arguments_under n l sc (a ∷ as') xs all e =
    let p = bind_some (found (sc ∷ []) a.1 a.2 >>= source_of) (λ s. arguments_of sc as' >>= λ others. Some ((a.0, s) ∷ others)) xs e in
    let o = bind_some (found (sc ∷ []) a.1 a.2) source_of p.0 p.1 in
    let q = bind_some (arguments_of sc as') (λ others. Some ((a.0, p.0) ∷ others)) xs p.2 in
    subst (λ (xs : List (Name × Source ℕ)). AllUnder n xs) (some_is ((a.0, p.0) ∷ q.0) xs q.2) (source_under n l o.0 p.0 o.2 (all a.1 a.2 o.0 o.1), arguments_under n l sc as' q.0 all q.1)

-- one more instance
sound_makes : (l : ℕ) (tag : Tag) (xs : List (Name × Source ℕ)) (st : State) → IsSound l st → TagShort l tag → AllUnder (length st.listed.instances) xs → IsSound l (makes tag xs st)
sound_makes l tag xs st h short under =
    let n = length st.listed.instances in
    let more : length (st.listed.instances ++ (tag, xs) ∷ []) ≡ n + 1 = length_push st.listed.instances (tag, xs) in
    let k = length (st.listed.instances ++ (tag, xs) ∷ []) in
    let le : n ≤ k = omega (arith, more) in
    let here : n < k = omega (arith, more) in
    record {
      scope = scope_push k l sort.Instance (Made n tag) st.scope (λ s i m e. below_more n k l m le (h.scope s i m e)) here;
      instances = λ j x e. elim (get_push st.listed.instances (tag, xs) x j e) [
        | inl g ↦ h.instances j x g
        | inr g ↦ subst (λ (x : Tag × List (Name × Source ℕ)). TagShort l x.0 × AllUnder j x.1) (sym g.0) (short, subst (λ (j : ℕ). AllUnder j xs) (sym g.1) under)
      ];
      exports = all_more n k st.listed.exports le h.exports;
    }

-- one more entry
sound_step : (w : Worlds) (l : ℕ) (st last : State) (e : Entry) → step w st e ≡ Some last → NestedShort l e → IsSound l st → IsSound l last
unfolding step
sound_step w l st last (Core ds) e short h =
    let a = bind_some (module_tree ds) (λ t. Some (record st { scope = with_core t st.scope })) last e in
    subst (λ (x : State). IsSound l x) (some_is (record st { scope = with_core a.0 st.scope }) last a.2) (record {
      scope = λ s i m e. h.scope s i m (ap (λ (xs : List Meaning). slice_get xs i) (sym (core_kept s a.0 st.scope)) ∙ e);
      instances = h.instances;
      exports = h.exports;
    })
sound_step w l st last (Nested bytes) e short h = subst (λ (x : State). IsSound l x) (some_is (adds sort.Component (Code bytes) st) last e) (sound_adds l sort.Component (Code bytes) st h short)
sound_step w l st last (Instantiate c as') e short h =
    let a = bind_some (found (st.scope ∷ []) sort.Component c >>= tag_of) (λ tag. arguments_of st.scope as' >>= λ arguments. Some (makes tag arguments st)) last e in
    let o = bind_some (found (st.scope ∷ []) sort.Component c) tag_of a.0 a.1 in
    let b = bind_some (arguments_of st.scope as') (λ arguments. Some (makes a.0 arguments st)) last a.2 in
    let n = length st.listed.instances in
    subst (λ (x : State). IsSound l x) (some_is (makes a.0 b.0 st) last b.2) (sound_makes l a.0 b.0 st h (tag_short n l o.0 a.0 o.2 (h.scope sort.Component c o.0 o.1)) (arguments_under n l st.scope as' b.0 h.scope b.1))
sound_step w l st last (Aliased x) e short h =
    let a = bind_some (alias_of w (st.scope ∷ []) x) (λ m. Some (adds (alias_sort x) m st)) last e in
    let n = length st.listed.instances in
    subst (λ (x : State). IsSound l x) (some_is (adds (alias_sort x) a.0 st) last a.2) (sound_adds l (alias_sort x) a.0 st h (alias_below n l w st.scope x a.0 h.scope a.1))
sound_step w l st last (Typed t) e short h =
    let a = bind_some (type_of w st.scope t) (λ t. Some (adds sort.Ty (Known t) st)) last e in
    subst (λ (x : State). IsSound l x) (some_is (adds sort.Ty (Known a.0) st) last a.2) (sound_adds l sort.Ty (Known a.0) st h tt)
sound_step w l st last (Imported n d) e short h =
    let a = bind_some (described w (st.scope ∷ []) n d) (λ i. Some (imports_one n i st)) last e in
    let m = Item n a.0.0 a.0.1 in
    subst (λ (x : State). IsSound l x) (some_is (imports_one n a.0 st) last a.2) (record {
      scope = scope_push (length st.listed.instances) l a.0.0 m st.scope h.scope tt;
      instances = h.instances;
      exports = h.exports;
    })
sound_step w l st last (Exported x) e short h =
    let a = bind_some (found (st.scope ∷ []) x.sort x.index) (λ m. source_of m >>= λ y. states w m x.name x.stated st >>= λ st. Some (exports_one x.name x.sort m y st)) last e in
    let b = bind_some (source_of a.0) (λ y. states w a.0 x.name x.stated st >>= λ st. Some (exports_one x.name x.sort a.0 y st)) last a.2 in
    let c = bind_some (states w a.0 x.name x.stated st) (λ st. Some (exports_one x.name x.sort a.0 b.0 st)) last b.2 in
    let k = states_keeps w a.0 x.name x.stated st c.0 c.1 in
    let n = length st.listed.instances in
    let below = h.scope x.sort x.index a.0 a.1 in
    let under = source_under n l a.0 b.0 b.1 below in
    let mid : State = record { scope = st.scope; listed = st.listed; stated = c.0.stated } in
    let mid_is : mid ≡ c.0 = ap (λ (s : Scope). record { scope = s; listed = st.listed; stated = c.0.stated }) (sym k.scope) ∙ ap (λ (y : Listed). record { scope = c.0.scope; listed = y; stated = c.0.stated }) (sym k.listed) in
    let f : State → State = λ s. exports_one x.name x.sort a.0 b.0 s in
    subst (λ (x : State). IsSound l x) (ap f mid_is ∙ some_is (f c.0) last c.2) (record {
      scope = scope_push n l x.sort a.0 st.scope h.scope below;
      instances = h.instances;
      exports = all_push (λ (a : Name × Source ℕ). Under n a.1) st.listed.exports (x.name, b.0) h.exports under;
    })

sound_steps : (w : Worlds) (l : ℕ) (es : List Entry) (st last : State) → steps w st es ≡ Some last → AllByRecursion (NestedShort l) es → IsSound l st → IsSound l last
unfolding steps
sound_steps w l [] st last e short h = subst (λ (x : State). IsSound l x) (some_is st last e) h
sound_steps w l (x ∷ es) st last e short h =
    let b = bind_some (step w st x) (λ next. steps w next es) last e in
    sound_steps w l es b.0 last b.2 short.1 (sound_step w l st b.0 x b.1 short.0 h)

none_at : (s : Sort) (i : ℕ) (m : Meaning) → slice_get (space s start.scope) i ≡ Some m → ⊥
none_at sort.Func i m e = cc
none_at sort.Ty i m e = cc
none_at sort.Component i m e = cc
none_at sort.Instance i m e = cc
none_at sort.Module i m e = cc

sound_start : (l : ℕ) → IsSound l start
sound_start l = record { scope = λ s i m e. absurd (none_at s i m e); instances = λ k x e. absurd cc; exports = tt }

-- ---- nested strings

all_append : {X : Type 0} (P : X → Type 0) (xs ys : List X) → AllByRecursion P xs → AllByRecursion P ys → AllByRecursion P (xs ++ ys)
all_append P [] ys a b = b
all_append P (x ∷ xs) ys a b = (a.0, all_append P xs ys a.1 b)

all_map : {X Y : Type 0} (P : Y → Type 0) (f : X → Y) → ((x : X) → P (f x)) → (xs : List X) → AllByRecursion P (map f xs)
all_map P f h [] = tt
all_map P f h (x ∷ xs) = (h x, all_map P f h xs)

section_short : (l : ℕ) (s : Section) → length (section_bytes s) < l → AllByRecursion (NestedShort l) (section_entries s)
unfolding section_bytes
section_short l (Custom n rest) lt = tt
section_short l (CoreTypes ts) lt = all_map (NestedShort l) Core (λ x. tt) ts
section_short l (NestedComponent bytes) lt = (omega (arith, lt, length-append (unsigned (length bytes)) bytes), tt)
section_short l (Instances es) lt = all_map (NestedShort l) (λ e. Instantiate e.0 e.1) (λ x. tt) es
section_short l (Aliases es) lt = all_map (NestedShort l) Aliased (λ x. tt) es
section_short l (Types es) lt = all_map (NestedShort l) Typed (λ x. tt) es
section_short l (Imports es) lt = all_map (NestedShort l) (λ e. Imported e.0 e.1) (λ x. tt) es
section_short l (Exports es) lt = all_map (NestedShort l) Exported (λ x. tt) es

sections_short : (l : ℕ) (ss : List Section) → length (flat_map section_bytes ss) < l → AllByRecursion (NestedShort l) (entries_of ss)
sections_short l [] lt = tt
sections_short l (s ∷ ss) lt =
    let e = length-append (section_bytes s) (flat_map section_bytes ss) in
    all_append (NestedShort l) (section_entries s) (entries_of ss) (section_short l s (omega (arith, lt, e))) (sections_short l ss (omega (arith, lt, e)))

component_short : (ss : List Section) → AllByRecursion (NestedShort (length (component_bytes ss))) (entries_of ss)
unfolding component_bytes
component_short ss = sections_short (length (component_bytes ss)) ss (omega (arith, length-append preamble (flat_map section_bytes ss)))

sound : (w : Worlds) (bytes : List ℕ) (v : Wiring ℕ) → (m : Means w bytes v) → IsSound (length bytes) m.states.last
sound w bytes v m =
    let f : List ℕ → Type 0 = λ b. AllByRecursion (NestedShort (length b)) (entries_of m.sections) in
    sound_steps w (length bytes) (entries_of m.sections) start m.states.last m.states.read (subst f (sym m.spelled) (component_short m.sections)) (sound_start (length bytes))

-- ---- the wiring

abbrev Made_of : Type 0
Made_of = Tag × List (Name × Source ℕ)

at_is : (o : Option Made_of) (x : Instantiation ℕ) → option_map instantiation o ≡ Some x → (y : Made_of) × (o ≡ Some y) × (instantiation y ≡ x)
at_is (Some y) x e = (y, refl, some_is (instantiation y) x e)
at_is None x e = absurd cc

get_there : (xs : List Made_of) (k : ℕ) → k < length xs → (y : Instantiation ℕ) × (option_map instantiation (slice_get xs k) ≡ Some y)
get_there [] k lt = absurd (omega (arith, lt))
get_there (x ∷ xs) zero lt = (instantiation x, refl)
get_there (x ∷ xs) (suc k) lt = get_there xs k (omega (arith, lt))

either_source : (P : Source ℕ → Type 0) (b : Bool) (s : Source ℕ) (o : Option (Source ℕ)) → P s → P (elim o [ None ↦ Absent | Some s ↦ s ]) → P (elim (cond b (Some s) o) [ None ↦ Absent | Some s ↦ s ])
either_source P true s o a b = a
either_source P false s o a b = b

source_has : (P : Source ℕ → Type 0) (xs : List (Name × Source ℕ)) (n : Name) → P Absent → AllByRecursion (λ a. P a.1) xs → P (source_at xs n)
source_has P [] n none all = none
source_has P (x ∷ xs) n none all = either_source P (same_name n x.0) x.1 (value_at xs n) all.0 (source_has P xs n none all.1)

named_plain : {I : Type 0} (s : Source I) → IsNamed s → IsPlain s
named_plain Absent p = tt
named_plain (Outer n) p = tt
named_plain (Inst k) p = tt
named_plain (Projection s n) p = p
named_plain (Bundle f) p = p
named_plain (Definition t) p = tt

module _ (w : Worlds) (bytes : List ℕ) (v : Wiring ℕ) (m : Means w bytes v) where
  abbrev l : Listed
  l = m.states.last.listed

  made_at : (k : ℕ) (x : Instantiation ℕ) → v.at k ≡ Some x → (y : Made_of) × (slice_get l.instances k ≡ Some y) × (instantiation y ≡ x)
  made_at k x e = at_is (slice_get l.instances k) x (ap (λ (u : Wiring ℕ). u.at k) m.states.wired ∙ e)

  there : (j : ℕ) → j < length l.instances → (y : Instantiation ℕ) × (v.at j ≡ Some y)
  there j lt = let y = get_there l.instances j lt in (y.0, ap (λ (u : Wiring ℕ). u.at j) (sym m.states.wired) ∙ y.1)

  args_under : (k : ℕ) (x : Instantiation ℕ) → v.at k ≡ Some x → (n : Name) → IsPlain (x.args n) × Uses (λ j. (j < k) × ((y : Instantiation ℕ) × (v.at j ≡ Some y))) (x.args n)
  args_under k x e n =
      let s = sound w bytes v m in
      let y = made_at k x e in
      let P : Source ℕ → Type 0 = λ a. IsPlain a × Uses (λ j. (j < k) × ((z : Instantiation ℕ) × (v.at j ≡ Some z))) a in
      let lt = some_place l.instances k y.0 y.1 in
      let one : (a : Source ℕ) → Under k a → P a = λ a u. (named_plain a u.1, Uses-weaker (λ j h. (h, there j (omega (arith, h, lt)))) a u.0) in
      let h = source_has P y.0.1 n (tt, tt) (all_weaker (λ a u. one a.1 u) y.0.1 (s.instances k y.0 y.1).1) in
      subst (λ (x : Instantiation ℕ). P (x.args n)) y.2 h

  exports_under : (n : Name) → IsPlain (v.exports n) × Uses (λ j. (y : Instantiation ℕ) × (v.at j ≡ Some y)) (v.exports n)
  exports_under n =
      let s = sound w bytes v m in
      let P : Source ℕ → Type 0 = λ a. IsPlain a × Uses (λ j. (z : Instantiation ℕ) × (v.at j ≡ Some z)) a in
      let one : (a : Source ℕ) → Under (length l.instances) a → P a = λ a u. (named_plain a u.1, Uses-weaker (λ j h. there j h) a u.0) in
      let h = source_has P l.exports n (tt, tt) (all_weaker (λ a u. one a.1 u) l.exports s.exports) in
      subst (λ (u : Wiring ℕ). P (u.exports n)) m.states.wired h

pub ordered : (w : Worlds) (bytes : List ℕ) (v : Wiring ℕ) → Means w bytes v → IsOrdered v
ordered w bytes v m = record {
  args = λ k x e n. Uses-weaker (λ j h. (h.0, is_there (v.at j) h.1.0 h.1.1)) (x.args n) (args_under w bytes v m k x e n).1;
  exports = λ n. Uses-weaker (λ j h. is_there (v.at j) h.0 h.1) (v.exports n) (exports_under w bytes v m n).1;
}

pub closed : (w : Worlds) (bytes : List ℕ) (v : Wiring ℕ) → Means w bytes v → IsClosed v
closed w bytes v m = record {
  args_plain = λ k x e n. (args_under w bytes v m k x e n).0;
  args_there = λ k x e n. Uses-weaker (λ j h. h.1) (x.args n) (args_under w bytes v m k x e n).1;
  exports_plain = λ n. (exports_under w bytes v m n).0;
  exports_there = λ n. (exports_under w bytes v m n).1;
}

pub shorter : (w : Worlds) (bytes : List ℕ) (v : Wiring ℕ) → Means w bytes v → (k : ℕ) (x : Instantiation ℕ) (nested : List ℕ) → v.at k ≡ Some x → x.tag ≡ OfBytes nested → length nested < length bytes
shorter w bytes v m k x nested e t =
    let s = sound w bytes v m in
    let y = made_at w bytes v m k x e in
    subst (λ (t : Tag). TagShort (length bytes) t) (ap (λ (x : Instantiation ℕ). x.tag) y.2 ∙ t) (s.instances k y.0 y.1).0
