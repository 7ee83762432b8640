-- One more declaration behind the others.
use Rattle.std.proofs.Common.{◌≡◌, List, [], ◌∷◌, ◌++◌, Option, Some, None, refl, sym, ap, ◌∙◌, string_bytes}
use Rattle.wac_graph_bytes.specs.declared.value.Sort.TheVariants as sort
use Rattle.wac_graph_bytes.specs.declared.entry.Declaration.{Declaration, Module, Defined, ComponentType', InstanceType', Alias, Import, Export}
use Rattle.wac_graph_bytes.specs.Entries.{Declarations, End}
use Rattle.wac_graph_bytes.specs.Typing.{◌>>=◌, Worlds, Scope, Known, with_core, Inside, nothing_inside, defined, described, alias_of, alias_sort, module_tree, instance_tree, component_tree, adds_inside, imports_inside, exports_inside, declared}
use Rattle.wac_graph_bytes.specs.Views.{defined_view, alias_view, module_view, before, row_view, declarations_of}

pub bind_assoc : {A B C : Type 0} (o : Option A) (f : A → Option B) (g : B → Option C) → ((o >>= f) >>= g) ≡ (o >>= λ x. f x >>= g)
bind_assoc None f g = refl
bind_assoc (Some x) f g = refl

pub bind_same : {A B : Type 0} (o : Option A) (f g : A → Option B) → ((x : A) → f x ≡ g x) → (o >>= f) ≡ (o >>= g)
bind_same None f g h = refl
bind_same (Some x) f g h = h x

mapped : {A : Type 0} (o : Option A) (f : A → Inside) (g : Inside → Option Inside) → (o >>= λ x. g (f x)) ≡ ((o >>= λ x. Some (f x)) >>= g)
mapped None f g = refl
mapped (Some x) f g = refl

-- the first declaration, and then the others
pub first_then : (w : Worlds) (outer : List Scope) (i : Inside) (d : Declaration) (rest : Declarations) → declared w outer i (before d rest) ≡ (declared w outer i (before d End) >>= λ j. declared w outer j rest)
unfolding declared
first_then w outer i (Module ds) rest = mapped (module_tree (module_view ds.items)) (λ t. record i { here = with_core t i.here }) (λ j. declared w outer j rest)
first_then w outer i (Defined t) rest = mapped (defined w (i.here ∷ outer) (defined_view t)) (λ t. adds_inside sort.Ty (Known t) i) (λ j. declared w outer j rest)
first_then w outer i (ComponentType' _ row) rest = mapped (declared w (i.here ∷ outer) nothing_inside (row_view row) >>= component_tree) (λ t. adds_inside sort.Ty (Known t) i) (λ j. declared w outer j rest)
first_then w outer i (InstanceType' _ row) rest = mapped (declared w (i.here ∷ outer) nothing_inside (row_view row) >>= instance_tree) (λ t. adds_inside sort.Ty (Known t) i) (λ j. declared w outer j rest)
first_then w outer i (Alias a) rest = mapped (alias_of w (i.here ∷ outer) (alias_view a)) (λ m. adds_inside (alias_sort (alias_view a)) m i) (λ j. declared w outer j rest)
first_then w outer i (Import n d) rest = mapped (described w (i.here ∷ outer) (string_bytes n) d) (λ d. imports_inside (string_bytes n) d i) (λ j. declared w outer j rest)
first_then w outer i (Export n d) rest = mapped (described w (i.here ∷ outer) (string_bytes n) d) (λ d. exports_inside (string_bytes n) d i) (λ j. declared w outer j rest)

-- some declarations, and then others
pub all_then : (w : Worlds) (outer : List Scope) (i : Inside) (ds es : List Declaration) → declared w outer i (declarations_of (ds ++ es)) ≡ (declared w outer i (declarations_of ds) >>= λ j. declared w outer j (declarations_of es))
unfolding declared
all_then w outer i [] es = refl
all_then w outer i (d ∷ ds) es =
    let first = declared w outer i (before d End) in
    first_then w outer i d (declarations_of (ds ++ es))
    ∙ bind_same first (λ j. declared w outer j (declarations_of (ds ++ es))) (λ j. declared w outer j (declarations_of ds) >>= λ k. declared w outer k (declarations_of es)) (λ j. all_then w outer j ds es)
    ∙ sym (bind_assoc first (λ j. declared w outer j (declarations_of ds)) (λ k. declared w outer k (declarations_of es)))
    ∙ ap (λ (o : Option Inside). o >>= λ k. declared w outer k (declarations_of es)) (sym (first_then w outer i d (declarations_of ds)))

-- one more declaration, where the others have a reading
pub one_more : (w : Worlds) (outer : List Scope) (i j k : Inside) (ds : List Declaration) (d : Declaration) → declared w outer i (declarations_of ds) ≡ Some j → declared w outer j (before d End) ≡ Some k → declared w outer i (declarations_of (ds ++ d ∷ [])) ≡ Some k
one_more w outer i j k ds d e one = all_then w outer i ds (d ∷ []) ∙ ap (λ (o : Option Inside). o >>= λ x. declared w outer x (before d End)) e ∙ one
