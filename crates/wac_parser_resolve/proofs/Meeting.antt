-- The tests of a target, and what is stated of them.
use Rattle.std.proofs.lemmas.List.{drop_all}
use Rattle.std.proofs.Common.{◌≡◌, ◌⊎◌, ◌≤◌, ◌+◌, ℕ, zero, suc, List, [], ◌∷◌, length, drop, Bool, true, false, ◌||◌, ◌==◌, Option, Some, None, IsSome, option_map, if◌then◌else◌, Result, Ok, Err, OnOk, slice_get, refl, sym, ap, subst, ◌∙◌, inl, inr}
use Rattle.std.specs.Prelude.{⊤, option_copied}
use Rattle.std.specs.Cmp.Lexicographic.{pointwise, bytes_decides}
use Rattle.wac_types_base.specs.declared.item.ExternKind.{ExternKind}
use Rattle.wac_types_base.specs.declared.item.ItemKind.{ItemKind}
use Rattle.wac_types_base.specs.declared.ids.WorldId.{WorldId}
use Rattle.wac_types_base.specs.declared.defined.World.{World}
use Rattle.wac_types_base.specs.Record.{Collection}
use Rattle.wac_types_base.specs.Collection.{IsAcyclic, Stands}
use Rattle.wac_types_base.specs.Entries.{Name, has_name, names_of, value_at}
use Rattle.wac_types_base.specs.Graph.{Among}
use Rattle.wac_types_base.specs.Resolving.{promoted}
use Rattle.wac_types_base.specs.Stated.{Stated, desc, promote, stated_of}
use Rattle.wac_types_base.proofs.Telling.{promote_stated}
use Rattle.wac_types_base.proofs.Used.{drop_next}
use Rattle.wac_types_fit.specs.declared.error.SubtypeError.{SubtypeError}
use Rattle.wac_types_fit.specs.declared.checker.SubtypeCheck.{SubtypeCheck}
use Rattle.wac_types_fit.specs.Errors.{IfMismatch, IfSaid, refusal, said, steps, words_of}
use Rattle.wac_types_fit.specs.Frames.{Disagree}
use Rattle.wac_types_fit.specs.Words.{Called, CalledUnder}
use Rattle.wac_types_fit.specs.Trees.{Fit, tree_in}
use Rattle.wac_composition.proofs.FitBack.{fits_decides}
use Rattle.wac_graph_core.specs.Exporting.{import_name_of}
use Rattle.wac_graph_core.specs.Listing.{import_names, passed_to}
use Rattle.wac_graph_core.specs.Graph.{Graph, ContainsPackage, IsGraph, IsOfKind, instantiated, node_at, package_if, package_made, package_of}
use Rattle.wac_graph_core.specs.Nodes.{NodeData}
use Rattle.wac_graph_core.specs.declared.ids.PackageId.{PackageId}
use Rattle.wac_types_names.specs.Packaged.{Packaged}
use Rattle.wac_parser_tree.specs.Trees.{Span}
use Rattle.wac_parser_refusals.specs.declared.refusal.Refusal.{Refusal}
use Rattle.wac_parser_refusals.specs.Causes.{Answer, ImportNotInTarget, TargetMismatch, each, pure, ◌>>=◌, ◌>>◌}
use Rattle.wac_parser_refusals.specs.Outcomes.{IsHeld, IsRefusal, Refuses}
use Rattle.wac_parser_refusals.specs.Views.{Names, maybe_at}
use Rattle.wac_parser_refusals.specs.Sources.{TellsBetween, reported}
use Rattle.wac_parser_refusals.proofs.Outcomes.{memory_refusal, needs_held, needs_refused, told_between}
use Rattle.wac_parser_refusals.proofs.Sources.{tells_of}
use Rattle.wac_parser_declare.proofs.Members.{told}
use Rattle.wac_parser_resolve.specs.declared.targets.Place.{Place}
use Rattle.wac_parser_resolve.specs.declared.targets.Target.{Target}
use Rattle.wac_parser_resolve.specs.Denoting.{fitting}
use Rattle.wac_parser_resolve.specs.Giving.{gives_of}
use Rattle.wac_types_base.specs.Parts.{imports_in_world}
use Rattle.wac_parser_resolve.specs.InTargets.{AreAllNoted, AreInstancesMet, AreStatementsMet, IsAnswerOf, IsTold, all_pass, asked_in, export_at, export_test, filled_test, TellsMismatch, fit_in, fit_test, import_test, instance_test, is_passed_in, item_in, lacks_export, mismatch_in, mismatched_at, node_item, package_imports, path_of, statement_by, statement_test, way_of}
use Rattle.wac_parser_resolve.specs.Meeting.{import_met}
use Rattle.wac_parser_resolve.specs.Targeting.{Gives, IsInstanceMet, IsPassed, IsStatementMet}
use Rattle.wac_parser_resolve.proofs.TargetMet.{node_package, passed_has}
use Rattle.wac_parser_resolve.specs.Said.{last_noted}

-- holds of each answer that is no refusal
abbrev pub Passed : ⊤ → ⊤ → Type 0
Passed u v = Unit {0}

-- ---- one that fits another

fit_true : (c : Collection) (j k : ItemKind) → Fit c j c k → fit_in c j k ≡ true
unfolding tree_in
fit_true c j k f = (fits_decides (stated_of c j) (stated_of c k)).1 f

fit_false : (c : Collection) (j k : ItemKind) → (Fit c j c k → ⊥) → fit_in c j k ≡ false
unfolding tree_in
fit_false c j k f = by (fit_in c j k) refl
  where
    by : (b : Bool) → fit_in c j k ≡ b → fit_in c j k ≡ false
    by true e = absurd (f ((fits_decides (stated_of c j) (stated_of c k)).0 e))
    by false e = e

ok_has : {A E P : Type 0} (r : Result A E) (x : A) → r ≡ Ok x → OnOk r P → P
ok_has (Ok y) x e p = p
ok_has (Err f) x e p = absurd (cc e)

-- what a check of the two answers
pub record IsChecked (way : SubtypeCheck) (c : Collection) (j k : ItemKind) (r : Result ⊤ SubtypeError) : Type 0 where
  pub yes : OnOk r (Fit c j c k)
  pub no : IfMismatch r (λ ss. Fit c j c k → ⊥)
  pub frames : IfMismatch r (λ ss. Disagree ss (tree_in c j) (tree_in c k))
  pub words : IfSaid r (λ ss e f. CalledUnder way (Called c j ss) (Called c k ss) e f)

pub mismatch_told : (way : SubtypeCheck) (c : Collection) (j k : ItemKind) (r : Result ⊤ SubtypeError) → IsChecked way c j k r → (o : Option SubtypeError) → IsAnswerOf r o → TellsMismatch way c j k o
mismatch_told way c j k r x None e = fit_true c j k (ok_has r tt e x.yes)
mismatch_told way c j k r x (Some SubtypeError.Memory) h = absurd (h.1 refl)
mismatch_told way c j k r x (Some (SubtypeError.Mismatch fs a b)) h = (
  fit_false c j k (x.no (steps fs.items) (ap refusal h.0)),
  tells_of way c j c k (steps fs.items, (option_copied a, option_copied b)) (x.frames (steps fs.items) (ap refusal h.0)) (x.words (steps fs.items) (option_copied a) (option_copied b) (ap said h.0)),
)

-- ---- what is refused

module _ (t : Target) (c : Collection) (j k : ItemKind) (p : Place) where
  pub fit_held : (way : SubtypeCheck) → TellsMismatch way c j k None → IsHeld Passed (fit_test t c j k p) tt
  fit_held way e = needs_held (Passed tt) (fit_in c j k) _ tt e tt

  pub fit_refused : (way : SubtypeCheck) (m : SubtypeError) (e : Refusal) → way ≡ way_of p.kind → TellsMismatch way c j k (Some m) → Names e (mismatched_at t p m) → IsRefusal (fit_test t c j k p) e
  fit_refused way m e turned h n =
      needs_refused (fit_in c j k) _ e h.0
      (told_between e (mismatch_in t p) p.span m (way_of p.kind) (stated_of c j) (stated_of c k) n
      (subst (λ (x : SubtypeCheck). TellsBetween x (stated_of c j) (stated_of c k) (reported (words_of m))) turned h.1))

-- ---- imports

module _ (t : Target) (c : Collection) (n : Name) (k : ItemKind) (s : Option Span) where
  pub import_lacks : (e : Refusal) → None ≡ gives_of t n → Names e (maybe_at (ImportNotInTarget n t.path.now.string.now) s) → IsRefusal (import_test t c (asked_in c n k s)) e
  import_lacks e is m =
      subst (λ (o : Option ItemKind). IsRefusal (import_met (path_of t) (asked_in c n k s) (option_map (stated_of c) o)) e) is
      (told e (ImportNotInTarget n t.path.now.string.now) s m)

  pub import_fits : IsAcyclic c → (i : ItemKind) (r : Result ⊤ Refusal) → Some i ≡ gives_of t n → Stands c i
      → IsTold (fitting SubtypeCheck.Contravariant (stated_of c (promoted i)) (stated_of c k) (TargetMismatch ExternKind.Import n t.path.now.string.now) s) r → IsTold (import_test t c (asked_in c n k s)) r
  import_fits a i r is stands h =
      subst (λ (o : Option ItemKind). IsTold (import_met (path_of t) (asked_in c n k s) (option_map (stated_of c) o)) r) is
      (subst (λ (x : Stated). IsTold (fitting SubtypeCheck.Contravariant x (stated_of c k) (TargetMismatch ExternKind.Import n t.path.now.string.now) s) r) (promote_stated i c a stands) h)

pub node_item_is : (g : Graph) (k : ℕ) (i : ItemKind) → IsOfKind g k (λ x. x ≡ i) → node_item g k ≡ stated_of g.types i
node_item_is g k i h = ap (item_in g) h.there ∙ ap (stated_of g.types) h.kind

module _ (t : Target) (g : Graph) (k : ℕ) (s : Span) (r : Result ⊤ Refusal) where
  pub statement_is : (n : Name) (i : ItemKind) → Some n ≡ import_name_of (node_at g k) → IsOfKind g k (λ x. x ≡ i) → IsTold (import_test t g.types (asked_in g.types n i (Some s))) r → IsTold (statement_test t g (k, s)) r
  statement_is n i is own h =
      subst (λ (o : Option Name). IsTold (statement_by t g k s o) r) is
      (subst (λ (x : Stated). IsTold (import_test t g.types (record { name = n; item = x; span = Some s })) r) (sym (node_item_is g k i own)) h)

pub statement_none : (t : Target) (g : Graph) (k : ℕ) (s : Span) → None ≡ import_name_of (node_at g k) → IsHeld Passed (statement_test t g (k, s)) tt
statement_none t g k s is = subst (λ (o : Option Name). IsHeld Passed (statement_by t g k s o) tt) is tt

-- ---- imports of instances

module _ (t : Target) (g : Graph) (i : ℕ) (n : Name) (k : ItemKind) where
  pub filled_passed : (b : Bool) → b ≡ is_passed_in g i n → b ≡ true → IsHeld Passed (filled_test t g i (n, k)) tt
  filled_passed b is e = subst (λ (x : Bool). IsHeld Passed (if x then pure tt else import_test t g.types (asked_in g.types n k None)) tt) (sym e ∙ is) tt

  pub filled_asked : (b : Bool) (r : Result ⊤ Refusal) → b ≡ is_passed_in g i n → b ≡ false → IsTold (import_test t g.types (asked_in g.types n k None)) r → IsTold (filled_test t g i (n, k)) r
  filled_asked b r is e h = subst (λ (x : Bool). IsTold (if x then pure tt else import_test t g.types (asked_in g.types n k None)) r) (sym e ∙ is) h

-- ---- each, in order

pub then_unit : {B : Type 0} (q : Answer ⊤) (h : ⊤ → Answer B) → (q >>= h) ≡ (q >> h tt)
then_unit (Ok u) h = refl
then_unit (Err c) h = refl

pub held_then : {B : Type 0} (q : Answer ⊤) (r : Answer B) → IsHeld Passed q tt → (q >> r) ≡ r
held_then (Ok u) r h = refl
held_then (Err c) r h = absurd h

pub refused_then : {B : Type 0} (q : Answer ⊤) (r : Answer B) (e : Refusal) → IsRefusal q e → IsRefusal (q >> r) e
refused_then (Ok u) r e m = memory_refusal r e m
refused_then (Err c) r e m = m

module _ {A : Type 0} (f : A → Answer ⊤) where
  pub pass_first : (x : A) (xs : List A) → all_pass f (x ∷ xs) ≡ (f x >> all_pass f xs)
  pass_first x xs = then_unit (f x) (λ u. each (λ v y. f y) u xs)

  module _ (xs : List A) (i : ℕ) (x : A) (at : slice_get xs i ≡ Some x) (so : all_pass f (drop i xs) ≡ all_pass f xs) where
    here : (f x >> all_pass f (drop (i + 1) xs)) ≡ all_pass f xs
    here = sym (pass_first x (drop (i + 1) xs)) ∙ ap (all_pass f) (sym (drop_next xs i x at)) ∙ so

    pub next_passes : IsHeld Passed (f x) tt → all_pass f (drop (i + 1) xs) ≡ all_pass f xs
    next_passes h = sym (held_then (f x) (all_pass f (drop (i + 1) xs)) h) ∙ here

    pub next_refused : (e : Refusal) → IsRefusal (f x) e → IsRefusal (all_pass f xs) e
    next_refused e m = subst (λ (q : Answer ⊤). IsRefusal q e) here (refused_then (f x) (all_pass f (drop (i + 1) xs)) e m)

  pub all_passed : (xs : List A) (i : ℕ) → length xs ≤ i → all_pass f (drop i xs) ≡ all_pass f xs → IsHeld Passed (all_pass f xs) tt
  all_passed xs i end so =
      let e : all_pass f [] ≡ all_pass f xs = ap (all_pass f) (sym (drop_all i xs end)) ∙ so in
      subst (λ (q : Answer ⊤). IsHeld Passed q tt) e tt

-- ---- nodes that are noted

noted_here : (xs : List (ℕ × Span)) (i : ℕ) (e : ℕ × Span) → slice_get xs i ≡ Some e → Among e.0 (names_of xs)
noted_here [] i e h = absurd (cc h)
noted_here (x ∷ xs) zero e h = let same : x ≡ e = cc h in inl (ap (λ (y : ℕ × Span). y.0) (sym same))
noted_here (x ∷ xs) (suc i) e h = inr (noted_here xs i e h)

pub noted_among : (xs : List (ℕ × Span)) (i k : ℕ) (s : Span) → slice_get xs i ≡ Some (k, s) → Among k (names_of xs)
noted_among xs i k s h = noted_here xs i (k, s) h

-- each that is noted is still to come or is so
abbrev pub AreToCome : (ℕ → Type 0) → List (ℕ × Span) → ℕ → Type 0
AreToCome P xs i = (k : ℕ) → Among k (names_of xs) → Among k (names_of (drop i xs)) ⊎ P k

module _ (P : ℕ → Type 0) (xs : List (ℕ × Span)) (i : ℕ) where
  pub come_next : (k : ℕ) (s : Span) → slice_get xs i ≡ Some (k, s) → AreToCome P xs i → P k → AreToCome P xs (i + 1)
  come_next k s at come h j m = elim (come j m) [
    | inl a ↦ elim (among_first j (k, s) (drop (i + 1) xs) (subst (λ (ys : List (ℕ × Span)). Among j (names_of ys)) (drop_next xs i (k, s) at) a)) [ inl e ↦ inr (subst P (sym e) h) | inr b ↦ inl b ]
    | inr p ↦ inr p
  ]
    where
      among_first : (j : ℕ) (x : ℕ × Span) (ys : List (ℕ × Span)) → Among j (names_of (x ∷ ys)) → (j ≡ x.0) ⊎ Among j (names_of ys)
      among_first j x ys m = m

  pub none_to_come : length xs ≤ i → AreToCome P xs i → (k : ℕ) → Among k (names_of xs) → P k
  none_to_come end come k m = elim (come k m) [ inl a ↦ absurd (subst (λ (ys : List (ℕ × Span)). Among k (names_of ys)) (drop_all i xs end) a) | inr p ↦ p ]

-- ---- names of entries

has_here : {T : Type 0} (n : Name) (x : Name × T) (xs : List (Name × T)) (b : Bool) → b ≡ pointwise ◌==◌ n x.0 → has_name (names_of (x ∷ xs)) n ≡ (b || has_name (names_of xs) n)
has_here n x xs b e = ap (λ (t : Bool). t || has_name (names_of xs) n) (sym e)

module _ {T : Type 0} (n : Name) (es rest : List (Name × T)) (x : Name × T) (is : es ≡ x ∷ rest) where
  pub has_first : true ≡ pointwise ◌==◌ n x.0 → has_name (names_of es) n ≡ true
  has_first e = ap (λ (ys : List (Name × T)). has_name (names_of ys) n) is ∙ has_here n x rest true e

  pub has_rest : false ≡ pointwise ◌==◌ n x.0 → has_name (names_of es) n ≡ has_name (names_of rest) n
  has_rest e = ap (λ (ys : List (Name × T)). has_name (names_of ys) n) is ∙ has_here n x rest false e

pub has_none : {T : Type 0} (n : Name) (es : List (Name × T)) → es ≡ [] → has_name (names_of es) n ≡ false
has_none {T} n es is = ap (λ (ys : List (Name × T)). has_name (names_of ys) n) is

pub fit_is : (way : SubtypeCheck) (c : Collection) (j k : ItemKind) → TellsMismatch way c j k None → Fit c j c k
unfolding tree_in
fit_is way c j k e = (fits_decides (stated_of c j) (stated_of c k)).0 e

-- ---- what is passed

module _ {T : Type 0} (n : Name) where
  named_by : (x : Name × T) (xs : List (Name × T)) (b : Bool) → pointwise ◌==◌ n x.0 ≡ b → ((b || has_name (names_of xs) n) ≡ true) → (has_name (names_of xs) n ≡ true → (v : T) × Among (n, v) xs) → (v : T) × Among (n, v) (x ∷ xs)
  named_by x xs true e h rest = (x.1, inl (ap (λ (m : Name). (m, x.1)) ((bytes_decides n x.0).0 e)))
  named_by x xs false e h rest = let r = rest h in (r.0, inr r.1)

  pub named_among : (es : List (Name × T)) → has_name (names_of es) n ≡ true → (v : T) × Among (n, v) es
  named_among [] h = absurd (cc h)
  named_among (x ∷ es) h = named_by x es (pointwise ◌==◌ n x.0) refl h (named_among es)

pub passed_is : (g : Graph) (i : ℕ) (n : Name) → is_passed_in g i n ≡ true → IsPassed g i n
passed_is g i n h =
    let m = named_among n (passed_to g i) h in
    (m.0, passed_has g.edges i (import_names g (instantiated g i)) (n, m.0) m.1)

-- ---- the imports of an instance

module _ (t : Target) (g : Graph) (k : ℕ) (x : NodeData) (at : node_at g k ≡ Some x) where
  made_of : (id : PackageId) (w : WorldId) (world : World) → Some id ≡ x.of → ContainsPackage g id → ((p : Packaged) → package_of g id ≡ Some p → w ≡ p.ty)
      → slice_get g.types.worlds w.index ≡ Some world → package_imports g (instantiated g k) ≡ world.imports
  made_of id w world of there own found = by (package_of g id) refl there
    where
      by : (o : Option Packaged) → package_of g id ≡ o → IsSome o → package_imports g (instantiated g k) ≡ world.imports
      by None e h = absurd (cc h)
      by (Some p) e h =
          let made : instantiated g k ≡ Some p = ap (package_made g) at ∙ ap (package_if g) (sym of) ∙ e in
          ap (package_imports g) made ∙ ap (λ (v : WorldId). imports_in_world (slice_get g.types.worlds v.index)) (sym (own p e)) ∙ ap imports_in_world found

  pub instance_tested : (id : PackageId) (w : WorldId) (world : World) (r : Result ⊤ Refusal) → IsGraph g → Some id ≡ x.of → ((p : Packaged) → package_of g id ≡ Some p → w ≡ p.ty)
      → slice_get g.types.worlds w.index ≡ Some world → IsTold (all_pass (filled_test t g k) world.imports) r → IsTold (instance_test t g k) r
  instance_tested id w world r is of own found h =
      subst (λ (es : List (Name × ItemKind)). IsTold (all_pass (filled_test t g k) es) r) (sym (made_of id w world of (node_package g k x id is at (sym of)) own found)) h

  pub instance_none : None ≡ x.of → IsHeld Passed (instance_test t g k) tt
  instance_none of =
      let made : instantiated g k ≡ None = ap (package_made g) at ∙ ap (package_if g) (sym of) in
      subst (λ (es : List (Name × ItemKind)). IsHeld Passed (all_pass (filled_test t g k) es) tt) (sym (ap (package_imports g) made)) tt

-- ---- exports

module _ (t : Target) (g : Graph) (spans : List (ℕ × Span)) (n : Name) (k : ItemKind) where
  pub export_found : (node : ℕ) (i j : ItemKind) (s : Option Span) (r : Result ⊤ Refusal) → Some node ≡ value_at g.exports n → IsOfKind g node (λ x. x ≡ i) → IsAcyclic g.types → Stands g.types k
      → j ≡ promoted k → s ≡ last_noted spans node → IsTold (fitting SubtypeCheck.Covariant (stated_of g.types i) (stated_of g.types j) (TargetMismatch ExternKind.Export n t.path.now.string.now) s) r → IsTold (export_test t g spans (n, k)) r
  export_found node i j s r is own a stands to found h =
      let same : stated_of g.types j ≡ promote (stated_of g.types k) = ap (stated_of g.types) to ∙ promote_stated k g.types a stands in
      let f = TargetMismatch ExternKind.Export n t.path.now.string.now in
      subst (λ (o : Option ℕ). IsTold (export_at t g spans (n, k) o) r) is
      (subst (λ (p : Option Span). IsTold (fitting SubtypeCheck.Covariant (node_item g node) (promote (stated_of g.types k)) f p) r) found
      (subst (λ (y : Stated). IsTold (fitting SubtypeCheck.Covariant (node_item g node) y f s) r) same
      (subst (λ (y : Stated). IsTold (fitting SubtypeCheck.Covariant y (stated_of g.types j) f s) r) (sym (node_item_is g node i own)) h)))

  pub export_missing : (e : Refusal) (word : Name) → None ≡ value_at g.exports n → word ≡ desc (stated_of g.types k) → Refuses e (lacks_export t n word) t.path.now.span → IsRefusal (export_test t g spans (n, k)) e
  export_missing e word is so h =
      subst (λ (o : Option ℕ). IsRefusal (export_at t g spans (n, k) o) e) is
      (subst (λ (m : Name). Refuses e (lacks_export t n m) t.path.now.span) so h)

-- ---- all that is noted is all

module _ {g : Graph} {given : Gives} {is ms : List (ℕ × Span)} (all : AreAllNoted g is ms) where
  pub noted_statements : AreStatementsMet g given is → (k : ℕ) → IsStatementMet g given k
  noted_statements met k n i = met k (all.imports k n i) n i

  pub noted_instances : AreInstancesMet g given ms → (k : ℕ) → IsInstanceMet g given k
  noted_instances met k n item o = met k (all.instances k (subst IsSome (sym o.is.is) refl)) n item o
