-- What expressions stand on, while the graph grows.
use Rattle.std.proofs.Common.{◌≡◌, ℕ, suc, List, [], ◌∷◌, ◌++◌, length, Bool, true, false, cond, Option, Some, None, IsSome, Result, Ok, Err, refl, sym, ap, subst, ◌∙◌}
use Rattle.std.specs.Prelude.{⊤, find, not, slice_get}
use Rattle.wac_types_base.specs.declared.item.ItemKind.{ItemKind}
use Rattle.wac_types_base.specs.declared.ids.WorldId.{WorldId}
use Rattle.wac_types_base.specs.Record.{Collection}
use Rattle.wac_types_base.specs.Collection.{Stands}
use Rattle.wac_types_base.specs.Entries.{Name, has_name, names_of}
use Rattle.wac_types_base.specs.Stated.{Stated, imports_of, instance_type, stated_of}
use Rattle.wac_types_names.specs.Keys.{Key, same_key}
use Rattle.wac_graph_core.specs.declared.package.Place.{Place}
use Rattle.wac_graph_core.specs.declared.ids.PackageId.{PackageId}
use Rattle.wac_graph_core.specs.Graph.{Graph, IsGraph}
use Rattle.wac_parser_tree.specs.Trees as t
use Rattle.wac_parser_tree.specs.Trees.{Span}
use Rattle.wac_parser_refusals.specs.declared.refusal.Refusal.{Refusal}
use Rattle.wac_parser_refusals.specs.Causes.{Answer, Fault, UnknownPackage, ◌>>=◌, ◌>>◌, present, pure, unless_clear}
use Rattle.wac_parser_refusals.specs.Outcomes.{IsHeld, IsOutcome, IsRefusal, Refuses}
use Rattle.wac_parser_refusals.proofs.Outcomes.{memory_refusal}
use Rattle.wac_parser_declare.specs.Packages.{Content, SamePackages, world_if}
use Rattle.wac_parser_declare.specs.Scope.{package_under}
use Rattle.wac_parser_resolve.specs.declared.board.Board.{Board}
use Rattle.wac_parser_resolve.specs.declared.packages.GraphTypes.{GraphTypes}
use Rattle.wac_parser_resolve.specs.declared.root.Root.{Root}
use Rattle.wac_parser_resolve.specs.Ascribing.{Made, State, worlds_of}
use Rattle.wac_parser_resolve.specs.Denoting as stated
use Rattle.wac_parser_resolve.specs.Denoting.{key_named, none_missing, under_key, with_made}
use Rattle.wac_parser_resolve.specs.Holding.{HasItem, InTurn, IsMade, Says}
use Rattle.wac_parser_resolve.specs.InArguments.{imported_by}
use Rattle.wac_parser_resolve.specs.InInstances.{Denoting, HasPackage, IsOn, SaysMade, instances_of, known_under, makes, package_named}
use Rattle.wac_parser_resolve.specs.Keeping.{Keeps}
use Rattle.wac_parser_resolve.specs.Knowing.{IsPackage, all_known, handed_keys, handed_under, known_in, content_in}
use Rattle.wac_parser_resolve.specs.Later.{IsWithin, Later}
use Rattle.wac_parser_resolve.proofs.Alike.{Alike, outcome_with}
use Rattle.wac_parser_resolve.proofs.Knowing.{keys_back}
use Rattle.wac_parser_resolve.proofs.Nodes.{holds_stays}
use Rattle.wac_parser_resolve.proofs.Numbers.{slice_last}
use Rattle.wac_parser_resolve.proofs.SoundGraph.{keeps_inner}
use Rattle.wac_parser_resolve.proofs.Staying.{keeps_none, says_stay}
use Rattle.wac_parser_resolve.proofs.Turns.{names_more, turn_last}

-- ---- packages

known_there : (c d : Collection) (ps qs : List Place) → d ≡ c → qs ≡ ps → (k : Key) → content_in d qs k ≡ content_in c ps k
known_there c d ps qs p q k = cc (p, q)

pub known_within : (g h : GraphTypes) → IsWithin g.graph h.graph → h.packages ≡ g.packages → (k : Key) → known_in h k ≡ known_in g k
known_within g h within same k =
    let own = known_there g.graph.types h.graph.types g.graph.places h.graph.places within.types within.places k in
    let handed : handed_under h k ≡ handed_under g k = handed_by same in
    cc (own, handed)
  where
    handed_by : h.packages ≡ g.packages → handed_under h k ≡ handed_under g k
    handed_by e = ap (λ p. handed_under (record { graph = g.graph; packages = p }) k) e

keys_by : (g h : GraphTypes) → h.packages ≡ g.packages → handed_keys h ≡ handed_keys g
keys_by g h e = ap (λ p. handed_keys (record { graph = g.graph; packages = p })) e

-- the world of a package, among those of all
world_under : (ps : List (Key × Content)) (k : Key) → package_under (worlds_of ps) k ≡ world_if (package_under ps k)
world_under [] k = refl
world_under (p ∷ ps) k = by_test (same_key k p.0) (world_under ps k)
  where
    by_test : (b : Bool) → package_under (worlds_of ps) k ≡ world_if (package_under ps k) → cond b (Some p.1.world) (package_under (worlds_of ps) k) ≡ world_if (cond b (Some p.1) (package_under ps k))
    by_test true h = refl
    by_test false h = h

pub world_known : (ps : List (Key × Content)) (k : Key) (o : Option Content) → o ≡ package_under ps k → world_if o ≡ package_under (worlds_of ps) k
world_known ps k o e = ap world_if e ∙ sym (world_under ps k)

-- ---- boards

module _ (root : Root) (b c : Board) where
  -- where packages come in
  pub on_keeps : IsGraph b.types.graph → Keeps b.types.graph c.types.graph → SamePackages (all_known b.types) (all_known c.types) → c.instances ≡ b.instances → (s : State) → IsOn root b s → IsOn root c s
  on_keeps is keeps same noted s on = record {
    says = subst (λ xs. Says c.types.graph xs.noted.items root.nodes.now s) (sym noted)
        (says_stay b.types.graph c.types.graph (keeps_inner b.types.graph c.types.graph keeps).later (keeps_none b.types.graph c.types.graph is keeps) b.instances.noted.items root.nodes.now s on.says);
    known = λ k. same.same k ∙ on.known k;
    handed = keys_back b.types.graph c.types.graph (handed_keys b.types) (handed_keys c.types) same.rest ∙ on.handed;
    own = on.own;
  }

  -- where nodes and edges alone are new, by what is said then
  pub on_within : IsWithin b.types.graph c.types.graph → c.types.packages ≡ b.types.packages → (s q : State) → IsOn root b s → Alike s q → Says c.types.graph c.instances.noted.items root.nodes.now q → IsOn root c q
  on_within within same s q on alike says = record {
    says = says;
    known = λ k. known_within b.types c.types within same k ∙ on.known k ∙ ap (λ ps. package_under ps k) (sym alike.packages);
    handed = keys_by b.types c.types same ∙ on.handed ∙ ap (λ (ps : List (Key × Content)). names_of ps) (sym alike.packages);
    own = ap (λ (p : t.PackageName). p.name) alike.own ∙ on.own;
  }

-- ---- a new instance

turn_length : {A B : Type 0} (R : A → B → Type 0) (xs : List A) (ys : List B) → InTurn R xs ys → length ys ≡ length xs
turn_length R [] [] t = refl
turn_length R [] (y ∷ ys) t = absurd t
turn_length R (x ∷ xs) [] t = absurd t
turn_length R (x ∷ xs) (y ∷ ys) t = ap suc (turn_length R xs ys t.1)

names_length : {V : Type 0} (xs : List (ℕ × V)) → length (names_of xs) ≡ length xs
names_length [] = refl
names_length (x ∷ xs) = ap suc (names_length xs)

module _ (root : Root) (b c : Board) (within : IsWithin b.types.graph c.types.graph) (same : c.types.packages ≡ b.types.packages) (i : ℕ) (s : State) (m : Made) (on : IsOn root b s)
    (noted : c.instances.noted.items ≡ b.instances.noted.items ++ (i, m.span) ∷ []) (says : SaysMade c.types.graph b.instances.noted.items i root.nodes.now s m) where
  said : Says c.types.graph c.instances.noted.items root.nodes.now (makes s m)
  said = subst (λ xs. Says c.types.graph xs root.nodes.now (makes s m)) (sym noted) says

  in_last : IsMade c.types.graph (names_of (b.instances.noted.items ++ (i, m.span) ∷ [])) m (i, m.span)
  in_last = (turn_last (IsMade c.types.graph (names_of (b.instances.noted.items ++ (i, m.span) ∷ []))) s.made b.instances.noted.items m (i, m.span) says.made).1

  number : slice_get (instances_of c) (length s.made) ≡ Some i
  number =
      let long : length (names_of b.instances.noted.items) ≡ length s.made = names_length b.instances.noted.items ∙ turn_length _ s.made b.instances.noted.items on.says.made in
      ap (λ xs. slice_get (names_of xs) (length s.made)) noted ∙ ap (λ xs. slice_get xs (length s.made)) (names_more b.instances.noted.items (i, m.span))
      ∙ ap (slice_get (names_of b.instances.noted.items ++ i ∷ [])) (sym long) ∙ slice_last (names_of b.instances.noted.items) i

  pub made_on_board : HasItem c.types.graph i (instance_type m.world) → Denoting root c (with_made s m) i
  made_on_board item = record {
    on = on_within root b c within same s (makes s m) on (record { own = refl; packages = refl; root = refl; imports = refl; definitions = refl; exports = refl }) said;
    denotes = record { node = (number, subst IsSome (sym in_last.is) refl); item = item };
  }

-- ---- the imports of a world

pub imports_later : (g h : Graph) → Later g h → (w : WorldId) → Stands g.types (ItemKind.Component w) → imported_by h.types w ≡ imported_by g.types w
imports_later g h l w stands =
    let same = holds_stays g h l (stated_of g.types (ItemKind.Component w)) (ItemKind.Component w) (record { stands = stands; same = refl }) in
    ap (λ (t : Stated). names_of (imports_of t)) same.same

-- ---- the package of a `new`

-- it is known under its key
module _ (h : Graph) (k : Key) (f : Fault) (at : Span) where
  pub keyed_outcome : (o : Option Stated) (r : Result PackageId Refusal) → IsOutcome (IsPackage h k) (present o f at) r → IsOutcome (HasPackage h) (present o f at >>= λ w. pure (k, w)) r
  keyed_outcome (Some w) (Ok id) x = x
  keyed_outcome (Some w) (Err e) x = x
  keyed_outcome None (Ok id) x = x
  keyed_outcome None (Err e) x = x

-- what is known is what was said
pub package_said : (ps : List (Key × Content)) (g : GraphTypes) → ((k : Key) → known_in g k ≡ package_under ps k) → handed_keys g ≡ names_of ps → (p : t.PackageName) (track : Option Name)
    → package_named g p track ≡ (key_named (names_of ps) p track >>= under_key (worlds_of ps) p.span)
package_said ps g known keys p track = ap (λ (ks : List Key). key_named ks p track >>= known_under g p.span) keys ∙ by (key_named (names_of ps) p track)
  where
    by : (q : Answer Key) → (q >>= known_under g p.span) ≡ (q >>= under_key (worlds_of ps) p.span)
    by (Ok k) = ap (λ (o : Option Stated). present o (UnknownPackage k.0) p.span >>= λ w. pure (k, w)) (world_known ps k (known_in g k) (known k))
    by (Err c) = refl

-- it is not the document's own
module _ {A B : Type 0} (H K : A → B → Type 0) (f : Fault) (at : Span) (step : (a : A) (b : B) → H a b → K a b) where
  pub package_outcome : (b : Bool) (q p : Answer A) (r : Result B Refusal) → b ≡ false → q ≡ p → IsOutcome H q r → IsOutcome K (unless_clear b f at >> p) r
  package_outcome true q p r e s h = absurd (cc e)
  package_outcome false q p r e s h = subst (λ (x : Answer A). IsOutcome K x r) s (outcome_with H K q r (λ a b e. step a b) h)

pub own_refused : {A : Type 0} (f : Fault) (at : Span) (q : Answer A) (b : Bool) (e : Refusal) → b ≡ true → Refuses e f at → IsRefusal (unless_clear b f at >> q) e
own_refused f at q true e is r = r
own_refused f at q false e is r = absurd (cc is)

-- ---- the end of a new instance

pub completed : (b : Bool) (p : t.PackageName) (gs : List stated.Given) (ns : List Name) (r : Result ⊤ Refusal) → b ≡ false → IsOutcome (λ (u v : ⊤). Unit {0}) (none_missing p (find (λ n. not (has_name (stated.given_names gs) n)) ns)) r
    → IsOutcome (λ (u v : ⊤). Unit {0}) (stated.complete b p gs ns) r
completed true p gs ns r e h = absurd (cc e)
completed false p gs ns r e h = h

pub filled_held : (b : Bool) (p : t.PackageName) (gs : List stated.Given) (ns : List Name) → b ≡ true → IsHeld (λ (u v : ⊤). Unit {0}) (stated.complete b p gs ns) (tt {0})
filled_held true p gs ns e = tt
filled_held false p gs ns e = absurd (cc e)

module _ {A B : Type 0} where
  pub finished_held : (H : A → B → Type 0) (q r : Answer ⊤) (a : A) (b : B) → q ≡ Ok tt → r ≡ Ok tt → H a b → IsHeld H (q >> (r >> pure a)) b
  finished_held H (Ok u) (Ok v) a b e f h = h
  finished_held H (Ok u) (Err c) a b e f h = absurd (cc f)
  finished_held H (Err c) r a b e f h = absurd (cc e)

module _ {A : Type 0} where
  pub first_refused : (q : Answer ⊤) (r : Answer A) (e : Refusal) → IsRefusal q e → IsRefusal (q >> r) e
  first_refused (Ok u) r e m = memory_refusal r e m
  first_refused (Err c) r e m = m

  pub second_refused : (q r : Answer ⊤) (s : Answer A) (e : Refusal) → q ≡ Ok tt → IsRefusal r e → IsRefusal (q >> (r >> s)) e
  second_refused (Ok u) r s e f m = first_refused r s e m
  second_refused (Err c) r s e f m = absurd (cc f)
