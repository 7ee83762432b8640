-- What is known of packages, while a collection grows and packages are registered.
use Rattle.std.proofs.Common.{◌≡◌, ℕ, zero, suc, Bool, true, false, cond, List, [], ◌∷◌, ◌++◌, Option, Some, None, IsSome, Result, Ok, Err, IfOk, OnErr, OnOk, slice_get, slice_set, refl, sym, ap, subst, ◌∙◌}
use Rattle.std.specs.FinMap as map
use Rattle.std.specs.Option.{option_or}
use Rattle.wac_types_base.specs.declared.item.ItemKind.{ItemKind}
use Rattle.wac_types_base.specs.declared.ids.WorldId.{WorldId}
use Rattle.wac_types_base.specs.Record.{Collection}
use Rattle.wac_types_base.specs.Collection.{Grows, Stands, empty}
use Rattle.wac_types_base.specs.Entries.{Name}
use Rattle.wac_types_base.proofs.GraphLemmas.{value_of}
use Rattle.wac_types_base.specs.Stated.{Stated, stated_of}
use Rattle.wac_types_base.proofs.Stating.{stated_kept}
use Rattle.wac_types_names.specs.Packaged.{Packaged}
use Rattle.wac_types_names.specs.Keys.{Key, package_key, same_key}
use Rattle.wac_types_names.proofs.KeyTests.{key_same, key_refl}
use Rattle.wac_graph_core.specs.declared.ids.PackageId.{PackageId}
use Rattle.wac_graph_core.specs.declared.package.Place.{Place}
use Rattle.wac_graph_core.specs.declared.edge.Edge.{Edge}
use Rattle.wac_graph_core.specs.Nodes.{NodeData}
use Rattle.wac_graph_core.specs.NodeMaps.{NodeMap}
use Rattle.wac_graph_core.specs.Graph.{Graph, IsGraph, instantiated, node_at, package_if, package_in, package_made, package_of}
use Rattle.wac_graph_core.specs.Packages.{NoKey, PutsPlace, put_last, put_free, Registers, held_place}
use Rattle.wac_graph_core.specs.Types.{Enlarges}
use Rattle.wac_graph_core.proofs.PlaceSteps.{Held, held_in, in_held}
use Rattle.wac_parser_tree.specs.Trees.{Span}
use Rattle.wac_parser_refusals.specs.declared.refusal.Refusal.{Refusal}
use Rattle.wac_parser_refusals.specs.Causes.{Fault, present}
use Rattle.wac_parser_refusals.specs.Outcomes.{IsHeld, IsRefusal, Refuses}
use Rattle.wac_parser_declare.specs.Packages.{Content, SamePackages}
use Rattle.wac_parser_resolve.specs.declared.packages.GraphTypes.{GraphTypes}
use Rattle.wac_parser_resolve.specs.Knowing.{Gets, IsPackage, SameContents, all_known, coded_rest, content_of, handed_keys, handed_under, held_under, known_of, wiring_of, content_in, node_rest}
use Rattle.wac_parser_resolve.specs.Keeping.{Keeps}
use Rattle.wac_parser_resolve.proofs.Keeping.{Keeps-enlarged, keeping, put_there}

-- ---- places

-- a place holds a package of the key, which has this
pub record IsFound (c : Collection) (k : Key) (ps : List Place) (w : Content) : Type 0 where
  pub at : ℕ
  pub place : Place
  pub there : slice_get ps at ≡ Some place
  pub held : Packaged
  pub is : place.held ≡ Some held
  pub key : same_key k (package_key held) ≡ true
  pub world : content_of c held ≡ w

module _ (c : Collection) (k : Key) where
  further : (p : Place) (ps : List Place) (w : Content) → IsFound c k ps w → IsFound c k (p ∷ ps) w
  further p ps w f = record { at = suc f.at; place = f.place; there = f.there; held = f.held; is = f.is; key = f.key; world = f.world }

  keyed_found : (p : Place) (ps : List Place) (w : Content) → (content_in c ps k ≡ Some w → IsFound c k ps w) → (q : Packaged) (b : Bool) → p.held ≡ Some q → same_key k (package_key q) ≡ b
      → option_or (cond b (Some (content_of c q)) None) (content_in c ps k) ≡ Some w → IsFound c k (p ∷ ps) w
  keyed_found p ps w rest q true is key e = let same : content_of c q ≡ w = cc e in record { at = zero; place = p; there = refl; held = q; is = is; key = key; world = same }
  keyed_found p ps w rest q false is key e = further p ps w (rest e)

  held_found : (p : Place) (ps : List Place) (w : Content) → (content_in c ps k ≡ Some w → IsFound c k ps w) → (o : Option Packaged) → p.held ≡ o → option_or (held_under c k o) (content_in c ps k) ≡ Some w → IsFound c k (p ∷ ps) w
  held_found p ps w rest None is e = further p ps w (rest e)
  held_found p ps w rest (Some q) is e = keyed_found p ps w rest q (same_key k (package_key q)) is refl e

  pub world_found : (ps : List Place) (w : Content) → content_in c ps k ≡ Some w → IsFound c k ps w
  world_found [] w e = absurd (cc e)
  world_found (p ∷ ps) w e = held_found p ps w (world_found ps w) p.held refl e

  neither : (o p : Option Content) → option_or o p ≡ None → p ≡ None
  neither None p e = e
  neither (Some w) p e = absurd (cc e)

  pub no_world : (ps : List Place) (i : ℕ) (p : Place) (q : Packaged) → content_in c ps k ≡ None → slice_get ps i ≡ Some p → p.held ≡ Some q → same_key k (package_key q) ≡ true → ⊥
  no_world [] i p q e at is key = cc at
  no_world (x ∷ ps) zero p q e at is key =
      let same : x ≡ p = cc at in
      let held : x.held ≡ Some q = ap (λ (y : Place). y.held) same ∙ is in
      let chosen : option_or (cond true (Some (content_of c q)) None) (content_in c ps k) ≡ None =
      subst (λ (b : Bool). option_or (cond b (Some (content_of c q)) None) (content_in c ps k) ≡ None) key
      (subst (λ (o : Option Packaged). option_or (held_under c k o) (content_in c ps k) ≡ None) held e) in
      cc chosen
  no_world (x ∷ ps) (suc i) p q e at is key = no_world ps i p q (neither (held_under c k x.held) (content_in c ps k) e) at is key

  -- one more package, in the last place or in an empty one
  pub world_last : (ps : List Place) (p : Place) → content_in c (ps ++ p ∷ []) k ≡ option_or (content_in c ps k) (held_under c k p.held)
  world_last [] p = none_behind (held_under c k p.held)
    where
      none_behind : (o : Option Content) → option_or o None ≡ o
      none_behind None = refl
      none_behind (Some w) = refl
  world_last (x ∷ ps) p = ap (option_or (held_under c k x.held)) (world_last ps p) ∙ grouped (held_under c k x.held)
    where
      grouped : (o : Option Content) → option_or o (option_or (content_in c ps k) (held_under c k p.held)) ≡ option_or (option_or o (content_in c ps k)) (held_under c k p.held)
      grouped None = refl
      grouped (Some w) = refl

  pub world_set_other : (ps : List Place) (i : ℕ) (x p : Place) → slice_get ps i ≡ Some x → x.held ≡ None → held_under c k p.held ≡ None → content_in c (slice_set ps i p) k ≡ content_in c ps k
  world_set_other [] i x p at empty none = absurd (cc at)
  world_set_other (y ∷ ps) zero x p at empty none =
      let same : y ≡ x = cc at in
      ap (λ (o : Option Content). option_or o (content_in c ps k)) none ∙ sym (ap (λ (o : Option Packaged). option_or (held_under c k o) (content_in c ps k)) (ap (λ (z : Place). z.held) same ∙ empty))
  world_set_other (y ∷ ps) (suc i) x p at empty none = ap (option_or (held_under c k y.held)) (world_set_other ps i x p at empty none)

  pub world_set : (ps : List Place) (i : ℕ) (x p : Place) (w : Content) → slice_get ps i ≡ Some x → content_in c ps k ≡ None → held_under c k p.held ≡ Some w → content_in c (slice_set ps i p) k ≡ Some w
  world_set [] i x p w at none some = absurd (cc at)
  world_set (y ∷ ps) zero x p w at none some = ap (λ (o : Option Content). option_or o (content_in c ps k)) some
  world_set (y ∷ ps) (suc i) x p w at none some = passed (held_under c k y.held) none (world_set ps i x p w at (neither (held_under c k y.held) (content_in c ps k) none) some)
    where
      passed : (o : Option Content) → option_or o (content_in c ps k) ≡ None → content_in c (slice_set ps i p) k ≡ Some w → option_or o (content_in c (slice_set ps i p) k) ≡ Some w
      passed None h rest = rest
      passed (Some v) h rest = absurd (cc h)

-- over a collection that grew
pub content_kept : (c d : Collection) → Grows c d → (p : Packaged) → Stands c (ItemKind.Component p.ty) → content_of d p ≡ content_of c p
content_kept c d g p s = ap (λ (w : Stated). record { world = w; bytes = p.bytes }) (stated_kept c d g (ItemKind.Component p.ty) s)

-- the same places over a collection that grew
pub world_kept : (c d : Collection) → Grows c d → (ps : List Place) → ((i : ℕ) (p : Place) (q : Packaged) → slice_get ps i ≡ Some p → p.held ≡ Some q → Stands c (ItemKind.Component q.ty)) → (k : Key) → content_in d ps k ≡ content_in c ps k
world_kept c d g [] s k = refl
world_kept c d g (p ∷ ps) s k =
    ap (λ (o : Option Content). option_or o (content_in d ps k)) (here p.held refl) ∙ ap (option_or (held_under c k p.held)) (world_kept c d g ps (λ i x q at is. s (suc i) x q at is) k)
  where
    here : (o : Option Packaged) → p.held ≡ o → held_under d k o ≡ held_under c k o
    here None is = refl
    here (Some q) is = ap (λ (t : Content). cond (same_key k (package_key q)) (Some t) None) (content_kept c d g q (s zero p q refl is))

-- ---- graphs

-- what a place holds, under its id
abbrev pub id_at : ℕ → Place → PackageId
id_at i p = record { place = i; generation = p.generation }

pub package_at : (ps : List Place) (i : ℕ) (p : Place) (q : Packaged) → slice_get ps i ≡ Some p → p.held ≡ Some q → package_in ps (id_at i p) ≡ Some q
package_at ps i p q at is = in_held ps (id_at i p) q (record { place = p; there = at; now = refl; held = is })

pub held_worlds : (g : Graph) → IsGraph g → (i : ℕ) (p : Place) (q : Packaged) → slice_get g.places i ≡ Some p → p.held ≡ Some q → Stands g.types (ItemKind.Component q.ty)
held_worlds g s i p q at is = (s.packages.stand (id_at i p) q (package_at g.places i p q at is)).world

pub known_enlarged : (g h : Graph) → IsGraph g → Enlarges g h → SameContents (known_of g) (known_of h)
known_enlarged g h s e = record {
  same = λ k. ap (λ (ps : List Place). content_in h.types ps k) (ap (λ (x : Graph). x.places) e.same) ∙ world_kept g.types h.types e.grows g.places (held_worlds g s) k;
}

-- the package of an id is the one that is known of its key
pub known_package : (g : Graph) → IsGraph g → (id : PackageId) (p : Packaged) (k : Key) → package_of g id ≡ Some p → package_key p ≡ k → known_of g k ≡ Some (content_of g.types p)
known_package g s id p k at key = found (known_of g k) refl
  where
    h : Held g.places id p
    h = held_in g.places id p at

    keyed : same_key k (package_key p) ≡ true
    keyed = subst (λ (x : Key). same_key x (package_key p) ≡ true) key (key_refl (package_key p))

    found : (o : Option Content) → known_of g k ≡ o → o ≡ Some (content_of g.types p)
    found None is = absurd (no_world g.types k g.places id.place h.place p is h.there h.held keyed)
    found (Some w) is =
        let f = world_found g.types k g.places w is in
        let there = package_at g.places f.at f.place f.held f.there f.is in
        let one : id_at f.at f.place ≡ id = s.packages.once (id_at f.at f.place) id f.held p there at (sym (key_same k (package_key f.held) f.key) ∙ sym key) in
        let same : Some f.held ≡ Some p = sym there ∙ ap (package_in g.places) one ∙ at in
        let held : f.held ≡ p = cc same in
        ap Some (sym f.world ∙ ap (λ (q : Packaged). content_of g.types q) held)

-- a key that no package has
pub unknown_key : (g : Graph) (k : Key) → NoKey g k → known_of g k ≡ None
unknown_key g k none = found (known_of g k) refl
  where
    found : (o : Option Content) → known_of g k ≡ o → o ≡ None
    found None is = refl
    found (Some w) is =
        let f = world_found g.types k g.places w is in
        absurd (none (id_at f.at f.place) f.held (package_at g.places f.at f.place f.held f.there f.is) (sym (key_same k (package_key f.held) f.key)))

-- a package that is registered
pub known_registered : (g h : Graph) (p : Packaged) (id : PackageId) → Registers g h p id → Gets g h (package_key p) (content_of h.types p)
known_registered g h p id r =
    let types : h.types ≡ g.types = ap (λ (x : Graph). x.types) r.made in
    let own : held_under g.types (package_key p) (Some p) ≡ Some (content_of g.types p) =
    ap (λ (b : Bool). cond b (Some (content_of g.types p)) None) (key_refl (package_key p)) in
    record {
      own = subst (λ (c : Collection). content_in c h.places (package_key p) ≡ Some (content_of c p)) (sym types)
          (put_own h.places r.put (unknown_key g (package_key p) r.none) own);
      others = λ k apart. ap (λ (c : Collection). content_in c h.places k) types
          ∙ put_other h.places r.put k (ap (λ (b : Bool). cond b (Some (content_of g.types p)) None) apart);
    }
  where
    put_own : (qs : List Place) → PutsPlace g.places id p qs → content_in g.types g.places (package_key p) ≡ None → held_under g.types (package_key p) (Some p) ≡ Some (content_of g.types p)
        → content_in g.types qs (package_key p) ≡ Some (content_of g.types p)
    put_own qs (put_last n) none own =
        world_last g.types (package_key p) g.places (held_place 0 p) ∙ ap (λ (o : Option Content). option_or o (held_under g.types (package_key p) (Some p))) none ∙ own
    put_own qs (put_free f) none own = world_set g.types (package_key p) g.places id.place f.place (held_place id.generation p) (content_of g.types p) f.there none own

    put_other : (qs : List Place) → PutsPlace g.places id p qs → (k : Key) → held_under g.types k (Some p) ≡ None → content_in g.types qs k ≡ content_in g.types g.places k
    put_other qs (put_last n) k none =
        world_last g.types k g.places (held_place 0 p) ∙ ap (option_or (content_in g.types g.places k)) none ∙ none_behind (content_in g.types g.places k)
      where
        none_behind : (o : Option Content) → option_or o None ≡ o
        none_behind None = refl
        none_behind (Some w) = refl
    put_other qs (put_free f) k none = world_set_other g.types k g.places id.place f.place (held_place id.generation p) f.there f.free.empty none

-- ---- what is beside types and packages

pair_same : {A B : Type 0} {a c : A} {b d : B} → a ≡ c → b ≡ d → ◌≡◌ {A = A × B} (a, b) (c, d)
pair_same p q = cc (p, q)

module _ (g h : Graph) (s : IsGraph g) (keeps : Keeps g h) where
  package_same : (x : NodeData) (o : Option PackageId) → x.of ≡ o → ((id : PackageId) → x.of ≡ Some id → IsSome (package_of g id)) → package_if h o ≡ package_if g o
  package_same x None of is = refl
  package_same x (Some id) of is = let p = value_of (package_of g id) (is id of) in keeps.packages id p.0 p.1 ∙ sym p.1

  made_same : (k : ℕ) (o : Option NodeData) → node_at g k ≡ o → package_made h o ≡ package_made g o
  made_same k None at = refl
  made_same k (Some x) at = package_same x x.of refl (s.nodes k x at).of

  wiring_same : wiring_of h ≡ wiring_of g
  wiring_same =
      ap (λ (p : NodeMap × (List Edge × List (Name × ℕ))). record { types = empty 0; nodes = p.0; edges = p.1.0; exports = p.1.1; places = [] })
      (pair_same keeps.nodes (pair_same keeps.edges keeps.exports))

  pub instances_kept : (k : ℕ) → instantiated h k ≡ instantiated g k
  instances_kept k = ap (λ m. package_made h (map.get m k)) keeps.nodes ∙ made_same k (node_at g k) refl

  pub beside_kept : (ks : List Key) (k : ℕ) → node_rest h ks k ≡ node_rest g ks k
  beside_kept ks k = ap coded_rest.code (pair_same wiring_same (pair_same (instances_kept k) refl))

-- and back
module _ (g h : Graph) (js ks : List Key) (same : (k : ℕ) → node_rest h ks k ≡ node_rest g js k) where
  all_back : (k : ℕ) → ◌≡◌ {A = Graph × (Option Packaged × List Key)} (wiring_of h, (instantiated h k, ks)) (wiring_of g, (instantiated g k, js))
  all_back k = coded_rest.inj (wiring_of h, (instantiated h k, ks)) (wiring_of g, (instantiated g k, js)) (same k)

  wiring_back : wiring_of h ≡ wiring_of g
  wiring_back = ap (λ (p : Graph × (Option Packaged × List Key)). p.0) (all_back 0)

  pub keys_back : ks ≡ js
  keys_back = ap (λ (p : Graph × (Option Packaged × List Key)). p.1.1) (all_back 0)

  pub nodes_back : h.nodes ≡ g.nodes
  nodes_back = ap (λ (x : Graph). x.nodes) wiring_back

  pub edges_back : h.edges ≡ g.edges
  edges_back = ap (λ (x : Graph). x.edges) wiring_back

  pub exports_back : h.exports ≡ g.exports
  exports_back = ap (λ (x : Graph). x.exports) wiring_back

  pub instances_back : (k : ℕ) → instantiated h k ≡ instantiated g k
  instances_back k = ap (λ (p : Graph × (Option Packaged × List Key)). p.1.0) (all_back k)

-- what a graph and the packages handed in know, over a collection that grew
pub known_grown : (g : GraphTypes) (h : Graph) → IsGraph g.graph → Enlarges g.graph h → SamePackages (all_known g) (all_known (record { graph = h; packages = g.packages }))
known_grown g h s e = record {
  same = λ k. ap (λ (o : Option Content). option_or o (handed_under g k)) ((known_enlarged g.graph h s e).same k);
  rest = beside_kept g.graph h s (Keeps-enlarged g.graph h e) (handed_keys g);
}

-- where no package is new
pub known_same : (g : GraphTypes) (h : Graph) → IsGraph g.graph → Keeps g.graph h → SameContents (known_of g.graph) (known_of h) → SamePackages (all_known g) (all_known (record { graph = h; packages = g.packages }))
known_same g h s keeps same = record { same = λ k. ap (λ (o : Option Content). option_or o (handed_under g k)) (same.same k); rest = beside_kept g.graph h s keeps (handed_keys g) }

pub worlds_trans : (f g h : Key → Option Content) → SameContents f g → SameContents g h → SameContents f h
worlds_trans f g h p q = record { same = λ k. q.same k ∙ p.same k }

-- ---- a package of a key

pub ok_gives : {T E P : Type 0} {Q : T → Type 0} (r : Result T E) → IfOk r Q → ((x : T) → Q x → P) → OnOk r P
ok_gives (Ok x) q f = f x q
ok_gives (Err e) q f = tt

pub err_gives : {T E P Q : Type 0} (r : Result T E) → OnErr r Q → (Q → P) → OnErr r P
err_gives (Ok x) q f = tt
err_gives (Err e) q f = f q

module _ (g h i j : Graph) (p : Packaged) (world : WorldId) (k : Key) (w : Stated) (s : IsGraph g) (t : IsGraph h) (first : Enlarges g h) (then : Enlarges h i) (stands : Stands h.types (ItemKind.Component world))
    (copied : stated_of h.types (ItemKind.Component world) ≡ w) (of : p.ty ≡ world) (keyed : package_key p ≡ k) (bs : List ℕ) (same : p.bytes ≡ bs) (id : PackageId) (reg : Registers i j p id) where
  types_same : j.types ≡ i.types
  types_same = ap (λ (x : Graph). x.types) reg.made

  world_is : stated_of j.types (ItemKind.Component p.ty) ≡ w
  world_is =
      ap (λ (c : Collection). stated_of c (ItemKind.Component p.ty)) types_same ∙ ap (λ (x : WorldId). stated_of i.types (ItemKind.Component x)) of
      ∙ stated_kept h.types i.types then.grows (ItemKind.Component world) stands ∙ copied

  pub package_registered : IsPackage j k w id
  package_registered = record { held = p; there = put_there i.places j.places id p reg.put; key = keyed; world = world_is }

  abbrev content : Content
  content = record { world = w; bytes = bs }

  content_is : content_of j.types p ≡ content
  content_is = λ i. record { world = world_is i; bytes = same i }

  pub gets_registered : Gets g j k content
  gets_registered =
      let got = known_registered i j p id reg in
      let one = known_enlarged g h s first in
      let two = known_enlarged h i t then in
      record {
        own = ap (known_of j) (sym keyed) ∙ got.own ∙ ap Some content_is;
        others = λ l apart. got.others l (ap (same_key l) keyed ∙ apart) ∙ two.same l ∙ one.same l;
      }

-- packages are known as before where a package that was handed in was registered
pub known_more : (g : GraphTypes) (h : Graph) (k : Key) (w : Content) → IsGraph g.graph → Keeps g.graph h → Gets g.graph h k w → known_of g.graph k ≡ None → handed_under g k ≡ Some w
    → SamePackages (all_known g) (all_known (record { graph = h; packages = g.packages }))
known_more g h k w s keeps gets none handed = record { same = λ l. tested l (same_key l k) refl; rest = beside_kept g.graph h s keeps (handed_keys g) }
  where
    tested : (l : Key) (b : Bool) → same_key l k ≡ b → option_or (known_of h l) (handed_under g l) ≡ option_or (known_of g.graph l) (handed_under g l)
    tested l false apart = ap (λ (o : Option Content). option_or o (handed_under g l)) (gets.others l apart)
    tested l true same =
        let now : option_or (known_of h k) (handed_under g k) ≡ Some w = ap (λ (o : Option Content). option_or o (handed_under g k)) gets.own in
        let before : option_or (known_of g.graph k) (handed_under g k) ≡ Some w = ap (λ (o : Option Content). option_or o (handed_under g k)) none ∙ handed in
        subst (λ (x : Key). option_or (known_of h x) (handed_under g x) ≡ option_or (known_of g.graph x) (handed_under g x)) (sym (key_same l k same)) (now ∙ sym before)

module _ (f : Fault) (s : Span) where
  pub known_held : {B : Type 0} (h : Stated → B → Type 0) (o : Option Stated) (w : Stated) (b : B) → o ≡ Some w → h w b → IsHeld h (present o f s) b
  known_held h o w b is x = subst (λ (p : Option Stated). IsHeld h (present p f s) b) (sym is) x

  pub unknown_refused : (o : Option Stated) (e : Refusal) → o ≡ None → Refuses e f s → IsRefusal (present o f s) e
  unknown_refused o e is r = subst (λ (p : Option Stated). IsRefusal (present p f s) e) (sym is) r

pub ruleset knowing = (keeping, known_grown, known_enlarged)
