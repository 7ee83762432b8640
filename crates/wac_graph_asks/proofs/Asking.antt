-- Asks, packages and definitions that are added one after another, in a collection that grows.
use Rattle.std.specs.List.{flat_map, list_any}
use Rattle.std.specs.Map.{keys_of}
use Rattle.std.proofs.Common.{◌≡◌, ℕ, true, false, List, [], ◌∷◌, ◌++◌, map, Option, Some, None, refl, sym, ap, subst, ◌∙◌, inl, inr, append_assoc, if◌then◌else◌}
use Rattle.std.proofs.lemmas.List.{map-append, append-nil}
use Rattle.std.proofs.lemmas.List.Sums.{fold-append}
use Rattle.std.proofs.lemmas.Grind.{flat_map-append}
use Rattle.std.specs.declared.alloc.Global.{Global}
use Rattle.std.specs.declared.vec.Vec.{Vec}
use Rattle.wac_types_base.specs.declared.ids.WorldId.{WorldId}
use Rattle.wac_types_base.specs.declared.item.ItemKind.{ItemKind}
use Rattle.wac_types_base.specs.declared.item.«Type».{«Type» as TypeKind}
use Rattle.wac_types_base.specs.Record.{Collection}
use Rattle.wac_types_base.specs.Graph.{Among}
use Rattle.wac_types_base.specs.Collection.{Stands, Grows}
use Rattle.wac_types_base.specs.Stated.{Stated}
use Rattle.wac_types_base.proofs.Adding.{Grows-refl, Grows-trans}
use Rattle.wac_types_base.proofs.Copying.{IsCopy-kept}
use Rattle.wac_types_base.proofs.Stating.{stated_kept}
use Rattle.wac_graph_core.specs.declared.ids.PackageId.{PackageId}
use Rattle.wac_graph_core.specs.contracts.ids.PackageIdPartialEq.TheImpl.{eq-value}
use Rattle.wac_graph_core.specs.Graph.{Graph}
use Rattle.wac_composition.specs.Composition.{Placed}
use Rattle.wac_composition.specs.Asks.{Ask}
use Rattle.wac_composition.proofs.Clashing.{among_append}
use Rattle.wac_graph_asks.specs.declared.asks.Ask.{Ask as HeldAsk}
use Rattle.wac_graph_asks.specs.declared.asks.Definition.{Definition}
use Rattle.wac_graph_asks.specs.declared.asks.Asked.{Asked}
use Rattle.wac_graph_asks.specs.AsksIn.{asking_of, ask_in, asks_in}
use Rattle.wac_graph_asks.specs.Asked.{with_id, with_ids, IsWorldOf, placed_in, HasCopy, IsHeld, KeepsAsked, Adds}

-- ---- in a collection that has grown

abbrev ask_of : HeldAsk → Stated → Ask ℕ
ask_of a x = record { asking = asking_of a.asking; by = a.by; name = a.name; item = x }

pub asks_kept : (c d : Collection) → Grows c d → (asks : List HeldAsk) → ((a : HeldAsk) → Among a asks → Stands c a.item) → asks_in d asks ≡ asks_in c asks
asks_kept c d grows [] s = refl
asks_kept c d grows (a ∷ asks) s =
    ap (λ x. ask_of a x ∷ asks_in d asks) (stated_kept c d grows a.item (s a (inl refl))) ∙ ap (λ l. ask_in c a ∷ l) (asks_kept c d grows asks (λ b m. s b (inr m)))

pub copy_kept : (c d e : Collection) → Grows d e → (t : TypeKind) (o : Option ItemKind) → HasCopy c d t o → HasCopy c e t o
copy_kept c d e grows t (Some k) h = (h.0, IsCopy-kept c d e (ItemKind.Ty t) k grows h.1, h.2)
copy_kept c d e grows t None h = h

module _ (g : Graph) where
  pub world_kept : (c d : Collection) → Grows c d → (id : PackageId) (w : WorldId) → IsWorldOf g c id w → IsWorldOf g d id w
  world_kept c d grows id w h = record { held = h.held; is = h.is; copy = IsCopy-kept g.types c d (ItemKind.Component h.held.ty) (ItemKind.Component w) grows h.copy }

  -- once types are added
  pub held_kept : (a b : Asked) → IsHeld g a → KeepsAsked a b → IsHeld g b
  held_kept a b h keeps = record {
    acyclic = keeps.grows.acyclic;
    items = λ x m. keeps.grows.stand x.item (h.items x (subst (λ (v : Vec HeldAsk Global). Among x v.items) keeps.asks m));
    worlds = λ id w m. world_kept a.types b.types keeps.grows id w (h.worlds id w (subst (λ l. Among (id, w) l) (ap (λ p. p.entries) keeps.packages) m));
    copies = λ d m. copy_kept g.types a.types b.types keeps.grows d.ty d.copy (h.copies d (subst (λ (v : Vec Definition Global). Among d v.items) keeps.definitions m));
  }

  -- ---- one step

  pub adds_nothing : (a : Asked) → IsHeld g a → Adds g a a [] [] []
  adds_nothing a h = record {
    held = h;
    grows = Grows-refl a.types h.acyclic;
    asked = sym (append-nil (asks_in a.types a.asks.items));
    packages = refl;
    definitions = sym (append-nil (map (placed_in g.types) a.definitions.items));
  }

  pub adds_then : (a b c : Asked) {m n : List (Ask ℕ)} {is js : List PackageId} {ds fs : List (Placed ℕ)} → Adds g a b m is ds → Adds g b c n js fs → Adds g a c (m ++ n) (is ++ js) (ds ++ fs)
  adds_then a b c {m} {n} {is} {js} {ds} {fs} p q = record {
    held = q.held;
    grows = Grows-trans a.types b.types c.types p.grows q.grows;
    asked = q.asked ∙ ap (λ l. l ++ n) p.asked ∙ append_assoc (asks_in a.types a.asks.items) m n;
    packages = q.packages ∙ ap (λ l. with_ids l js) p.packages ∙ sym (fold-append with_id (keys_of a.packages.entries) is js);
    definitions = q.definitions ∙ ap (λ l. l ++ fs) p.definitions ∙ append_assoc (map (placed_in g.types) a.definitions.items) ds fs;
  }

  pub adds_as : (a b : Asked) {m n : List (Ask ℕ)} {is js : List PackageId} {ds fs : List (Placed ℕ)} → Adds g a b m is ds → m ≡ n → is ≡ js → ds ≡ fs → Adds g a b n js fs
  adds_as a b {m} {n} {is} {js} {ds} {fs} h x y z = record {
    held = h.held;
    grows = h.grows;
    asked = h.asked ∙ ap (λ l. asks_in a.types a.asks.items ++ l) x;
    packages = h.packages ∙ ap (with_ids (keys_of a.packages.entries)) y;
    definitions = h.definitions ∙ ap (λ l. map (placed_in g.types) a.definitions.items ++ l) z;
  }

  module _ (a b : Asked) (h : IsHeld g a) (grows : Grows a.types b.types) where
    items_kept : (x : HeldAsk) → Among x a.asks.items → Stands b.types x.item
    items_kept x m = grows.stand x.item (h.items x m)

    worlds_kept : (id : PackageId) (w : WorldId) → Among (id, w) a.packages.entries → IsWorldOf g b.types id w
    worlds_kept id w m = world_kept a.types b.types grows id w (h.worlds id w m)

    copies_kept : (d : Definition) → Among d a.definitions.items → HasCopy g.types b.types d.ty d.copy
    copies_kept d m = copy_kept g.types a.types b.types grows d.ty d.copy (h.copies d m)

    pub adds_asks : (asks : List HeldAsk) → ((x : HeldAsk) → Among x asks → Stands b.types x.item) → b.asks.items ≡ a.asks.items ++ asks → b.packages.entries ≡ a.packages.entries → b.definitions.items ≡ a.definitions.items
        → Adds g a b (asks_in b.types asks) [] []
    adds_asks asks stand is same_packages same_definitions = record {
      held = record {
        acyclic = grows.acyclic;
        items = λ x m. elim (among_append a.asks.items asks x (subst (λ l. Among x l) is m)) [ inl p ↦ items_kept x p | inr q ↦ stand x q ];
        worlds = λ id w m. worlds_kept id w (subst (λ l. Among (id, w) l) same_packages m);
        copies = λ d m. copies_kept d (subst (λ l. Among d l) same_definitions m);
      };
      grows = grows;
      asked = ap (asks_in b.types) is ∙ map-append (ask_in b.types) a.asks.items asks ∙ ap (λ l. l ++ asks_in b.types asks) (asks_kept a.types b.types grows a.asks.items h.items);
      packages = ap keys_of same_packages;
      definitions = ap (map (placed_in g.types)) same_definitions ∙ sym (append-nil (map (placed_in g.types) a.definitions.items));
    }

    pub adds_definition : (d : Definition) → HasCopy g.types b.types d.ty d.copy → b.definitions.items ≡ a.definitions.items ++ d ∷ [] → b.asks.items ≡ a.asks.items → b.packages.entries ≡ a.packages.entries
        → Adds g a b [] [] (placed_in g.types d ∷ [])
    adds_definition d copy is same_asks same_packages = record {
      held = record {
        acyclic = grows.acyclic;
        items = λ x m. items_kept x (subst (λ l. Among x l) same_asks m);
        worlds = λ id w m. worlds_kept id w (subst (λ l. Among (id, w) l) same_packages m);
        copies = λ f m. elim (among_append a.definitions.items (d ∷ []) f (subst (λ l. Among f l) is m)) [ inl p ↦ copies_kept f p | inr q ↦ elim q [ inl s ↦ subst (λ x. HasCopy g.types b.types x.ty x.copy) (sym s) copy | inr r ↦ absurd r ] ];
      };
      grows = grows;
      asked = ap (asks_in b.types) same_asks ∙ asks_kept a.types b.types grows a.asks.items h.items ∙ sym (append-nil (asks_in a.types a.asks.items));
      packages = ap keys_of same_packages;
      definitions = ap (map (placed_in g.types)) is ∙ map-append (placed_in g.types) a.definitions.items (d ∷ []);
    }

    pub adds_package : (id : PackageId) (w : WorldId) → IsWorldOf g b.types id w → list_any (eq-value.it id) (keys_of a.packages.entries) ≡ false → b.packages.entries ≡ a.packages.entries ++ (id, w) ∷ [] → b.asks.items ≡ a.asks.items → b.definitions.items ≡ a.definitions.items
        → Adds g a b [] (id ∷ []) []
    adds_package id w world new is same_asks same_definitions = record {
      held = record {
        acyclic = grows.acyclic;
        items = λ x m. items_kept x (subst (λ l. Among x l) same_asks m);
        worlds = λ j v m. elim (among_append a.packages.entries ((id, w) ∷ []) (j, v) (subst (λ l. Among (j, v) l) is m)) [ inl p ↦ worlds_kept j v p | inr q ↦ elim q [ inl s ↦ subst (λ p. IsWorldOf g b.types p.0 p.1) (sym s) world | inr r ↦ absurd r ] ];
        copies = λ d m. copies_kept d (subst (λ l. Among d l) same_definitions m);
      };
      grows = grows;
      asked = ap (asks_in b.types) same_asks ∙ asks_kept a.types b.types grows a.asks.items h.items ∙ sym (append-nil (asks_in a.types a.asks.items));
      packages = ap keys_of is ∙ map-append (λ e. e.0) a.packages.entries ((id, w) ∷ []) ∙ sym (ap (λ b. if b then keys_of a.packages.entries else keys_of a.packages.entries ++ id ∷ []) new);
      definitions = ap (map (placed_in g.types)) same_definitions ∙ sym (append-nil (map (placed_in g.types) a.definitions.items));
    }

  pub adds_known_package : (a : Asked) → IsHeld g a → (id : PackageId) → list_any (eq-value.it id) (keys_of a.packages.entries) ≡ true → Adds g a a [] (id ∷ []) []
  adds_known_package a h id known = record {
    held = h;
    grows = Grows-refl a.types h.acyclic;
    asked = sym (append-nil (asks_in a.types a.asks.items));
    packages = sym (ap (λ b. if b then keys_of a.packages.entries else keys_of a.packages.entries ++ id ∷ []) known);
    definitions = sym (append-nil (map (placed_in g.types) a.definitions.items));
  }

  -- ---- node by node

  module _ (asks : ℕ → List (Ask ℕ)) (ids : ℕ → List PackageId) (placed : ℕ → List (Placed ℕ)) (all : List ℕ) (old : Asked) where
    -- what the nodes before these ask is added
    pub record AddsUpTo (rest : List ℕ) (new : Asked) : Type 0 where
      pub done : List ℕ
      pub are : all ≡ done ++ rest
      pub adds : Adds g old new (flat_map asks done) (flat_map ids done) (flat_map placed done)

    pub adds_first : IsHeld g old → AddsUpTo all old
    adds_first h = record { done = []; are = refl; adds = adds_nothing old h }

    pub adds_more : (rest more : List ℕ) (k : ℕ) (mid new : Asked) → AddsUpTo rest mid → rest ≡ k ∷ more → Adds g mid new (asks k) (ids k) (placed k) → AddsUpTo more new
    adds_more rest more k mid new h is step = record {
      done = h.done ++ k ∷ [];
      are = h.are ∙ ap (λ l. h.done ++ l) is ∙ sym (append_assoc h.done (k ∷ []) more);
      adds = adds_as old new (adds_then old mid new h.adds step) (one asks) (one ids) (one placed);
    }
      where
        one : {Y : Type 0} (f : ℕ → List Y) → flat_map f h.done ++ f k ≡ flat_map f (h.done ++ k ∷ [])
        one f = ap (λ l. flat_map f h.done ++ l) (sym (append-nil (f k))) ∙ sym (flat_map-append f h.done (k ∷ []))

    pub adds_all : (rest : List ℕ) (new : Asked) → AddsUpTo rest new → rest ≡ [] → Adds g old new (flat_map asks all) (flat_map ids all) (flat_map placed all)
    adds_all rest new h is = adds_as old new h.adds (same asks) (same ids) (same placed)
      where
        same : {Y : Type 0} (f : ℕ → List Y) → flat_map f h.done ≡ flat_map f all
        same f = ap (flat_map f) (sym (append-nil h.done) ∙ ap (λ l. h.done ++ l) (sym is) ∙ sym h.are)
