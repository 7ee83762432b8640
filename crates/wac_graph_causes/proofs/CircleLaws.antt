-- Interfaces that are held as they are written are those of what is composed, and the first that cannot be written is told.
use Rattle.std.specs.Prelude.{option_map, take, drop, IfSome}
use Rattle.std.specs.List.{cons_option, flat_map}
use Rattle.std.specs.Option.{option_or}
use Rattle.std.proofs.lemmas.Grind.{flat_map-append}
use Rattle.std.proofs.lemmas.List.{append-nil, append_assoc, map-append}
use Rattle.std.proofs.lemmas.List.Elements.{filter_map-append}
use Rattle.std.proofs.Common.{◌≡◌, ℕ, ◌+◌, ◌≤◌, Bool, true, false, List, [], ◌∷◌, ◌++◌, map, length, Option, Some, None, slice_get, refl, sym, ap, subst, ◌∙◌, inl, inr}
use Rattle.wac_types_base.specs.declared.ids.WorldId.{WorldId}
use Rattle.wac_types_base.specs.declared.item.ItemKind.{ItemKind}
use Rattle.wac_types_base.specs.Record.{Collection}
use Rattle.wac_types_base.specs.Entries.{Name}
use Rattle.wac_types_base.specs.Graph.{Among}
use Rattle.wac_types_base.specs.Collection.{Stands, IsAcyclic, Grows}
use Rattle.wac_types_base.specs.Stated.{Stated, stated_of, imports_of as imports_stated}
use Rattle.wac_types_base.proofs.Adding.{Among-right, Grows-refl, Grows-trans}
use Rattle.wac_types_base.proofs.Lists.{drop_all}
use Rattle.wac_types_base.proofs.Looked.{among-get, take-one_more}
use Rattle.wac_types_base.proofs.Loops.{take-all}
use Rattle.wac_types_base.proofs.Stating.{stated_kept}
use Rattle.wac_types_base.proofs.Used.{drop_next}
use Rattle.wac_types_written.specs.Forms.{ItemsStand, stated_items}
use Rattle.wac_types_written.proofs.Growing.{items_kept}
use Rattle.wac_composition.specs.Classes.{spelling}
use Rattle.wac_composition.specs.Circles.{imports_inside, interfaces_written, written_inside, written_whole, written_package}
use Rattle.wac_composition.specs.Conflicts.{Cause, cause_at, late_unwritable}
use Rattle.wac_composition.proofs.Lists.{mapped_among}
use Rattle.wac_graph_core.specs.Graph.{Graph}
use Rattle.wac_graph_core.specs.declared.ids.PackageId.{PackageId}
use Rattle.wac_types_parts.specs.Parts.{imports_of}
use Rattle.wac_writable.specs.declared.writable.Test.{Test}
use Rattle.wac_types_parts.proofs.PartsStated.{imports_are}
use Rattle.wac_graph_asks.specs.declared.asks.Definition.{Definition}
use Rattle.wac_graph_asks.specs.declared.outers.Outers.{Outers}
use Rattle.wac_graph_asks.specs.AskedUses.{CopiesStand}
use Rattle.wac_graph_causes.specs.declared.error.Unwritten.{Unwritten}
use Rattle.wac_graph_causes.specs.declared.late.Late.{Late}
use Rattle.wac_graph_causes.specs.Alike.{dependency_of}
use Rattle.wac_graph_causes.specs.Circling.{AddsOuters, PackagesStand, form_in, forms_in, held_cause, held_outers, late_cause, package_in, packages_in, under_name, imported_packages}
use Rattle.wac_graph_causes.specs.Inside.{world_imports}
use Rattle.wac_graph_causes.specs.Late.{AddsLate, AreLate, late_in, world_written}
use Rattle.wac_graph_causes.specs.Standing.{spelled_at}
use Rattle.wac_graph_causes.specs.Unwritable.{TellsUnwritable}
use Rattle.wac_graph_causes.proofs.FirstCauses.{cause_next, cause_nowhere, cause_there, named_if}
use Rattle.wac_graph_causes.proofs.LateLaws.{adds_as, adds_nothing, adds_then, late_kept}
use Rattle.wac_graph_causes.proofs.SpellingLaws.{spelled_so}

-- ---- under another name

abbrev pub named : Name → Name × Stated → Name × Stated
named n x = (n, x.1)

module _ (c : Collection) (n : Name) where
  late_named : (ls : List Late) → late_in c (map (under_name n) ls) ≡ map (named n) (late_in c ls)
  late_named [] = refl
  late_named (l ∷ ls) = ap (λ r. (n, stated_of c l.item) ∷ r) (late_named ls)

  are_named : (ls : List Late) (es : List (Name × Stated)) → AreLate c ls es → AreLate c (map (under_name n) ls) (map (named n) es)
  are_named ls es h = record {
    stand = λ l m. let r = mapped_among (under_name n) ls l m in subst (λ (k : Late). Stands c k.item) (sym r.2) (h.stand r.0 r.1);
    are = late_named ls ∙ ap (map (named n)) h.are;
  }

  late_both : (ls ms : List Late) (es fs : List (Name × Stated)) → AreLate c ls es → AreLate c ms fs → AreLate c (ls ++ ms) (es ++ fs)
  late_both ls ms es fs h k = record {
    stand = λ l m. among_either ls ms l m h.stand k.stand;
    are = map-append (λ (l : Late). (l.name, stated_of c l.item)) ls ms ∙ (λ i. h.are i ++ k.are i);
  }
    where
      among_either : (xs ys : List Late) (l : Late) → Among l (xs ++ ys) → ((k : Late) → Among k xs → Stands c k.item) → ((k : Late) → Among k ys → Stands c k.item) → Stands c l.item
      among_either [] ys l m f g = g l m
      among_either (x ∷ xs) ys l (inl e) f g = f l (inl e)
      among_either (x ∷ xs) ys l (inr m) f g = among_either xs ys l m (λ k o. f k (inr o)) g

pub none_late : (c : Collection) → AreLate c [] []
none_late c = record { stand = λ l m. absurd m; are = refl }

-- of a list of its own
pub own_late : (old new : Collection) (own : List Late) (before : List Late) (es : List (Name × Stated)) → before ≡ [] → AddsLate old new before own es → AreLate new own es
own_late old new own before es e f = f [] (subst (λ l. AreLate old l []) (sym e) (none_late old))

pub adds_named : (old new : Collection) (g : Grows old new) (n : Name) (own before after : List Late) (es : List (Name × Stated)) → AreLate new own es → after ≡ before ++ map (under_name n) own → AddsLate old new before after (map (named n) es)
adds_named old new g n own before after es h e fs k =
    subst (λ l. AreLate new l (fs ++ map (named n) es)) (sym e) (late_both new n before (map (under_name n) own) fs (map (named n) es) (late_kept old new g before fs k) (are_named new n own es h))

-- ---- component types

module _ (c d : Collection) (acyclic : IsAcyclic c) (g : Grows c d) where
  pub world_kept : (spell : Name → Name) (w : WorldId) → Stands c (ItemKind.Component w) → world_written d spell w ≡ world_written c spell w
  world_kept spell w s =
      ap (interfaces_written spell)
      (sym (imports_are d g.acyclic w) ∙ ap imports_stated (stated_kept c d g (ItemKind.Component w) s) ∙ imports_are c acyclic w)

-- what is written of component types that stand in an item of this name, so far
abbrev pub inside_of : Collection → Name → List WorldId → List (Name × Stated)
inside_of c n ws = map (named n) (flat_map (interfaces_written (λ n. n)) (map (world_imports c) ws))

pub inside_more : (c : Collection) (n : Name) (ws : List WorldId) (i : ℕ) (w : WorldId) → slice_get ws i ≡ Some w → inside_of c n (take i ws) ++ map (named n) (world_written c (λ n. n) w) ≡ inside_of c n (take (i + 1) ws)
inside_more c n ws i w at =
    let f = interfaces_written (λ n. n) in
    sym (map-append (named n) (flat_map f (map (world_imports c) (take i ws))) (f (world_imports c w)))
    ∙ ap (λ l. map (named n) (flat_map f (map (world_imports c) (take i ws)) ++ l)) (sym (append-nil (f (world_imports c w))))
    ∙ ap (map (named n)) (sym (flat_map-append f (map (world_imports c) (take i ws)) (world_imports c w ∷ [])))
    ∙ ap (λ l. map (named n) (flat_map f l)) (sym (map-append (world_imports c) (take i ws) (w ∷ [])))
    ∙ ap (λ l. inside_of c n l) (sym (take-one_more ws i w at))

pub inside_all : (c : Collection) (n : Name) (x : Stated) (ws : List WorldId) (i : ℕ) → length ws ≤ i → map (world_imports c) ws ≡ imports_inside x → inside_of c n (take i ws) ≡ written_inside (n, x)
inside_all c n x ws i past are =
    ap (inside_of c n) (take-all ws i past) ∙ ap (λ l. map (named n) (flat_map (interfaces_written (λ n. n)) l)) are

-- ---- one after another

pub flat_more : {X Y : Type 0} (f : X → List Y) (xs : List X) (i : ℕ) (x : X) → slice_get xs i ≡ Some x → flat_map f (take i xs) ++ f x ≡ flat_map f (take (i + 1) xs)
flat_more f xs i x at =
    ap (λ l. flat_map f (take i xs) ++ l) (sym (append-nil (f x))) ∙ sym (flat_map-append f (take i xs) (x ∷ [])) ∙ ap (flat_map f) (sym (take-one_more xs i x at))

-- items of a collection, each under its name
pub items_more : (c d : Collection) (g : Grows c d) (xs : List (Name × ItemKind)) (stand : ItemsStand c xs) (i : ℕ) (n : Name) (k : ItemKind) → slice_get xs i ≡ Some (n, k)
    → flat_map written_inside (stated_items c (take i xs)) ++ written_inside (n, stated_of d k) ≡ flat_map written_inside (stated_items c (take (i + 1) xs))
items_more c d g xs stand i n k at =
    ap (λ x. flat_map written_inside (stated_items c (take i xs)) ++ written_inside (n, x)) (stated_kept c d g k (stand (n, k) (among-get xs i (n, k) at)))
    ∙ ap (λ l. flat_map written_inside (stated_items c (take i xs)) ++ l) (sym (append-nil (written_inside (n, stated_of c k))))
    ∙ sym (flat_map-append written_inside (stated_items c (take i xs)) ((n, stated_of c k) ∷ []))
    ∙ ap (flat_map written_inside) (sym (map-append (λ (x : Name × ItemKind). (x.0, stated_of c x.1)) (take i xs) ((n, k) ∷ [])))
    ∙ ap (λ l. flat_map written_inside (stated_items c l)) (sym (take-one_more xs i (n, k) at))

-- definitions, each in its form
module _ (c d : Collection) (g : Grows c d) where
  form_kept : (x : Definition) → ((k : ItemKind) → x.copy ≡ Some k → Stands c k) → forms_in d (x ∷ []) ≡ forms_in c (x ∷ [])
  form_kept x stand = go x.copy refl
    where
      go : (o : Option ItemKind) → x.copy ≡ o → cons_option {X = Name × Stated} (option_map (λ k. (x.name, stated_of d k)) o) [] ≡ cons_option {X = Name × Stated} (option_map (λ k. (x.name, stated_of c k)) o) []
      go None e = refl
      go (Some k) e = ap (λ y. (x.name, y) ∷ []) (stated_kept c d g k (stand k e))

  pub forms_more : (xs : List Definition) (i : ℕ) (x : Definition) → slice_get xs i ≡ Some x → ((k : ItemKind) → x.copy ≡ Some k → Stands c k)
      → flat_map written_whole (forms_in c (take i xs)) ++ flat_map written_whole (forms_in d (x ∷ [])) ≡ flat_map written_whole (forms_in c (take (i + 1) xs))
  forms_more xs i x at stand =
      ap (λ l. flat_map written_whole (forms_in c (take i xs)) ++ flat_map written_whole l) (form_kept x stand)
      ∙ sym (flat_map-append written_whole (forms_in c (take i xs)) (forms_in c (x ∷ [])))
      ∙ ap (flat_map written_whole) (sym (filter_map-append (form_in c) (take i xs) (x ∷ [])))
      ∙ ap (λ l. flat_map written_whole (forms_in c l)) (sym (take-one_more xs i x at))

  -- a copy that stands still does
  pub copy_kept : (o : Option ItemKind) → IfSome o (Stands c) → IfSome o (Stands d)
  copy_kept None h = tt
  copy_kept (Some k) h = g.stand k h

  pub packages_more : (h : Graph) (ps : List (PackageId × WorldId)) (id : PackageId) (w : WorldId) → Stands c (ItemKind.Component w)
      → flat_map written_package (packages_in h c ps) ++ written_package (package_in h d id w) ≡ flat_map written_package (packages_in h c (ps ++ (id, w) ∷ []))
  packages_more h ps id w s =
      ap (λ (x : Stated). flat_map written_package (packages_in h c ps) ++ written_package (dependency_of h id, x)) (stated_kept c d g (ItemKind.Component w) s)
      ∙ ap (λ l. flat_map written_package (packages_in h c ps) ++ l) (sym (append-nil (written_package (package_in h c id w))))
      ∙ sym (flat_map-append written_package (packages_in h c ps) (package_in h c id w ∷ []))
      ∙ ap (flat_map written_package) (sym (map-append (λ (p : PackageId × WorldId). package_in h c p.0 p.1) ps ((id, w) ∷ [])))

-- ---- packages one after another

-- those of the packages before these
pub record PackagesAdded (h : Graph) (c d : Collection) (ps turn : List (PackageId × WorldId)) (before after : List Late) : Type 0 where
  pub grows : Grows c d
  pub done : List (PackageId × WorldId)
  pub all : done ++ turn ≡ ps
  pub adds : AddsLate c d before after (flat_map written_package (packages_in h c done))

module _ (h : Graph) (c : Collection) (ps : List (PackageId × WorldId)) (before : List Late) where
  pub packages_begin : IsAcyclic c → (turn : List (PackageId × WorldId)) → turn ≡ ps → PackagesAdded h c c ps turn before before
  packages_begin a turn e = record { grows = Grows-refl c a; done = []; all = e; adds = adds_nothing c c (Grows-refl c a) before }

  among_turn : (done turn : List (PackageId × WorldId)) (p : PackageId × WorldId) (rest : List (PackageId × WorldId)) → turn ≡ p ∷ rest → done ++ turn ≡ ps → Among p ps
  among_turn done turn p rest e f = subst (Among p) f (Among-right p done turn (subst (Among p) (sym e) (inl refl)))

  pub package_stands : (d : Collection) (turn rest : List (PackageId × WorldId)) (id : PackageId) (w : WorldId) (mid : List Late) → PackagesStand c ps → turn ≡ (id, w) ∷ rest → PackagesAdded h c d ps turn before mid → Stands d (ItemKind.Component w)
  package_stands d turn rest id w mid stand steps r = r.grows.stand (ItemKind.Component w) (stand (id, w) (among_turn r.done turn (id, w) rest steps r.all))

  pub packages_next : (d e : Collection) (turn rest : List (PackageId × WorldId)) (id : PackageId) (w : WorldId) (mid after : List Late) → PackagesStand c ps → turn ≡ (id, w) ∷ rest → PackagesAdded h c d ps turn before mid
      → Grows d e → AddsLate d e mid after (written_package (package_in h d id w)) → PackagesAdded h c e ps rest before after
  packages_next d e turn rest id w mid after stand steps r g adds = record {
    grows = Grows-trans c d e r.grows g;
    done = r.done ++ (id, w) ∷ [];
    all = append_assoc r.done ((id, w) ∷ []) rest ∙ ap (λ l. r.done ++ l) (sym steps) ∙ r.all;
    adds = adds_as c e before after _ _ (packages_more c d r.grows h r.done id w (stand (id, w) (among_turn r.done turn (id, w) rest steps r.all)))
        (adds_then c d e before mid after _ _ r.adds adds);
  }

  pub packages_all : (d : Collection) (turn : List (PackageId × WorldId)) (after : List Late) → turn ≡ [] → PackagesAdded h c d ps turn before after → AddsLate c d before after (flat_map written_package (packages_in h c ps))
  packages_all d turn after e r = adds_as c d before after _ _ (ap (λ l. flat_map written_package (packages_in h c l)) (sym (append-nil r.done) ∙ ap (λ l. r.done ++ l) (sym e) ∙ r.all)) r.adds

-- ---- what stays as the collection grows

module _ (c d : Collection) (g : Grows c d) where
  pub packages_stand_kept : (ps : List (PackageId × WorldId)) → PackagesStand c ps → PackagesStand d ps
  packages_stand_kept ps h p m = g.stand (ItemKind.Component p.1) (h p m)

  packages_kept : (h : Graph) (ps : List (PackageId × WorldId)) → PackagesStand c ps → packages_in h d ps ≡ packages_in h c ps
  packages_kept h [] stand = refl
  packages_kept h (p ∷ ps) stand =
      ap (λ x. (dependency_of h p.0, x) ∷ packages_in h d ps) (stated_kept c d g (ItemKind.Component p.1) (stand p (inl refl)))
      ∙ ap (λ l. package_in h c p.0 p.1 ∷ l) (packages_kept h ps (λ q m. stand q (inr m)))

  pub unless_kept : (define : Bool) (h : Graph) (ps : List (PackageId × WorldId)) → PackagesStand c ps → imported_packages define h d ps ≡ imported_packages define h c ps
  unless_kept true h ps stand = refl
  unless_kept false h ps stand = packages_kept h ps stand

  some_kept : (o : Option ItemKind) → IfSome o (Stands c) → IfSome o (Stands d)
  some_kept None h = tt
  some_kept (Some k) h = g.stand k h

  pub copies_kept : (ds : List Definition) → CopiesStand c ds → CopiesStand d ds
  copies_kept ds h x m = some_kept x.copy (h x m)

  form_same : (n : Name) (o : Option ItemKind) → IfSome o (Stands c) → option_map {U = Name × Stated} (λ k. (n, stated_of d k)) o ≡ option_map {U = Name × Stated} (λ k. (n, stated_of c k)) o
  form_same n None h = refl
  form_same n (Some k) h = ap (λ x. Some (n, x)) (stated_kept c d g k h)

  pub forms_kept : (ds : List Definition) → CopiesStand c ds → forms_in d ds ≡ forms_in c ds
  forms_kept [] h = refl
  forms_kept (x ∷ ds) h = λ i. cons_option {X = Name × Stated} (form_same x.name x.copy (h x (inl refl)) i) (forms_kept ds (λ y m. h y (inr m)) i)

-- ---- outer imports

pub outers_added : (old mid new : Collection) (g : Grows old mid) (o : Outers) (imports : List (Name × ItemKind)) → imports ≡ imports_of old o.world → ItemsStand old imports
    → (x y z : List Late) → AddsLate old mid x y (world_written old (spelled_at o.places imports) o.world) → AddsLate mid new y z (flat_map written_inside (stated_items mid imports)) → AddsOuters old new o x z
outers_added old mid new g o imports are stand x y z f h asks outers =
    adds_as old new x z _ (held_outers asks old o.world)
    ((λ i. interfaces_written (λ n. spelled_so asks old o.world o.places outers imports are n i) (stated_items old (imports_of old o.world)) ++ flat_map written_inside (items_kept old mid g imports stand i))
    ∙ ap (λ xs. interfaces_written (spelling asks) (stated_items old (imports_of old o.world)) ++ flat_map written_inside (stated_items old xs)) are)
    (adds_then old mid new x y z (world_written old (spelled_at o.places imports) o.world) (flat_map written_inside (stated_items mid imports)) f h)

-- ---- the first that cannot be written

-- what is told of those that are left is told of all
abbrev pub LateLeft : (outer : Bool) → Collection → List Late → ℕ → Type 0
LateLeft outer c ls i = late_cause outer (late_in c (drop i ls)) ≡ late_cause outer (late_in c ls)

module _ (outer : Bool) (c : Collection) (ls : List Late) where
  pub late_begin : LateLeft outer c ls 0
  late_begin = refl

  module _ (i : ℕ) (left : LateLeft outer c ls i) where
    module _ (l : Late) (at : slice_get ls i ≡ Some l) where
      turn : late_in c (drop i ls) ≡ (l.name, stated_of c l.item) ∷ late_in c (drop (i + 1) ls)
      turn = ap (late_in c) (drop_next ls i l at)

      one_first : (o : Option (Cause ℕ)) → late_cause outer (late_in c (l ∷ [])) ≡ o → cause_at (late_unwritable outer) (l.name, stated_of c l.item) ≡ o
      one_first o e = go (cause_at (late_unwritable outer) (l.name, stated_of c l.item)) e
        where
          go : (q : Option (Cause ℕ)) → option_or q None ≡ o → q ≡ o
          go None e = e
          go (Some x) e = e

      pub late_next : late_cause outer (late_in c (l ∷ [])) ≡ None → LateLeft outer c ls (i + 1)
      late_next none = cause_next (cause_at (late_unwritable outer)) (late_in c (drop i ls)) (late_in c ls) left (l.name, stated_of c l.item) (late_in c (drop (i + 1) ls)) turn (one_first None none)

      pub late_told : (e : Unwritten) → TellsUnwritable (late_cause outer (late_in c (l ∷ []))) e → TellsUnwritable (late_cause outer (late_in c ls)) e
      late_told e t = cause_there (cause_at (late_unwritable outer)) (late_in c (drop i ls)) (late_in c ls) left (l.name, stated_of c l.item) (late_in c (drop (i + 1) ls)) e turn
          (subst (λ o. TellsUnwritable o e) (sym (one_first _ refl)) t)

    pub late_nowhere : length ls ≤ i → late_cause outer (late_in c ls) ≡ None
    late_nowhere past = cause_nowhere (cause_at (late_unwritable outer)) (late_in c (drop i ls)) (late_in c ls) left (ap (late_in c) (drop_all ls i past))

-- ---- one by itself

-- where it stands, what is found of it is its cause
pub one_told : (t : Test) (l : Late) (b : Bool) → b ≡ late_unwritable t.is_outer (l.name, stated_of t.types.now l.item) → held_cause t (l ∷ []) ≡ named_if b l.name
one_told t l b e = ap (λ (o : Option (Cause ℕ)). option_or o None) (ap (λ b. named_if b l.name) (sym e)) ∙ go b
  where
    go : (b : Bool) → option_or (named_if b l.name) None ≡ named_if b l.name
    go true = refl
    go false = refl

pub one_stands : (c : Collection) (ls : List Late) → ((l : Late) → Among l ls → Stands c l.item) → (i : ℕ) (l : Late) → slice_get ls i ≡ Some l → (k : Late) → Among k (l ∷ []) → Stands c k.item
one_stands c ls stand i l at k (inl e) = subst (λ (m : Late). Stands c m.item) (sym e) (stand l (among-get ls i l at))
one_stands c ls stand i l at k (inr m) = absurd m
