-- The map of merged items, and the meet that it is.
use Rattle.std.proofs.lemmas.List.{append-nil}
use Rattle.std.proofs.Common.{◌≡◌, ℕ, ◌+◌, List, [], ◌∷◌, ◌++◌, take, Option, Some, None, Bool, true, false, if◌then◌else◌, append_assoc, refl, sym, ap, subst, ◌∙◌, inl, inr}
use Rattle.std.specs.Prelude.{◌==◌, is_some, slice_get}
use Rattle.std.specs.Option.{option_map, option_or}
use Rattle.std.specs.Cmp.Lexicographic.{pointwise}
use Rattle.std.proofs.lemmas.Slice.Eq.{bytes_eq-Decides}
use Rattle.wac_types_base.specs.declared.item.ItemKind.{ItemKind}
use Rattle.wac_types_base.specs.Record.{Collection}
use Rattle.wac_types_base.specs.Graph.{Among}
use Rattle.wac_types_base.specs.Entries.{Name, names_of, value_at, IsNew, AreDistinct}
use Rattle.wac_types_base.specs.Collection.{Stands, SlotStands, Grows}
use Rattle.wac_types_base.specs.Tree.{instance}
use Rattle.wac_types_base.proofs.Again.{name_before}
use Rattle.wac_types_base.proofs.Looked.{take-one_more}
use Rattle.wac_types_base.proofs.Loops.{map-append, map-take}
use Rattle.wac_types_base.proofs.Lists.{among_split, value_both, value_none}
use Rattle.wac_types_fit.specs.Lookups.{lookup}
use Rattle.wac_types_fit.specs.Meets.{IsMeet}
use Rattle.wac_types_fit.specs.Trees.{tree_in}
use Rattle.wac_types_fit.specs.Checking.{AreInside}
use Rattle.wac_types_fit.proofs.Items.{looked_in, ordered_in, value_at-among, differs}
use Rattle.wac_types_fit.proofs.Meeting.{Joins, fields_meet}
use Rattle.wac_types_fit.proofs.Unfolded.{fields_in}
use Rattle.wac_types_fit.specs.TargetSteps.{AllStand}
use Rattle.wac_types_merge.specs.Interfaces.{if_new, new_in, SlotInside, JoinedIn, AreJoined}
use Rattle.wac_types_merge.proofs.Grown.{tree_kept, slot_kept, inside_kept}

-- ---- look-ups

not_some : {T : Type 0} (o : Option T) → is_some o ≡ true → o ≡ None → ⊥
not_some None e h = absurd (cc e)
not_some (Some x) e h = absurd (cc h)

new_case : {T : Type 0} (b : Bool) (es : List (Name × T)) (f : Name × T) (n : Name) (rs fs : List (Name × T)) → is_some (value_at es f.0) ≡ b → value_at es n ≡ None → value_at rs n ≡ value_at fs n → value_at (if b then rs else f ∷ rs) n ≡ value_at (f ∷ fs) n
new_case true es f n rs fs e none h =
    let other : pointwise ◌==◌ n f.0 ≡ false = differs n f.0 (λ is. not_some (value_at es f.0) e (subst (λ m. value_at es m ≡ None) is none)) in
    rw other h
new_case false es f n rs fs e none h = ap (λ o. if pointwise ◌==◌ n f.0 then Some f.1 else o) h

-- a name that the first map does not have is looked up in the second
pub new-found : {T : Type 0} (es fs : List (Name × T)) (n : Name) → value_at es n ≡ None → value_at (new_in es fs) n ≡ value_at fs n
new-found es [] n none = refl
new-found es (f ∷ fs) n none = new_case (is_some (value_at es f.0)) es f n (new_in es fs) fs refl none (new-found es fs n none)

-- ---- adding the new ones

new_more : {T : Type 0} (b : Bool) (f : Name × T) (rs ss : List (Name × T)) → (if b then rs ++ ss else f ∷ (rs ++ ss)) ≡ (if b then rs else f ∷ rs) ++ ss
new_more true f rs ss = refl
new_more false f rs ss = refl

new-append : {T : Type 0} (es fs : List (Name × T)) (n : Name) (v : T) → new_in es (fs ++ (n, v) ∷ []) ≡ new_in es fs ++ if_new es n v
new-append es [] n v = refl
new-append es (f ∷ fs) n v = ap (λ l. if is_some (value_at es f.0) then l else f ∷ l) (new-append es fs n v) ∙ new_more (is_some (value_at es f.0)) f (new_in es fs) (if_new es n v)

known_here : {T : Type 0} (o : Option T) (t : Bool) (n : Name) (v : T) (all : List (Name × T)) → t ≡ is_some o → t ≡ true → all ≡ all ++ (if is_some o then [] else (n, v) ∷ [])
known_here (Some x) t n v all e f = sym (append-nil all)
known_here None t n v all e f = absurd (cc (e, f))

-- a name that is there adds nothing
pub known_name : {T : Type 0} (es : List (Name × T)) (t : Bool) (n : Name) (v : T) (all : List (Name × T)) → t ≡ is_some (value_at es n) → t ≡ true → all ≡ all ++ if_new es n v
known_name es t n v all e f = known_here (value_at es n) t n v all e f

new_here : {T : Type 0} (o : Option T) (t : Bool) (n m : Name) (v : T) (all after : List (Name × T)) → t ≡ is_some o → t ≡ false → m ≡ n → after ≡ all ++ (m, v) ∷ [] → after ≡ all ++ (if is_some o then [] else (n, v) ∷ [])
new_here (Some x) t n m v all after e f is h = absurd (cc (e, f))
new_here None t n m v all after e f is h = h ∙ ap (λ z. all ++ (z, v) ∷ []) is

pub new_name : {T : Type 0} (es : List (Name × T)) (t : Bool) (n m : Name) (v : T) (all after : List (Name × T)) → t ≡ is_some (value_at es n) → t ≡ false → m ≡ n → after ≡ all ++ (m, v) ∷ [] → after ≡ all ++ if_new es n v
new_name es t n m v all after e f is h = new_here (value_at es n) t n m v all after e f is h

none_there : {T : Type 0} (o : Option T) (t : Bool) → t ≡ is_some o → t ≡ false → o ≡ None
none_there None t e f = refl
none_there (Some x) t e f = absurd (cc (e, f))

-- what a test says
pub not_there : {T : Type 0} (es : List (Name × T)) (t : Bool) (n : Name) → t ≡ is_some (value_at es n) → t ≡ false → value_at es n ≡ None
not_there es t n e f = none_there (value_at es n) t e f

-- one more entry
pub added_more : {T : Type 0} (es fs first all after : List (Name × T)) (i : ℕ) (n : Name) (v : T) → slice_get fs i ≡ Some (n, v) → all ≡ first ++ new_in es (take i fs) → after ≡ all ++ if_new es n v → after ≡ first ++ new_in es (take (i + 1) fs)
added_more es fs first all after i n v at e f =
    f ∙ ap (λ l. l ++ if_new es n v) e ∙ append_assoc first (new_in es (take i fs)) (if_new es n v)
    ∙ ap (λ l. first ++ l) (sym (new-append es (take i fs) n v) ∙ ap (new_in es) (sym (take-one_more fs i (n, v) at)))

new_names : {T : Type 0} (b : Bool) (f : Name × T) (rs fs : List (Name × T)) (n : Name) → (Among n (names_of rs) → Among n (names_of fs)) → Among n (names_of (if b then rs else f ∷ rs)) → Among n (names_of (f ∷ fs))
new_names true f rs fs n h m = inr (h m)
new_names false f rs fs n h (inl e) = inl e
new_names false f rs fs n h (inr m) = inr (h m)

names_new : {T : Type 0} (es fs : List (Name × T)) (n : Name) → Among n (names_of (new_in es fs)) → Among n (names_of fs)
names_new es [] n m = m
names_new es (f ∷ fs) n m = new_names (is_some (value_at es f.0)) f (new_in es fs) fs n (names_new es fs n) m

-- the next name is new, where the first map does not have it
pub added_new : {T : Type 0} (es fs first all : List (Name × T)) (i : ℕ) (n : Name) (v : T) → slice_get fs i ≡ Some (n, v) → AreDistinct (names_of fs) → names_of first ≡ names_of es → all ≡ first ++ new_in es (take i fs) → value_at es n ≡ None → IsNew n all
added_new es fs first all i n v at apart same e none m =
    let is : names_of all ≡ names_of first ++ names_of (new_in es (take i fs)) = ap names_of e ∙ map-append (λ x. x.0) first (new_in es (take i fs)) in
    elim (among_split n (names_of first) (names_of (new_in es (take i fs))) (subst (Among n) is m)) [
      | inl k ↦ value_none es n none (subst (Among n) same k)
      | inr k ↦ name_before fs i n v at (names_of (take i fs)) apart (map-take (λ x. x.0) fs i) (names_new es (take i fs) n k)
    ]

-- ---- items that are joined name by name

abbrev JoinedAt : Collection → Option ItemKind → Option ItemKind → Collection → Option ItemKind → Type 0
JoinedAt c None p d r = r ≡ None
JoinedAt c (Some k) p d r = (g : ItemKind) × (r ≡ Some g) × JoinedIn c k p d g

joined_case : (t : Bool) (c d : Collection) (n : Name) (e g : Name × ItemKind) (fs : List (Name × ItemKind)) (o r : Option ItemKind) → pointwise ◌==◌ n e.0 ≡ t → JoinedIn c e.1 (value_at fs e.0) d g.1 → JoinedAt c o (value_at fs n) d r → JoinedAt c (if t then Some e.1 else o) (value_at fs n) d (if t then Some g.1 else r)
joined_case true c d n e g fs o r is j h = (g.1, refl, subst (λ m. JoinedIn c e.1 (value_at fs m) d g.1) (sym ((bytes_eq-Decides n e.0).0 is)) j)
joined_case false c d n e g fs o r is j h = h

joined_at : (c : Collection) (fs : List (Name × ItemKind)) (d : Collection) (es gs : List (Name × ItemKind)) → AreJoined c fs d es gs → (n : Name) → JoinedAt c (value_at es n) (value_at fs n) d (value_at gs n)
joined_at c fs d [] [] h n = refl
joined_at c fs d [] (g ∷ gs) h n = absurd h
joined_at c fs d (e ∷ es) [] h n = absurd h
joined_at c fs d (e ∷ es) (g ∷ gs) h n =
    subst (λ m. JoinedAt c (if pointwise ◌==◌ n e.0 then Some e.1 else value_at es n) (value_at fs n) d (if pointwise ◌==◌ n m then Some g.1 else value_at gs n)) (sym h.0)
    (joined_case (pointwise ◌==◌ n e.0) c d n e g fs (value_at es n) (value_at gs n) refl h.1 (joined_at c fs d es gs h.2 n))

pub names_joined : (c : Collection) (fs : List (Name × ItemKind)) (d : Collection) (es gs : List (Name × ItemKind)) → AreJoined c fs d es gs → names_of gs ≡ names_of es
names_joined c fs d [] [] h = refl
names_joined c fs d [] (g ∷ gs) h = absurd h
names_joined c fs d (e ∷ es) [] h = absurd h
names_joined c fs d (e ∷ es) (g ∷ gs) h = ap (λ x. x ∷ names_of gs) h.0 ∙ ap (λ l. e.0 ∷ l) (names_joined c fs d es gs h.2)

item_stands : (c : Collection) (a : ItemKind) (p : Option ItemKind) (d : Collection) (k : ItemKind) → JoinedIn c a p d k → Stands d k
item_stands c a None d k h = h.0
item_stands c a (Some b) d k h = h.stands

pub joined_stand : (c : Collection) (fs : List (Name × ItemKind)) (d : Collection) (es gs : List (Name × ItemKind)) → AreJoined c fs d es gs → AllStand d gs
joined_stand c fs d [] [] h n k m = absurd m
joined_stand c fs d [] (g ∷ gs) h n k m = absurd h
joined_stand c fs d (e ∷ es) [] h n k m = absurd h
joined_stand c fs d (e ∷ es) (g ∷ gs) h n k (inl is) = subst (Stands d) (sym (ap (λ q. q.1) is)) (item_stands c e.1 (value_at fs e.0) d g.1 h.1)
joined_stand c fs d (e ∷ es) (g ∷ gs) h n k (inr m) = joined_stand c fs d es gs h.2 n k m

-- while the collection grows
item_kept : (c : Collection) (a : ItemKind) (p : Option ItemKind) (d e : Collection) (k : ItemKind) → Grows d e → JoinedIn c a p d k → JoinedIn c a p e k
item_kept c a None d e k g h = (g.stand k h.0, tree_kept d e g k h.0 ∙ h.1)
item_kept c a (Some b) d e k g h = record { stands = g.stand k h.stands; meet = subst (λ t. IsMeet t (tree_in c a ∷ tree_in c b ∷ [])) (sym (tree_kept d e g k h.stands)) h.meet }

pub joined_kept : (c : Collection) (fs : List (Name × ItemKind)) (d e : Collection) (es gs : List (Name × ItemKind)) → Grows d e → AreJoined c fs d es gs → AreJoined c fs e es gs
joined_kept c fs d e [] [] g h = tt
joined_kept c fs d e [] (y ∷ gs) g h = absurd h
joined_kept c fs d e (x ∷ es) [] g h = absurd h
joined_kept c fs d e (x ∷ es) (y ∷ gs) g h = (h.0, item_kept c x.1 (value_at fs x.0) d e y.1 g h.1, joined_kept c fs d e es gs g h.2)

-- what is joined in a grown collection is joined in the one before
pub joined_before : (c d : Collection) (a : ItemKind) (p : Option ItemKind) (e : Collection) (k : ItemKind) → Grows c d → Stands c a → SlotStands c p → JoinedIn d a p e k → JoinedIn c a p e k
joined_before c d a None e k g s r h = (h.0, h.1 ∙ tree_kept c d g a s)
joined_before c d a (Some b) e k g s r h = record {
  stands = h.stands;
  meet = subst (λ t. IsMeet (tree_in e k) (t ∷ tree_in c b ∷ [])) (tree_kept c d g a s) (subst (λ u. IsMeet (tree_in e k) (tree_in d a ∷ u ∷ [])) (tree_kept c d g b r) h.meet);
}

one_joined : (c : Collection) (fs : List (Name × ItemKind)) (d : Collection) (es gs : List (Name × ItemKind)) (x y : Name × ItemKind) → AreJoined c fs d es gs → y.0 ≡ x.0 → JoinedIn c x.1 (value_at fs x.0) d y.1 → AreJoined c fs d (es ++ x ∷ []) (gs ++ y ∷ [])
one_joined c fs d [] [] x y h e j = (e, j, tt)
one_joined c fs d [] (g ∷ gs) x y h e j = absurd h
one_joined c fs d (z ∷ es) [] x y h e j = absurd h
one_joined c fs d (z ∷ es) (g ∷ gs) x y h e j = (h.0, h.1, one_joined c fs d es gs x y h.2 e j)

-- one more item
pub joined_more : (c : Collection) (fs : List (Name × ItemKind)) (d e : Collection) (es gs after : List (Name × ItemKind)) (i : ℕ) (n : Name) (k j : ItemKind) → slice_get es i ≡ Some (n, k) → Grows d e → AreJoined c fs d (take i es) gs → JoinedIn c k (value_at fs n) e j → after ≡ gs ++ (n, j) ∷ [] → AreJoined c fs e (take (i + 1) es) after
joined_more c fs d e es gs after i n k j at g h this is =
    subst (λ l. AreJoined c fs e l after) (sym (take-one_more es i (n, k) at))
    (subst (AreJoined c fs e (take i es ++ (n, k) ∷ [])) (sym is) (one_joined c fs e (take i es) gs (n, k) (n, j) (joined_kept c fs d e (take i es) gs g h) refl this))

-- the next name is new
pub joined_new : (c : Collection) (fs : List (Name × ItemKind)) (d : Collection) (es gs : List (Name × ItemKind)) (i : ℕ) (n : Name) (k : ItemKind) → slice_get es i ≡ Some (n, k) → AreDistinct (names_of es) → AreJoined c fs d (take i es) gs → IsNew n gs
joined_new c fs d es gs i n k at apart h m =
    name_before es i n k at (names_of gs) apart (names_joined c fs d (take i es) gs h ∙ map-take (λ e. e.0) es i) m

-- ---- the meet

module _ (c d e : Collection) (g : Grows c d) (h : Grows d e) (f : Grows c e) where
  joins_at : (o p r z q : Option ItemKind) → JoinedAt c o p d r → SlotStands c p → (o ≡ None → q ≡ p) → z ≡ option_or r q → Joins (option_map (tree_in c) o) (option_map (tree_in c) p) (option_map (tree_in e) z)
  joins_at None p r z q j s new is =
      let only : z ≡ p = is ∙ ap (λ x. option_or x q) j ∙ new refl in
      ap (option_map (tree_in e)) only ∙ slot_kept c e f p s
  joins_at (Some k) None r z q j s new is =
      let only : z ≡ Some j.0 = is ∙ ap (λ x. option_or x q) j.1 in
      ap (option_map (tree_in e)) only ∙ ap Some (tree_kept d e h j.0 j.2.0 ∙ j.2.1)
  joins_at (Some k) (Some b) r z q j s new is =
      let only : z ≡ Some j.0 = is ∙ ap (λ x. option_or x q) j.1 in
      (tree_in d j.0, ap (option_map (tree_in e)) only ∙ ap Some (tree_kept d e h j.0 j.2.stands), j.2.meet)

  found_stands : (fs : List (Name × ItemKind)) (n : Name) (o : Option ItemKind) → AllStand c fs → value_at fs n ≡ o → SlotStands c o
  found_stands fs n None s at = tt
  found_stands fs n (Some k) s at = s n k (value_at-among fs n k at)

  module _ (es fs ms : List (Name × ItemKind)) (j : AreJoined c fs d es ms) (s : AllStand c fs) where
    joins_all : (n : Name) → Joins (option_map (tree_in c) (value_at es n)) (option_map (tree_in c) (value_at fs n)) (option_map (tree_in e) (value_at (ms ++ new_in es fs) n))
    joins_all n =
        joins_at (value_at es n) (value_at fs n) (value_at ms n) (value_at (ms ++ new_in es fs) n) (value_at (new_in es fs) n)
        (joined_at c fs d es ms j n) (found_stands fs n (value_at fs n) s refl) (new-found es fs n) (value_both ms (new_in es fs) n)

    -- the merged items and the new ones are the meet of the two instances
    pub merged_meet : IsMeet (instance (fields_in e (ms ++ new_in es fs))) (instance (fields_in c es) ∷ instance (fields_in c fs) ∷ [])
    merged_meet = fields_meet (fields_in c es) (fields_in c fs) (fields_in e (ms ++ new_in es fs)) (ordered_in c es) (ordered_in c fs) (record {
      ordered = ordered_in e (ms ++ new_in es fs);
      joins = λ n. subst (λ x. Joins x (lookup n (fields_in c fs)) (lookup n (fields_in e (ms ++ new_in es fs)))) (sym (looked_in c es n))
          (subst (λ x. Joins (option_map (tree_in c) (value_at es n)) x (lookup n (fields_in e (ms ++ new_in es fs)))) (sym (looked_in c fs n))
          (subst (λ x. Joins (option_map (tree_in c) (value_at es n)) (option_map (tree_in c) (value_at fs n)) x) (sym (looked_in e (ms ++ new_in es fs) n)) (joins_all n)));
    })

-- the item asked under a name, if there is one, is inside
pub found_inside_slot : (c : Collection) (k : ItemKind) (fs : List (Name × ItemKind)) → AreInside c k fs → (n : Name) (o : Option ItemKind) → value_at fs n ≡ o → SlotInside c o k
found_inside_slot c k fs h n None e = tt
found_inside_slot c k fs h n (Some j) e = h n j (value_at-among fs n j e)

pub slot_inside_kept : (c d : Collection) → Grows c d → (o : Option ItemKind) (k : ItemKind) → Stands c k → SlotInside c o k → SlotInside d o k
slot_inside_kept c d g None k s h = tt
slot_inside_kept c d g (Some j) k s h = inside_kept c d g j k s h

pub slot_stands : (c : Collection) (o : Option ItemKind) (k : ItemKind) → SlotInside c o k → SlotStands c o
slot_stands c None k h = tt
slot_stands c (Some j) k h = h.0
