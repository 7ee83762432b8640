-- The report of a component against a target, item by item.
use Rattle.std.specs.Prelude.{slice_get, ◌==◌, Result, Ok, Err, OnOk, ⊤, option_map}
use Rattle.std.proofs.Common.{◌≡◌, ℕ, ◌+◌, ◌≤◌, List, [], ◌∷◌, ◌++◌, take, length, Option, Some, None, Bool, true, false, if◌then◌else◌, cond, append_assoc, refl, sym, ap, subst, ◌∙◌, ◌⊎◌, inl, inr}
use Rattle.std.specs.Cmp.Lexicographic.{pointwise}
use Rattle.std.specs.Map.{lookup}
use Rattle.std.specs.Borrow.{Bor}
use Rattle.std.proofs.lemmas.List.{append-nil}
use Rattle.wac_types_base.specs.declared.item.ItemKind.{ItemKind}
use Rattle.wac_types_base.specs.declared.item.«Type».{«Type» as TypeKind}
use Rattle.wac_types_base.specs.declared.item.ExternKind.{ExternKind}
use Rattle.wac_types_base.specs.declared.defined.World.{World}
use Rattle.wac_types_base.specs.declared.defined.UsedType.{UsedType}
use Rattle.wac_types_base.specs.declared.ids.InterfaceId.{InterfaceId}
use Rattle.wac_types_base.specs.declared.ids.WorldId.{WorldId}
use Rattle.wac_types_base.specs.Record.{Collection}
use Rattle.wac_types_base.specs.Graph.{Among}
use Rattle.wac_types_base.specs.Entries.{Name, values_of, value_at, put_entry}
use Rattle.wac_types_base.specs.Collection.{Slot, SlotStands, Stands, IsAcyclic, HasChildren, world_entry}
use Rattle.wac_types_base.specs.Resolving.{promoted}
use Rattle.wac_types_base.specs.Parts.{identifier_in}
use Rattle.wac_types_base.specs.Implicit.{used_interfaces, uses_in, instance_uses, all_uses, implicit_interfaces, named, then_on, by_identifier, shown}
use Rattle.wac_types_base.proofs.Copying.{Among-All}
use Rattle.wac_types_base.proofs.Looked.{take-one_more}
use Rattle.wac_types_base.proofs.Loops.{map-append, take-all}
use Rattle.wac_types_base.proofs.Slots.{stands_typed_func, stands_typed_interface, stands_typed_world}
use Rattle.wac_types_base.proofs.Standing.{interface_found}
use Rattle.wac_types_base.proofs.Telling.{child_stands}
use Rattle.wac_types_base.proofs.Used.{interface_uses_stand, world_uses_stand, world_imports_stand}
use Rattle.wac_types_fit.specs.Trees.{Fit}
use Rattle.wac_types_fit.specs.declared.error.SubtypeError.{SubtypeError}
use Rattle.wac_types_fit.specs.Frames.{Step}
use Rattle.wac_types_fit.specs.Errors.{Said, steps_of, words_of}
use Rattle.wac_types_fit.specs.Words.{AreCalled, CalledUnder}
use Rattle.std.specs.Option.{option_or}
use Rattle.wac_types_fit.specs.Targets.{Mismatched, AreThose, none_left, first_is, first_is_not, target_import, IsLacking, ImportDiffers, ExportDiffers, Leading, ImportLeads, ExportLeads, IsFault, AreFaults, AreLacking, Differing}
use Rattle.wac_types_fit.specs.TargetSteps.{name_if, entry_if, tested, ImportChecked, ExportChecked, KindStands, GivesStanding, AllStand}
use Rattle.wac_types_fit.proofs.Items.{value_at-among}
use Rattle.wac_types_fit.proofs.Unfolded.{world_node}

-- ---- those of a list

one_more : {X : Type 0} (P : X → Type 0) (xs ys : List X) (x : X) → AreThose P xs ys → P x → AreThose P (xs ++ x ∷ []) (ys ++ x ∷ [])
one_more P xs ys x none_left p = first_is p none_left
one_more P xs ys x (first_is {xs = us} {ys = vs} q r) p = first_is q (one_more P us vs x r p)
one_more P xs ys x (first_is_not {xs = us} q r) p = first_is_not q (one_more P us ys x r p)

not_more : {X : Type 0} (P : X → Type 0) (xs ys : List X) (x : X) → AreThose P xs ys → (P x → ⊥) → AreThose P (xs ++ x ∷ []) ys
not_more P xs ys x none_left p = first_is_not p none_left
not_more P xs ys x (first_is {xs = us} {ys = vs} q r) p = first_is q (not_more P us vs x r p)
not_more P xs ys x (first_is_not {xs = us} q r) p = first_is_not q (not_more P us ys x r p)

next_is : {X : Type 0} (P : X → Type 0) (xs ys : List X) (i : ℕ) (x : X) → slice_get xs i ≡ Some x → AreThose P (take i xs) ys → P x → AreThose P (take (i + 1) xs) (ys ++ x ∷ [])
next_is P xs ys i x at h p = subst (λ l. AreThose P l (ys ++ x ∷ [])) (sym (take-one_more xs i x at)) (one_more P (take i xs) ys x h p)

next_is_not : {X : Type 0} (P : X → Type 0) (xs ys : List X) (i : ℕ) (x : X) → slice_get xs i ≡ Some x → AreThose P (take i xs) ys → (P x → ⊥) → AreThose P (take (i + 1) xs) ys
next_is_not P xs ys i x at h p = subst (λ l. AreThose P l ys) (sym (take-one_more xs i x at)) (not_more P (take i xs) ys x h p)

-- one more mismatch, of an item that differs
record ItemDiffers (D : Name × ItemKind → Type 0) (L : Leading) (side : ExternKind) (e : Name × ItemKind) (ms new : List Mismatched) : Type 0 where
  is : D e
  steps : List Step
  expected : Option Name
  found : Option Name
  leads : L e steps expected found
  added : new ≡ ms ++ (e.0, side, Some (steps, (expected, found))) ∷ []

faults_more : (L : Leading) (side : ExternKind) (es : List (Name × ItemKind)) (ms : List Mismatched) (e : Name × ItemKind) (m : Mismatched) → AreFaults L side es ms → IsFault L side e m → AreFaults L side (es ++ e ∷ []) (ms ++ m ∷ [])
faults_more L side [] [] e m h f = (f, tt)
faults_more L side [] (x ∷ ms) e m h f = absurd h
faults_more L side (x ∷ es) [] e m h f = absurd h
faults_more L side (x ∷ es) (y ∷ ms) e m h f = (h.0, faults_more L side es ms e m h.1 f)

module _ (given : Name → Option ItemKind) (es : List (Name × ItemKind)) (i : ℕ) (n : Name) (k : ItemKind) (at : slice_get es i ≡ Some (n, k)) where
  pub lacking_step : (o : Option ItemKind) (ns new : List Name) → o ≡ given n → AreLacking given (take i es) ns → new ≡ ns ++ name_if o n → AreLacking given (take (i + 1) es) new
  lacking_step None ns new e h is = record {
    lacking = h.lacking ++ (n, k) ∷ [];
    those = next_is (IsLacking given) es h.lacking i (n, k) at h.those (sym e);
    names = is ∙ ap (λ l. l ++ n ∷ []) h.names ∙ sym (map-append (λ x. x.0) h.lacking ((n, k) ∷ []));
  }
  lacking_step (Some j) ns new e h is = record {
    lacking = h.lacking;
    those = next_is_not (IsLacking given) es h.lacking i (n, k) at h.those (λ z. absurd (cc (e, z)));
    names = is ∙ append-nil ns ∙ h.names;
  }

  pub missing_step : (o : Option ItemKind) (ms new : List (Name × ItemKind)) → o ≡ given n → AreThose (IsLacking given) (take i es) ms → new ≡ ms ++ entry_if o n k → AreThose (IsLacking given) (take (i + 1) es) new
  missing_step None ms new e h is = subst (AreThose (IsLacking given) (take (i + 1) es)) (sym is) (next_is (IsLacking given) es ms i (n, k) at h (sym e))
  missing_step (Some j) ms new e h is = subst (AreThose (IsLacking given) (take (i + 1) es)) (sym (is ∙ append-nil ms)) (next_is_not (IsLacking given) es ms i (n, k) at h (λ z. absurd (cc (e, z))))

  differing_step : (D : Name × ItemKind → Type 0) (L : Leading) (side : ExternKind) (old ms new : List Mismatched) → Differing D L side (take i es) old ms → ((D (n, k) → ⊥) × (new ≡ ms)) ⊎ ItemDiffers D L side (n, k) ms new → Differing D L side (take (i + 1) es) old new
  differing_step D L side old ms new h (inl p) = record {
    differing = h.differing;
    those = next_is_not D es h.differing i (n, k) at h.those p.0;
    mismatched = h.mismatched;
    faults = h.faults;
    added = p.1 ∙ h.added;
  }
  differing_step D L side old ms new h (inr p) = record {
    differing = h.differing ++ (n, k) ∷ [];
    those = next_is D es h.differing i (n, k) at h.those p.is;
    mismatched = h.mismatched ++ (n, side, Some (p.steps, (p.expected, p.found))) ∷ [];
    faults = faults_more L side h.differing h.mismatched (n, k) (n, side, Some (p.steps, (p.expected, p.found))) h.faults (p.steps, p.expected, p.found, refl, p.leads);
    added = p.added ∙ ap (λ l. l ++ (n, side, Some (p.steps, (p.expected, p.found))) ∷ []) h.added ∙ append_assoc old h.mismatched ((n, side, Some (p.steps, (p.expected, p.found))) ∷ []);
  }

  import_case : (c : Collection) (o : Option ItemKind) (ms new : List Mismatched) → o ≡ given n → ImportChecked c o n k ms new → ((ImportDiffers c given (n, k) → ⊥) × (new ≡ ms)) ⊎ ItemDiffers (ImportDiffers c given) (ImportLeads c given) ExternKind.Import (n, k) ms new
  import_case c None ms new e h = inl (λ d. absurd (cc (e, d.1)), h)
  import_case c (Some j) ms new e (inl p) = inl (λ d. let same : j ≡ d.0 = cc (e, d.1) in d.2 (subst (λ z. Fit c (promoted z) c k) same p.0), p.1)
  import_case c (Some j) ms new e (inr p) = inr (record { is = (j, sym e, p.apart); steps = p.steps; expected = p.expected; found = p.found; leads = (j, sym e, p.leads, p.words.0, p.words.1); added = p.added })

  export_case : (c : Collection) (o : Option ItemKind) (ms new : List Mismatched) → o ≡ given n → ExportChecked c o n k ms new → ((ExportDiffers c given (n, k) → ⊥) × (new ≡ ms)) ⊎ ItemDiffers (ExportDiffers c given) (ExportLeads c given) ExternKind.Export (n, k) ms new
  export_case c None ms new e h = inl (λ d. absurd (cc (e, d.1)), h)
  export_case c (Some j) ms new e (inl p) = inl (λ d. let same : j ≡ d.0 = cc (e, d.1) in d.2 (subst (λ z. Fit c z c (promoted k)) same p.0), p.1)
  export_case c (Some j) ms new e (inr p) = inr (record { is = (j, sym e, p.apart); steps = p.steps; expected = p.expected; found = p.found; leads = (j, sym e, p.leads, p.words.0, p.words.1); added = p.added })

  pub import_step : (c : Collection) (o : Option ItemKind) (old ms new : List Mismatched) → o ≡ given n → Differing (ImportDiffers c given) (ImportLeads c given) ExternKind.Import (take i es) old ms → ImportChecked c o n k ms new → Differing (ImportDiffers c given) (ImportLeads c given) ExternKind.Import (take (i + 1) es) old new
  import_step c o old ms new e h s = differing_step (ImportDiffers c given) (ImportLeads c given) ExternKind.Import old ms new h (import_case c o ms new e s)

  pub export_step : (c : Collection) (o : Option ItemKind) (old ms new : List Mismatched) → o ≡ given n → Differing (ExportDiffers c given) (ExportLeads c given) ExternKind.Export (take i es) old ms → ExportChecked c o n k ms new → Differing (ExportDiffers c given) (ExportLeads c given) ExternKind.Export (take (i + 1) es) old new
  export_step c o old ms new e h s = differing_step (ExportDiffers c given) (ExportLeads c given) ExternKind.Export old ms new h (export_case c o ms new e s)

pub nothing_lacking : (given : Name → Option ItemKind) (es : List (Name × ItemKind)) (ns : List Name) → ns ≡ [] → AreLacking given (take 0 es) ns
nothing_lacking given es ns e = record { lacking = []; those = none_left; names = e }

pub nothing_differs : (D : Name × ItemKind → Type 0) (L : Leading) (side : ExternKind) (es : List (Name × ItemKind)) (old : List Mismatched) → Differing D L side (take 0 es) old old
nothing_differs D L side es old = record { differing = []; those = none_left; mismatched = []; faults = tt; added = sym (append-nil old) }

pub all_lacking : (given : Name → Option ItemKind) (es : List (Name × ItemKind)) (ns : List Name) (i : ℕ) → length es ≤ i → AreLacking given (take i es) ns → AreLacking given es ns
all_lacking given es ns i h a = subst (λ l. AreLacking given l ns) (take-all es i h) a

pub all_those : (P : Name × ItemKind → Type 0) (es ms : List (Name × ItemKind)) (i : ℕ) → length es ≤ i → AreThose P (take i es) ms → AreThose P es ms
all_those P es ms i h a = subst (λ l. AreThose P l ms) (take-all es i h) a

pub all_differing : (D : Name × ItemKind → Type 0) (L : Leading) (side : ExternKind) (es : List (Name × ItemKind)) (old new : List Mismatched) (i : ℕ) → length es ≤ i → Differing D L side (take i es) old new → Differing D L side es old new
all_differing D L side es old new i h a = subst (λ l. Differing D L side l old new) (take-all es i h) a

-- ---- standing

pub promoted_stands : (c : Collection) (k : ItemKind) → Stands c k → Stands c (promoted k)
promoted_stands c (ItemKind.Ty (TypeKind.Resource r)) s = s
promoted_stands c (ItemKind.Ty (TypeKind.Func r)) s = stands_typed_func c r s
promoted_stands c (ItemKind.Ty (TypeKind.Value r)) s = s
promoted_stands c (ItemKind.Ty (TypeKind.Interface r)) s = stands_typed_interface c r s
promoted_stands c (ItemKind.Ty (TypeKind.World r)) s = stands_typed_world c r s
promoted_stands c (ItemKind.Ty (TypeKind.Module r)) s = s
promoted_stands c (ItemKind.Func r) s = s
promoted_stands c (ItemKind.Instance r) s = s
promoted_stands c (ItemKind.Component r) s = s
promoted_stands c (ItemKind.Module r) s = s
promoted_stands c (ItemKind.Value r) s = s

found_stands : (c : Collection) (es : List (Name × ItemKind)) → AllStand c es → (n : Name) (o : Option ItemKind) → value_at es n ≡ o → KindStands c o
found_stands c es h n None e = tt
found_stands c es h n (Some k) e = h n k (value_at-among es n k e)

pub gives_standing : (c : Collection) (es : List (Name × ItemKind)) → AllStand c es → GivesStanding c (value_at es)
gives_standing c es h n = found_stands c es h n (value_at es n) refl

either_stands : (c : Collection) (o p : Option ItemKind) → KindStands c o → KindStands c p → KindStands c (option_or o p)
either_stands c None p h k = k
either_stands c (Some j) p h k = h

pub target_standing : (c : Collection) (es fs : List (Name × ItemKind)) → AllStand c es → AllStand c fs → GivesStanding c (target_import es fs)
target_standing c es fs h k n = either_stands c (value_at es n) (value_at fs n) (gives_standing c es h n) (gives_standing c fs k n)

abbrev IdsStand : Collection → List InterfaceId → Type 0
IdsStand c is = (i : InterfaceId) → Among i is → Stands c (ItemKind.Instance i)

put_at_stands : (b : Bool) (c : Collection) (e : Name × ItemKind) (es rest : List (Name × ItemKind)) (k : ItemKind) → AllStand c (e ∷ es) → Stands c k → AllStand c rest → AllStand c (if b then (e.0, k) ∷ es else e ∷ rest)
put_at_stands true c e es rest k h s r m j (inl p) = subst (Stands c) (sym (ap (λ q. q.1) p)) s
put_at_stands true c e es rest k h s r m j (inr n) = h m j (inr n)
put_at_stands false c e es rest k h s r m j (inl p) = h m j (inl p)
put_at_stands false c e es rest k h s r m j (inr n) = r m j n

put_stands : (c : Collection) (es : List (Name × ItemKind)) (n : Name) (k : ItemKind) → AllStand c es → Stands c k → AllStand c (put_entry es n k)
put_stands c [] n k h s m j (inl p) = subst (Stands c) (sym (ap (λ q. q.1) p)) s
put_stands c [] n k h s m j (inr q) = absurd q
put_stands c (e ∷ es) n k h s m j a = put_at_stands (pointwise ◌==◌ n e.0) c e es (put_entry es n k) k h s (put_stands c es n k (λ m j a. h m j (inr a)) s) m j a

named_stands : (c : Collection) (es : List (Name × ItemKind)) (is : List InterfaceId) (i : InterfaceId) (o : Option Name) (fs : List (Name × ItemKind)) → AllStand c es → Stands c (ItemKind.Instance i) → ((gs : List (Name × ItemKind)) → AllStand c gs → by_identifier c gs is ≡ Some fs → AllStand c fs) → then_on (named es i o) (λ gs. by_identifier c gs is) ≡ Some fs → AllStand c fs
named_stands c es is i None fs h s r e = absurd (cc e)
named_stands c es is i (Some n) fs h s r e = r (put_entry es n (ItemKind.Instance i)) (put_stands c es n (ItemKind.Instance i) h s) e

identified_stand : (c : Collection) (is : List InterfaceId) (es fs : List (Name × ItemKind)) → AllStand c es → IdsStand c is → by_identifier c es is ≡ Some fs → AllStand c fs
identified_stand c [] es fs h r e = let same : es ≡ fs = cc e in subst (AllStand c) same h
identified_stand c (i ∷ is) es fs h r e =
    named_stands c es is i (identifier_in (slice_get c.interfaces i.index)) fs h (r i (inl refl)) (λ gs g k. identified_stand c is gs fs g (λ j m. r j (inr m)) k) e

used_ids : (c : Collection) (us : List UsedType) → ((u : UsedType) → Among u us → Stands c (ItemKind.Instance u.interface)) → IdsStand c (used_interfaces us)
used_ids c [] h i m = absurd m
used_ids c (u ∷ us) h i (inl e) = subst (λ j. Stands c (ItemKind.Instance j)) (sym e) (h u (inl refl))
used_ids c (u ∷ us) h i (inr m) = used_ids c us (λ v n. h v (inr n)) i m

both_ids : (c : Collection) (is js : List InterfaceId) → IdsStand c is → IdsStand c js → IdsStand c (is ++ js)
both_ids c [] js h k i m = k i m
both_ids c (j ∷ is) js h k i (inl e) = h i (inl e)
both_ids c (j ∷ is) js h k i (inr m) = both_ids c is js (λ z n. h z (inr n)) k i m

instance_ids : (c : Collection) → IsAcyclic c → (k : ItemKind) → Stands c k → IdsStand c (instance_uses c k)
instance_ids c a (ItemKind.Instance i) s j m =
    let f = interface_found c i s in
    subst (λ o. IdsStand c (uses_in o)) (sym f.at) (used_ids c (values_of f.value.uses) (interface_uses_stand c a i f.value f.at f.own)) j m
instance_ids c a (ItemKind.Ty t) s i m = absurd m
instance_ids c a (ItemKind.Func t) s i m = absurd m
instance_ids c a (ItemKind.Component t) s i m = absurd m
instance_ids c a (ItemKind.Module t) s i m = absurd m
instance_ids c a (ItemKind.Value t) s i m = absurd m

all_ids : (c : Collection) → IsAcyclic c → (ks : List ItemKind) → ((k : ItemKind) → Among k ks → Stands c k) → IdsStand c (all_uses c ks)
all_ids c a [] h i m = absurd m
all_ids c a (k ∷ ks) h i m = both_ids c (instance_uses c k) (all_uses c ks) (instance_ids c a k (h k (inl refl))) (all_ids c a ks (λ j m. h j (inr m))) i m

nothing_stands : (c : Collection) → AllStand c []
nothing_stands c n k m = absurd m

-- the interfaces that a world imports implicitly stand
pub implicit_stand : (c : Collection) → IsAcyclic c → (w : World) → HasChildren c (world_entry w) → (fs : List (Name × ItemKind)) → by_identifier c [] (implicit_interfaces c w) ≡ Some fs → AllStand c fs
implicit_stand c a w h fs e =
    identified_stand c (implicit_interfaces c w) [] fs (nothing_stands c)
    (both_ids c (used_interfaces (values_of w.uses)) (all_uses c (values_of w.imports)) (used_ids c (values_of w.uses) (world_uses_stand c w h)) (all_ids c a (values_of w.imports) (world_imports_stand c w h))) e

by_slot : (c : Collection) (xs : List Slot) → ((j : ItemKind) → Among (Some j) xs → Stands c j) → (s : Slot) → Among s xs → SlotStands c s
by_slot c xs h None m = tt
by_slot c xs h (Some j) m = h j m

-- what a world that stands holds stands
pub world_children : (c : Collection) → IsAcyclic c → (id : WorldId) (x : World) → slice_get c.worlds id.index ≡ Some x → id.collection ≡ c.number → HasChildren c (world_entry x)
world_children c a id x e o = Among-All (SlotStands c) (world_entry x).1 (by_slot c (world_entry x).1 (child_stands c a (ItemKind.Component id) (world_entry x) (world_node c id x e o)))

-- ---- looking up among borrowed names

pub looked_shown : {T : Type 0} (n : Name) (es : List (Bor (List ℕ) × T)) → lookup (λ k. pointwise ◌==◌ n k.now) es ≡ value_at (shown es) n
looked_shown n [] = refl
looked_shown n (e ∷ es) = ap (λ o. cond (pointwise ◌==◌ n e.0.now) (Some e.1) o) (looked_shown n es)

-- a fact that follows from another, where the answer is Ok
pub done_by : {E : Type 0} (r : Result ⊤ E) (P Q : Type 0) → OnOk r P → (P → Q) → OnOk r Q
done_by (Ok x) P Q h f = f h
done_by (Err e) P Q h f = tt

-- ---- what a fault says

pub steps_said : (e : SubtypeError) (s : Said) → words_of e ≡ Some s → steps_of e ≡ Some s.0
steps_said (SubtypeError.Mismatch fs x y) s is = ap (λ o. option_map (λ (p : Said). p.0) o) is
steps_said SubtypeError.Memory s is = absurd (cc is)

module _ (G A : Option Name → Type 0) (e f : Option Name) where
  pub tested_import : (side : ExternKind) (t : Bool) → side ≡ ExternKind.Import → t ≡ true → AreCalled t G A e f → CalledUnder (tested side) G A e f
  tested_import ExternKind.Import true s is h = h
  tested_import ExternKind.Import false s is h = absurd (cc is)
  tested_import ExternKind.Export t s is h = absurd (cc s)

  pub tested_export : (side : ExternKind) (t : Bool) → (side ≡ ExternKind.Import → ⊥) → t ≡ false → AreCalled t G A e f → CalledUnder (tested side) G A e f
  tested_export ExternKind.Import t s is h = absurd (s refl)
  tested_export ExternKind.Export true s is h = absurd (cc is)
  tested_export ExternKind.Export false s is h = h
