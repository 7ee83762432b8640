-- What each call does, from what its parts do.
use Rattle.std.proofs.Common.{◌≡◌, ◌≢◌, ℕ, zero, suc, ◌+◌, ◌<◌, ◌≤◌, Bool, true, false, ◌||◌, List, [], ◌∷◌, ◌++◌, length, take, get_or, Some, slice_get, refl, sym, ap, subst, ◌∙◌, inl, inr, arith}
use Rattle.std.specs.Prelude.{String, string_bytes}
use Rattle.std.proofs.lemmas.List.{take_more}
use Rattle.wac_types_base.specs.declared.ids.WorldId.{WorldId}
use Rattle.wac_types_base.specs.declared.item.ItemKind.{ItemKind}
use Rattle.wac_types_base.specs.Record.{Collection}
use Rattle.wac_types_base.specs.Collection.{IsAcyclic, Stands}
use Rattle.wac_types_base.specs.Entries.{Name, names_of, texts_of, AreDistinct}
use Rattle.wac_types_base.specs.Graph.{Among}
use Rattle.wac_types_base.specs.Stated.{Stated, stated_of, imports_of, exports_of}
use Rattle.wac_types_base.proofs.Looked.{take-one_more}
use Rattle.wac_types_names.specs.Packaged.{Packaged}
use Rattle.wac_graph_core.specs.declared.ids.PackageId.{PackageId}
use Rattle.wac_graph_core.specs.Nodes.{Role, plain_node}
use Rattle.wac_graph_core.specs.Graph.{Graph, node_at, package_of, item_export, IsGraph}
use Rattle.wac_graph_core.specs.Steps.{Instantiates}
use Rattle.wac_graph_core.proofs.NodeMap.{get-insert_same}
use Rattle.wac_graph_plug.specs.declared.matching.Match.{Match}
use Rattle.wac_graph_plug.specs.declared.error.PlugError.{PlugError}
use Rattle.wac_graph_plug.specs.Plugging.{AreMatchesOf, AreMatches, no_plugs}
use Rattle.wac_graph_plug.specs.Steps.{Grown, HasExport, Passes, PassesAll, passed_next, plugged_none, plugged_next, ExportsOne, ExportsAll, exported_next}
use Rattle.wac_graph_plug.specs.Stops.{part_in, world_of, has_match, any_match, AreMatchesIn, PlugsMatches, StopsMatches, PlugsAll, StopsPassing}
use Rattle.wac_graph_plug.proofs.Growing.{same_world}
use Rattle.wac_graph_plug.proofs.Fitting.{matched_in, has_export}
use Rattle.wac_graph_plug.proofs.Causes.{matches_more}
use Rattle.wac_types_fit.proofs.Items.{Among-last}
use Rattle.wac_types_base.proofs.Loops.{mapped_next}

-- ---- one after another

take_next : {X : Type 0} (xs : List X) (i : ℕ) (x : X) → i < length xs → x ≡ get_or xs i x → take (i + 1) xs ≡ take i xs ++ x ∷ []
take_next xs i x within is = take_more xs i x within ∙ ap (λ d. take i xs ++ d ∷ []) (sym is)

pub passes_next : (s p : ℕ) (ms : List Match) (i : ℕ) (m : Match) (f g h : Graph) → i < length ms → m ≡ get_or ms i m → PassesAll s p (take i ms) f g → Passes s p m g h → PassesAll s p (take (i + 1) ms) f h
passes_next s p ms i m f g h within is rest one = subst (λ l. PassesAll s p l f h) (sym (take_next ms i m within is)) (passed_next rest one)

pub exports_next : (s : ℕ) (ns : List Name) (i : ℕ) (n : Name) (f g h : Graph) → slice_get ns i ≡ Some n → ExportsAll s (take i ns) f g → ExportsOne s n g h → ExportsAll s (take (i + 1) ns) f h
exports_next s ns i n f g h at rest one = subst (λ l. ExportsAll s l f h) (sym (take-one_more ns i n at)) (exported_next rest one)

-- ---- worlds

pub world_is : (g : Graph) (id : PackageId) (p : Packaged) (c : Collection) (ty : WorldId) → package_of g id ≡ Some p → ty ≡ p.ty → c ≡ g.types → stated_of c (ItemKind.Component ty) ≡ world_of g id
world_is g id p c ty at is types =
    ap (λ t. stated_of c (ItemKind.Component t)) is ∙ ap (λ d. stated_of d (ItemKind.Component p.ty)) types ∙ sym (ap (λ o. (part_in g.types o).world) at)

pub world_stands : (g : Graph) (id : PackageId) (p : Packaged) (c : Collection) (ty : WorldId) → IsGraph g → package_of g id ≡ Some p → ty ≡ p.ty → c ≡ g.types → Stands c (ItemKind.Component ty)
world_stands g id p c ty is at same types =
    subst (λ d. Stands d (ItemKind.Component ty)) (sym types) (subst (λ t. Stands g.types (ItemKind.Component t)) (sym same) (is.packages.stand id p at).world)

-- an instance that was made just now has each export of its package's world
pub made_has : (g h : Graph) (id : PackageId) (k : ℕ) → IsGraph g → IsAcyclic g.types → (made : Instantiates g h id k) → AreDistinct (names_of (exports_of (world_of g id))) → (n : Name) (t : Stated) → Among (n, t) (exports_of (world_of g id)) → HasExport h k n
made_has g h id k is acyclic made d n t at =
    let world : world_of g id ≡ stated_of g.types (ItemKind.Component made.of.ty) = ap (λ o. (part_in g.types o).world) made.is in
    let new_node = plain_node Role.Instance (Some id) (ItemKind.Instance made.of.instance_type) in
    let r = has_export g.types acyclic made.of (is.packages.stand id made.of made.is) (subst (λ w. AreDistinct (names_of (exports_of w))) world d) n t (subst (λ w. Among (n, t) (exports_of w)) world at) in (
      r.0,
      record {
        node = new_node;
        there = ap (λ (x : Graph). node_at x k) made.made ∙ get-insert_same g.nodes k new_node;
        kind = ap (λ (x : Graph). item_export x.types (ItemKind.Instance made.of.instance_type) n) made.made ∙ r.1;
      },
    )

-- of its matches
pub match_has : (g h : Graph) (socket id : PackageId) (k : ℕ) (ms : List Match) → IsGraph g → IsAcyclic g.types → Instantiates g h id k → AreDistinct (names_of (exports_of (world_of g id))) → AreMatchesIn g socket id ms → (m : Match) → Among m ms → HasExport h k m.export
match_has g h socket id k ms is acyclic made d are m at = let r = matched_in m are at in made_has g h id k is acyclic made d m.export r.given r.among

entry_named : (es : List (Name × Stated)) (n : Name) → Among n (names_of es) → (t : Stated) × Among (n, t) es
entry_named [] n at = absurd at
entry_named (e ∷ es) n (inl same) = (e.1, inl (λ i. (same i, e.1)))
entry_named (e ∷ es) n (inr at) = let r = entry_named es n at in (r.0, inr r.1)

-- of all names
pub name_has : (g h : Graph) (id : PackageId) (k : ℕ) → IsGraph g → IsAcyclic g.types → Instantiates g h id k → AreDistinct (names_of (exports_of (world_of g id))) → (n : Name) → Among n (names_of (exports_of (world_of g id))) → HasExport h k n
name_has g h id k is acyclic made d n at = let r = entry_named (exports_of (world_of g id)) n at in made_has g h id k is acyclic made d n r.0 r.1

-- ---- one plug

pub plugs_none : (g : Graph) (socket id : PackageId) (s : ℕ) (ms : List Match) → AreMatchesIn g socket id ms → AreDistinct (names_of (exports_of (world_of g id))) → ms ≡ [] → PlugsMatches g g socket id s false
plugs_none g socket id s ms are d none = record { matches = ms; are = are; distinct = d; plugged = inl (none, refl); has = ap has_match (sym none) }

has_some : (ms : List Match) → ms ≢ [] → true ≡ has_match ms
has_some [] ne = absurd (ne refl)
has_some (m ∷ ms) ne = refl

pub plugs_some : (g mid h : Graph) (socket id : PackageId) (s p : ℕ) (ms : List Match) → AreMatchesIn g socket id ms → AreDistinct (names_of (exports_of (world_of g id))) → ms ≢ [] → Instantiates g mid id p → PassesAll s p ms mid h → PlugsMatches g h socket id s true
plugs_some g mid h socket id s p ms are d some made passed =
    record { matches = ms; are = are; distinct = d; plugged = inr (record { some = some; plug = p; middle = mid; made = made; passed = passed }); has = has_some ms some }

pub stops_some : (g mid h : Graph) (socket id : PackageId) (s p : ℕ) (ms : List Match) (e : PlugError) → AreMatchesIn g socket id ms → AreDistinct (names_of (exports_of (world_of g id))) → Instantiates g mid id p → StopsPassing s p ms e mid h → StopsMatches g h socket id s e
stops_some g mid h socket id s p ms e are d made stops = record { matches = ms; are = are; distinct = d; stops = record { plug = p; middle = mid; made = made; stops = stops } }

-- ---- each plug

pub plugs_start : (g : Graph) (socket : PackageId) (s : ℕ) → PlugsAll g g socket [] s false
plugs_start g socket s = record { matches = []; are = no_plugs; distinct = λ id at. absurd at; plugged = plugged_none; has = refl }

any_end : (mss : List (List Match)) (ms : List Match) → any_match (mss ++ ms ∷ []) ≡ (any_match mss || has_match ms)
any_end [] ms = or_false (has_match ms)
  where
    or_false : (b : Bool) → (b || false) ≡ b
    or_false true = refl
    or_false false = refl
any_end (x ∷ mss) ms = ap (λ b. has_match x || b) (any_end mss ms) ∙ or_assoc (has_match x) (any_match mss) (has_match ms)
  where
    or_assoc : (a b c : Bool) → (a || (b || c)) ≡ ((a || b) || c)
    or_assoc true b c = refl
    or_assoc false b c = refl

pub plugs_next : (old g h : Graph) (socket : PackageId) (ids : List PackageId) (i : ℕ) (id : PackageId) (s : ℕ) (a b c : Bool) → i < length ids → id ≡ get_or ids i id → Grown old g → PlugsAll old g socket (take i ids) s a → PlugsMatches g h socket id s b → c ≡ (a || b)
    → PlugsAll old h socket (take (i + 1) ids) s c
plugs_next old g h socket ids i id s a b c within is grown before one either =
    subst (λ l. PlugsAll old h socket l s c) (sym (take_next ids i id within is))
    (record {
      matches = before.matches ++ one.matches ∷ [];
      are = subst (λ ws. AreMatches (world_of old socket) ws (before.matches ++ one.matches ∷ [])) (sym (mapped_next (world_of old) (take i ids) id))
          (matches_more (world_of old id) one.matches before.are
          (subst (λ w. AreMatchesOf (imports_of w) (exports_of (world_of old id)) one.matches) (same_world old g grown socket)
          (subst (λ w. AreMatchesOf (imports_of (world_of g socket)) (exports_of w) one.matches) (same_world old g grown id) one.are)));
      distinct = λ x at. elim (Among-last (take i ids) id x at) [
        | inl old_one ↦ before.distinct x old_one
        | inr same ↦ subst (λ y. AreDistinct (names_of (exports_of (world_of old y)))) (sym same) (subst (λ w. AreDistinct (names_of (exports_of w))) (same_world old g grown id) one.distinct)
      ];
      plugged = plugged_next before.plugged one.plugged;
      has = either ∙ ap (λ x. x || b) before.has ∙ ap (λ x. any_match before.matches || x) one.has ∙ sym (any_end before.matches one.matches);
    })

-- ---- texts

pub text_index : {Z : Type 0} (ts : List (String Z)) (i : ℕ) (t : String Z) (n : Name) → i < length ts → t ≡ get_or ts i t → n ≡ string_bytes t → slice_get (texts_of ts) i ≡ Some n
text_index [] i t n within is same = absurd (omega (arith, within))
text_index (x ∷ ts) zero t n within is same = ap (λ y. Some (string_bytes y)) (sym is) ∙ ap Some (sym same)
text_index (x ∷ ts) (suc i) t n within is same = text_index ts i t n (omega (arith, within)) is same

pub text_within : {Z : Type 0} (ts : List (String Z)) (i : ℕ) → i < length ts → i < length (texts_of ts)
text_within ts i within = subst (λ k. i < k) (sym (length_texts ts)) within
  where
    length_texts : {Z : Type 0} (ts : List (String Z)) → length (texts_of ts) ≡ length ts
    length_texts [] = refl
    length_texts (t ∷ ts) = ap suc (length_texts ts)

pub texts_all : {Z : Type 0} (ts : List (String Z)) (i : ℕ) → length ts ≤ i → take i (texts_of ts) ≡ texts_of ts
texts_all [] zero past = refl
texts_all [] (suc i) past = refl
texts_all (t ∷ ts) zero past = absurd (omega (arith, past))
texts_all (t ∷ ts) (suc i) past = ap (λ ns. string_bytes t ∷ ns) (texts_all ts i (omega (arith, past)))

-- ---- the matches of one plug, as they are found

pub are_in : (g : Graph) (socket id : PackageId) (ps pp : Packaged) (c : Collection) (given asked : WorldId) (ms : List Match) → package_of g socket ≡ Some ps → asked ≡ ps.ty → package_of g id ≡ Some pp → given ≡ pp.ty → c ≡ g.types
    → AreMatchesOf (imports_of (stated_of c (ItemKind.Component asked))) (exports_of (stated_of c (ItemKind.Component given))) ms → AreMatchesIn g socket id ms
are_in g socket id ps pp c given asked ms at same bt tame types are =
    subst (λ w. AreMatchesOf (imports_of w) (exports_of (world_of g id)) ms) (world_is g socket ps c asked at same types)
    (subst (λ w. AreMatchesOf (imports_of (stated_of c (ItemKind.Component asked))) (exports_of w) ms) (world_is g id pp c given bt tame types) are)

pub distinct_in : (g : Graph) (id : PackageId) (pp : Packaged) (c : Collection) (given : WorldId) → package_of g id ≡ Some pp → given ≡ pp.ty → c ≡ g.types → AreDistinct (names_of (exports_of (stated_of c (ItemKind.Component given)))) → AreDistinct (names_of (exports_of (world_of g id)))
distinct_in g id pp c given bt tame types d = subst (λ w. AreDistinct (names_of (exports_of w))) (world_is g id pp c given bt tame types) d

pub none_of : (ms l : List Match) (b : Bool) → b ≡ has_match l → l ≡ ms → b ≡ false → ms ≡ []
none_of [] l b is same none = refl
none_of (m ∷ ms) l b is same none = absurd (cc (is, ap has_match same, none))

pub some_of : (ms l : List Match) (b : Bool) → b ≡ has_match l → l ≡ ms → b ≡ true → ms ≢ []
some_of ms l b is same some e = absurd (cc (is, ap has_match (same ∙ e), some))

-- an item that is read with any default
pub own_default : {X : Type 0} (xs : List X) (i : ℕ) (d e : X) → i < length xs → get_or xs i d ≡ get_or xs i e
own_default [] i d e within = absurd (omega (arith, within))
own_default (x ∷ xs) zero d e within = refl
own_default (x ∷ xs) (suc i) d e within = own_default xs i d e (omega (arith, within))
