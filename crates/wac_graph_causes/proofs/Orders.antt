-- What an item uses of imports, name by name, and imports that are put in order.
use Rattle.std.specs.Prelude.{option_map, if◌then◌else◌}
use Rattle.std.specs.List.{fold, cons_option}
use Rattle.std.specs.Cmp.Lexicographic.{pointwise}
use Rattle.std.proofs.Math.Bool.{or-false}
use Rattle.std.proofs.lemmas.List.{append-nil, append_assoc}
use Rattle.std.proofs.lemmas.List.Elements.{filter_map-append}
use Rattle.std.proofs.lemmas.List.Sums.{fold-append}
use Rattle.std.proofs.Common.{◌≡◌, ℕ, zero, suc, ◌==◌, Bool, true, false, true≢false, ◌||◌, List, [], ◌∷◌, ◌++◌, length, Option, Some, None, refl, sym, ap, ◌∙◌}
use Rattle.wac_types_base.specs.declared.ids.InterfaceId.{InterfaceId}
use Rattle.wac_types_base.specs.declared.item.ItemKind.{ItemKind}
use Rattle.wac_types_base.specs.Entries.{Name, names_of, value_at, has_name, put_name}
use Rattle.wac_types_base.specs.Collection.{IsAcyclic}
use Rattle.wac_types_base.specs.Parts.{identifier_in}
use Rattle.wac_types_base.specs.Stated.{Stated, stated_of, identifier_of}
use Rattle.wac_types_base.proofs.Loops.{names-with_values}
use Rattle.wac_types_base.proofs.Stating.{value_with}
use Rattle.wac_composition.specs.Circles.{put, written_names, used_names}
use Rattle.wac_types_parts.specs.Parts.{interface_in}
use Rattle.wac_writable.proofs.HolderLaws.{has_append, has_put}
use Rattle.wac_types_parts.proofs.PartsStated.{identifier_is}
use Rattle.wac_graph_causes.specs.declared.order.Sources.{Sources}
use Rattle.wac_graph_causes.specs.declared.order.Order.{Order}
use Rattle.wac_graph_causes.specs.Orders.{AddsUsed, IsBegun, Puts, PutsAll, spell_in, interfaces_stated, import_names_of}

-- ---- names among names

pub has_last : (ns : List Name) (n m : Name) → has_name (ns ++ n ∷ []) m ≡ (has_name ns m || pointwise ◌==◌ m n)
has_last ns n m = has_append ns (n ∷ []) m ∙ ap (λ b. has_name ns m || b) (or-false (pointwise ◌==◌ m n))

-- ---- what is used

module _ (s : Sources) where
  used_append : (xs ys : List Stated) → import_names_of s (xs ++ ys) ≡ import_names_of s xs ++ import_names_of s ys
  used_append xs ys = filter_map-append (λ i. option_map (spell_in s) (identifier_of i)) xs ys

  pub adds_none : (old : List Name) → AddsUsed s [] old old
  adds_none old = sym (append-nil old)

  pub adds_both : (xs ys : List Stated) (a b c : List Name) → AddsUsed s xs a b → AddsUsed s ys b c → AddsUsed s (xs ++ ys) a c
  adds_both xs ys a b c f g =
      g ∙ ap (λ l. l ++ import_names_of s ys) f ∙ append_assoc a (import_names_of s xs) (import_names_of s ys) ∙ ap (λ l. a ++ l) (sym (used_append xs ys))

  pub adds_as : (xs ys : List Stated) (a b : List Name) → xs ≡ ys → AddsUsed s xs a b → AddsUsed s ys a b
  adds_as xs ys a b e f = f ∙ ap (λ l. a ++ import_names_of s l) e

  one_named : (x : Stated) (o : Option Name) → identifier_of x ≡ o → import_names_of s (x ∷ []) ≡ cons_option (option_map (spell_in s) o) []
  one_named x o e = ap (λ p. cons_option (option_map (spell_in s) p) []) e

  module _ (acyclic : IsAcyclic s.types.now) (id : InterfaceId) (a : List Name) where
    pub use_added : (n : Name) → Some n ≡ identifier_in (interface_in s.types.now id) → (b : List Name) → b ≡ a ++ spell_in s n ∷ [] → AddsUsed s (stated_of s.types.now (ItemKind.Instance id) ∷ []) a b
    use_added n e b f = f ∙ ap (λ l. a ++ l) (sym (one_named (stated_of s.types.now (ItemKind.Instance id)) (Some n) (identifier_is s.types.now acyclic id ∙ sym e)))

    pub no_use : None ≡ identifier_in (interface_in s.types.now id) → AddsUsed s (stated_of s.types.now (ItemKind.Instance id) ∷ []) a a
    no_use e = sym (append-nil a) ∙ ap (λ l. a ++ l) (sym (one_named (stated_of s.types.now (ItemKind.Instance id)) None (identifier_is s.types.now acyclic id ∙ sym e)))

  -- what the import of a name uses
  pub needs_there : (n : Name) (k : ItemKind) → value_at s.interfaces.now n ≡ Some k → used_names (spell_in s) (interfaces_stated s) (Some (stated_of s.types.now k)) ≡ used_names (spell_in s) (interfaces_stated s) (value_at (interfaces_stated s) n)
  needs_there n k e = ap (used_names (spell_in s) (interfaces_stated s)) (sym (value_with (stated_of s.types.now) s.interfaces.now n ∙ ap (option_map (stated_of s.types.now)) e))

  pub needs_none : (n : Name) → value_at s.interfaces.now n ≡ None → [] ≡ used_names (spell_in s) (interfaces_stated s) (value_at (interfaces_stated s) n)
  needs_none n e = ap (used_names (spell_in s) (interfaces_stated s)) (sym (value_with (stated_of s.types.now) s.interfaces.now n ∙ ap (option_map (stated_of s.types.now)) e))

-- ---- the order

or_turned : (t w n : Bool) → ((w || n) || t) ≡ ((t || w) || n)
or_turned true true true = refl
or_turned true true false = refl
or_turned true false true = refl
or_turned true false false = refl
or_turned false true true = refl
or_turned false true false = refl
or_turned false false true = refl
or_turned false false false = refl

or_last : (t w n : Bool) → ((t || w) || n) ≡ (w || (n || t))
or_last true true n = refl
or_last true false true = refl
or_last true false false = refl
or_last false true n = refl
or_last false false true = refl
or_last false false false = refl

module _ (s : Sources) where
  pub none_left : (n : Name) (o : Order) → Puts s 0 n o o
  none_left n o ws h = (h, refl)

  pub begun_stays : (k : ℕ) (n : Name) (o : Order) → has_name o.begun n ≡ true → Puts s k n o o
  begun_stays zero n o e ws h = (h, refl)
  begun_stays (suc k) n o e ws h = (h, go (has_name ws n || has_name o.written.items n) (sym (h n) ∙ e))
    where
      go : (b : Bool) → b ≡ true → o.written.items ≡ (if b then o.written.items else fold (put (spell_in s) (interfaces_stated s) k (n ∷ ws)) o.written.items (used_names (spell_in s) (interfaces_stated s) (value_at (interfaces_stated s) n)) ++ n ∷ [])
      go true q = refl
      go false q = absurd (true≢false (sym q))

  pub put_nothing : (k : ℕ) (o : Order) → PutsAll s k [] o o
  put_nothing k o ws h = (h, refl)

  pub put_more : (k : ℕ) (xs : List Name) (x : Name) (a b c : Order) → PutsAll s k xs a b → Puts s k x b c → PutsAll s k (xs ++ x ∷ []) a c
  put_more k xs x a b c f g ws h =
      let r = f ws h in
      let t = g ws r.0 in
      (t.0, t.1 ∙ ap (λ l. put (spell_in s) (interfaces_stated s) k ws l x) r.1 ∙ sym (fold-append (put (spell_in s) (interfaces_stated s) k ws) a.written.items xs (x ∷ [])))

  -- an import that is begun is put behind what it uses
  module _ (k : ℕ) (n : Name) (o a b c : Order) (new : has_name o.begun n ≡ false) (begun : a.begun ≡ put_name o.begun n) (same : a.written.items ≡ o.written.items)
      (needs : List Name) (are : needs ≡ used_names (spell_in s) (interfaces_stated s) (value_at (interfaces_stated s) n)) (all : PutsAll s k needs a b) (kept : c.begun ≡ b.begun) (last : c.written.items ≡ b.written.items ++ n ∷ []) where
    waits : (ws : List Name) → IsBegun s ws o → IsBegun s (n ∷ ws) a
    waits ws h m =
        ap (λ l. has_name l m) begun ∙ has_put o.begun n m ∙ ap (λ t. t || pointwise ◌==◌ m n) (h m)
        ∙ or_turned (pointwise ◌==◌ m n) (has_name ws m) (has_name o.written.items m) ∙ ap (λ l. (pointwise ◌==◌ m n || has_name ws m) || has_name l m) (sym same)

    stands : (ws : List Name) → IsBegun s (n ∷ ws) b → IsBegun s ws c
    stands ws h m =
        ap (λ l. has_name l m) kept ∙ h m ∙ or_last (pointwise ◌==◌ m n) (has_name ws m) (has_name b.written.items m)
        ∙ ap (λ t. has_name ws m || t) (sym (has_last b.written.items n m)) ∙ ap (λ l. has_name ws m || has_name l m) (sym last)

    pub put_behind : Puts s (suc k) n o c
    put_behind ws h =
        let r = all (n ∷ ws) (waits ws h) in (
          stands ws r.0,
          last ∙ ap (λ l. l ++ n ∷ []) (r.1 ∙ ap (fold (put (spell_in s) (interfaces_stated s) k (n ∷ ws)) a.written.items) are ∙ ap (λ l. fold (put (spell_in s) (interfaces_stated s) k (n ∷ ws)) l (used_names (spell_in s) (interfaces_stated s) (value_at (interfaces_stated s) n))) same)
              ∙ go ws (has_name ws n || has_name o.written.items n) (sym (h n) ∙ new),
        )
      where
        go : (ws : List Name) (t : Bool) → t ≡ false
            → fold (put (spell_in s) (interfaces_stated s) k (n ∷ ws)) o.written.items (used_names (spell_in s) (interfaces_stated s) (value_at (interfaces_stated s) n)) ++ n ∷ []
            ≡ (if t then o.written.items else fold (put (spell_in s) (interfaces_stated s) k (n ∷ ws)) o.written.items (used_names (spell_in s) (interfaces_stated s) (value_at (interfaces_stated s) n)) ++ n ∷ [])
        go ws true q = absurd (true≢false q)
        go ws false q = refl

  -- all of them, from nothing on
  pub all_put : (k : ℕ) (ns : List Name) (a b : Order) → PutsAll s k ns a b → a.begun ≡ [] → a.written.items ≡ [] → k ≡ length ns → ns ≡ names_of s.interfaces.now → b.written.items ≡ written_names (spell_in s) (interfaces_stated s)
  all_put k ns a b f begun none len are =
      let names : ns ≡ names_of (interfaces_stated s) = are ∙ sym (names-with_values (stated_of s.types.now) s.interfaces.now) in
      let r = f [] (λ m. ap (λ l. has_name l m) begun ∙ sym (ap (λ l. has_name l m) none)) in
      r.1 ∙ (λ i. fold (put (spell_in s) (interfaces_stated s) (counted names i) []) (none i) (names i))
    where
      same_length : (xs : List (Name × Stated)) → length (names_of xs) ≡ length xs
      same_length [] = refl
      same_length (x ∷ xs) = ap suc (same_length xs)

      counted : ns ≡ names_of (interfaces_stated s) → k ≡ length (interfaces_stated s)
      counted names = len ∙ ap length names ∙ same_length (interfaces_stated s)
