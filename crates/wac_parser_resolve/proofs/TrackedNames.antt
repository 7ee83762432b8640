-- A lookup key tells its name: neither a name before the `@` nor a version has another one.
use Rattle.std.proofs.Common.{◌≡◌, ℕ, ◌+◌, ◌%◌, ◌^◌, ◌<◌, ◌≤◌, Bool, true, false, List, [], ◌∷◌, ◌++◌, length, refl, sym, ap, ◌∙◌, subst, arith, inl, inr, lit≤}
use Rattle.std.specs.Prelude.{◌==◌, ◌&&◌, cond, Option, Some, None, nat_lt, if◌then◌else◌}
use Rattle.std.specs.List.{AllByRecursion, before_first, after_first, list_all, onto_first, position_or_len}
use Rattle.std.specs.Fmt.{decimal}
use Rattle.std.proofs.lemmas.Bool.{and_parts, cases_lt, eqb-true}
use Rattle.std.proofs.lemmas.Fmt.{decimal_by_steps}
use Rattle.std.proofs.lemmas.List.{append_cancel_left}
use Rattle.std.proofs.lemmas.Option.{same_Some}
use Rattle.semver.specs.Grammar.{IsValid, is_build, is_build_identifier, is_identifier_byte, is_pre_identifier, is_pre_release}
use Rattle.semver.specs.Identifiers.{marked, parts_text}
use Rattle.semver.specs.Order.{parts}
use Rattle.semver.specs.OrderLaws.{parts-shape}
use Rattle.semver.specs.Parse.{Parts}
use Rattle.wac_names.proofs.NameForms.{place_le}
use Rattle.wac_types_base.specs.Entries.{Name}
use Rattle.wac_types_names.specs.Tracks.{IsOnTrack, is_at, key_from, key_with, read_version, track_text}
use Rattle.wac_types_names.proofs.Places.{NoByte}
use Rattle.wac_types_names.proofs.TrackTexts.{ParsedAt, around_at, key_at, no_at, one_longer, read-text}

-- ---- versions

-- a byte that no version has
pub record IsStrange (c : ℕ) : Type 0 where
  pub identifier : is_identifier_byte c ≡ false
  pub dot : (46 == c) ≡ false
  pub plus : (43 == c) ≡ false
  pub digit : (k : ℕ) → k < 10 → ((48 + k) == c) ≡ false

module _ (c : ℕ) (strange : IsStrange c) where
  abbrev Lacks : List ℕ → Type 0
  Lacks w = NoByte c w

  append_lacks : (v w : List ℕ) → Lacks v → Lacks w → Lacks (v ++ w)
  append_lacks [] w h k = k
  append_lacks (b ∷ v) w h k = (h.0, append_lacks v w h.1 k)

  byte_lacks : (b : ℕ) → is_identifier_byte b ≡ true → (b == c) ≡ false
  byte_lacks b h = by (b == c) refl
    where
      by : (t : Bool) → (b == c) ≡ t → (b == c) ≡ false
      by false e = e
      by true e = let no : true ≡ false = sym h ∙ ap is_identifier_byte (eqb-true b c e) ∙ strange.identifier in absurd (cc no)

  bytes_lack : (w : List ℕ) → list_all is_identifier_byte w ≡ true → Lacks w
  bytes_lack [] h = tt
  bytes_lack (b ∷ w) h = let e = and_parts (is_identifier_byte b) (list_all is_identifier_byte w) h in (byte_lacks b e.0, bytes_lack w e.1)

  identifier_lacks : (w : List ℕ) → is_build_identifier w ≡ true → Lacks w
  identifier_lacks w h = bytes_lack w (and_parts (nat_lt 0 (length w)) (list_all is_identifier_byte w) h).1

  pre_lacks : (w : List ℕ) → is_pre_identifier w ≡ true → Lacks w
  pre_lacks w h = identifier_lacks w (and_parts (is_build_identifier w) _ h).0

  all_lack : (f : List ℕ → Bool) → ((w : List ℕ) → f w ≡ true → Lacks w) → (ws : List (List ℕ)) → list_all f ws ≡ true → AllByRecursion Lacks ws
  all_lack f each [] h = tt
  all_lack f each (w ∷ ws) h = let e = and_parts (f w) (list_all f ws) h in (each w e.0, all_lack f each ws e.1)

  -- a text whose parts lack it
  joined_lacks : (w : List ℕ) → AllByRecursion Lacks (parts w) → Lacks w
  joined_lacks [] h = tt
  joined_lacks (b ∷ w) h = by (joined_lacks w) (b == 46) refl h
    where
      by : (AllByRecursion Lacks (parts w) → Lacks w) → (t : Bool) → (b == 46) ≡ t → AllByRecursion Lacks (cond t ([] ∷ parts w) (onto_first b (parts w))) → Lacks (b ∷ w)
      by rest true e h = (ap (λ (k : ℕ). k == c) (eqb-true b 46 e) ∙ strange.dot, rest h.1)
      by rest false e h =
          let r = parts-shape w in
          let k = subst (λ (ps : List (List ℕ)). AllByRecursion Lacks (onto_first b ps)) r.2 h in
          (k.0.0, rest (subst (AllByRecursion Lacks) (sym r.2) (k.0.1, k.1)))

  pre_release_lacks : (w : List ℕ) → is_pre_release w ≡ true → Lacks w
  pre_release_lacks [] h = tt
  pre_release_lacks (b ∷ w) h = joined_lacks (b ∷ w) (all_lack is_pre_identifier pre_lacks (parts (b ∷ w)) h)

  build_lacks : (w : List ℕ) → is_build w ≡ true → Lacks w
  build_lacks [] h = tt
  build_lacks (b ∷ w) h = joined_lacks (b ∷ w) (all_lack is_build_identifier identifier_lacks (parts (b ∷ w)) h)

  marked_lacks : (mark : ℕ) (w : List ℕ) → (mark == c) ≡ false → Lacks w → Lacks (marked mark w)
  marked_lacks mark [] e h = tt
  marked_lacks mark (b ∷ w) e h = (e, h)

  decimal_lacks : (n : ℕ) → n < 2 ^ 64 → Lacks (decimal n)
  decimal_lacks n fits =
      decimal_by_steps (λ k ds. Lacks ds) (λ k low. (strange.digit k low, tt))
      (λ k ds big ih. append_lacks ds ((48 + k % 10) ∷ []) ih (strange.digit (k % 10) (omega arith), tt)) n fits

  pub version_lacks : (p : Parts) → IsValid p → Lacks (parts_text p)
  version_lacks p v =
      let tail = append_lacks (marked 45 p.3) (marked 43 p.4) (marked_lacks 45 p.3 (byte_lacks 45 refl) (pre_release_lacks p.3 v.3)) (marked_lacks 43 p.4 strange.plus (build_lacks p.4 v.4)) in
      let third = append_lacks (decimal p.2) (marked 45 p.3 ++ marked 43 p.4) (decimal_lacks p.2 v.2) tail in
      let second = append_lacks (decimal p.1) (46 ∷ (decimal p.2 ++ (marked 45 p.3 ++ marked 43 p.4))) (decimal_lacks p.1 v.1) (strange.dot, third) in
      append_lacks (decimal p.0) (46 ∷ (decimal p.1 ++ (46 ∷ (decimal p.2 ++ (marked 45 p.3 ++ marked 43 p.4))))) (decimal_lacks p.0 v.0) (strange.dot, second)

abbrev NoAt : List ℕ → Type 0
NoAt w = NoByte 64 w

digit_apart : (c k : ℕ) → 58 ≤ c → k < 10 → ((48 + k) == c) ≡ false
digit_apart c k above low = by ((48 + k) == c) refl
  where
    by : (t : Bool) → ((48 + k) == c) ≡ t → ((48 + k) == c) ≡ false
    by false e = e
    by true e = absurd (omega (arith, above, low, eqb-true (48 + k) c e))

-- a byte above the digits
pub is_strange : (c : ℕ) → is_identifier_byte c ≡ false → (46 == c) ≡ false → (43 == c) ≡ false → 58 ≤ c → IsStrange c
is_strange c i d p above = record { identifier = i; dot = d; plus = p; digit = λ k low. digit_apart c k above low }

at_strange : IsStrange 64
at_strange = is_strange 64 refl refl refl (lit≤ tt)

track_no_at : (p : Parts) (t : List ℕ) → IsValid p → track_text p ≡ Some t → NoAt t
track_no_at p t v e = pre (nat_lt 0 (length p.3)) e
  where
    minor : (b : Bool) → (if b then Some (48 ∷ 46 ∷ decimal p.1) else None) ≡ Some t → NoAt t
    minor true h = subst NoAt (same_Some _ _ h) (refl, (refl, decimal_lacks 64 at_strange p.1 v.1))
    minor false h = absurd (cc h)

    major : (b : Bool) → (if b then Some (decimal p.0) else (if nat_lt 0 p.1 then Some (48 ∷ 46 ∷ decimal p.1) else None)) ≡ Some t → NoAt t
    major true h = subst NoAt (same_Some _ _ h) (decimal_lacks 64 at_strange p.0 v.0)
    major false h = minor (nat_lt 0 p.1) h

    pre : (b : Bool) → (if b then None else (if nat_lt 0 p.0 then Some (decimal p.0) else (if nat_lt 0 p.1 then Some (48 ∷ 46 ∷ decimal p.1) else None))) ≡ Some t → NoAt t
    pre true h = absurd (cc h)
    pre false h = major (nat_lt 0 p.0) h

-- ---- where the `@` stands

front_no_at : (w : List ℕ) → NoAt (before_first is_at w)
front_no_at [] = tt
front_no_at (b ∷ w) = by (front_no_at w) (b == 64) refl
  where
    by : NoAt (before_first is_at w) → (t : Bool) → (b == 64) ≡ t → NoAt (before_first is_at (b ∷ w))
    by rest true e = rw e tt
    by rest false e = rw (e, one_longer (position_or_len is_at w)) (e, rest)

has_one : (a b : List ℕ) → NoAt (a ++ 64 ∷ b) → ⊥
has_one [] b h = cc h.0
has_one (x ∷ a) b h = has_one a b h.1

abbrev head_or : List ℕ → ℕ
head_or [] = 0
head_or (b ∷ w) = b

abbrev rest_of : List ℕ → List ℕ
rest_of [] = []
rest_of (b ∷ w) = w

-- the one `@` parts both in the same way
one_front : (a b c d : List ℕ) → NoAt c → NoAt d → a ++ 64 ∷ b ≡ c ++ 64 ∷ d → a ≡ c
one_front [] b [] d h k e = refl
one_front [] b (y ∷ c) d h k e = let is : 64 ≡ y = ap head_or e in let no : (64 == 64) ≡ false = ap (λ (z : ℕ). z == 64) is ∙ h.0 in absurd (cc no)
one_front (x ∷ a) b [] d h k e = absurd (has_one a b (subst NoAt (sym (ap rest_of e)) k))
one_front (x ∷ a) b (y ∷ c) d h k e = let first : x ≡ y = ap head_or e in let others = one_front a b c d h.1 k (ap rest_of e) in cc (first, others)

-- ---- keys

-- a name on a track, by its text
record Spelled (n track : Name) : Type 0 where
  front : Name
  version : List ℕ
  text : List ℕ
  key : track ≡ front ++ 64 ∷ text
  whole : n ≡ front ++ 64 ∷ version
  front_none : NoAt front
  valid : (q : Parts) × (version ≡ parts_text q) × IsValid q
  text_none : NoAt text

spelled : (n track : Name) (p : Parts) → IsOnTrack track n p → Spelled n track
spelled n track p on = elim (cases_lt (position_or_len is_at n) (length n)) [
  | inl lt ↦ let s : ParsedAt n (before_first is_at n) (after_first is_at n) = (lt, refl, refl) in read s (read_version (after_first is_at n)) refl (sym (key_at n _ _ s) ∙ on)
  | inr le ↦ absurd (none_some (sym (no_at n (omega (arith, le, place_le 64 n))) ∙ on))
]
  where
    none_some : {x : Name × Parts} → None ≡ Some x → ⊥
    none_some h = cc h

    cut : ParsedAt n (before_first is_at n) (after_first is_at n) → (q : Parts) → read_version (after_first is_at n) ≡ Some q → (t : Option (List ℕ)) → track_text q ≡ t → key_with (before_first is_at n) q t ≡ Some (track, p) → Spelled n track
    cut s q r None e h = absurd (none_some h)
    cut s q r (Some t) e h =
        let valid = read-text (after_first is_at n) q r in
        record {
          front = before_first is_at n;
          version = after_first is_at n;
          text = t;
          key = sym (ap (λ (x : Name × Parts). x.0) (same_Some _ _ h));
          whole = around_at n _ _ s;
          front_none = front_no_at n;
          valid = (q, valid.0, valid.1);
          text_none = track_no_at q t valid.1 e;
        }

    read : ParsedAt n (before_first is_at n) (after_first is_at n) → (r : Option Parts) → read_version (after_first is_at n) ≡ r → key_from (before_first is_at n) (read_version (after_first is_at n)) ≡ Some (track, p) → Spelled n track
    read s None r h = absurd (none_some (sym (ap (key_from (before_first is_at n)) r) ∙ h))
    read s (Some q) r h = cut s q r (track_text q) refl (sym (ap (key_from (before_first is_at n)) r) ∙ h)

pub record IsTracked (m n text : List ℕ) : Type 0 where
  pub name : m ≡ n
  pub lacks : (c : ℕ) → IsStrange c → NoByte c text

-- a name with a version that has the lookup key of a name is that name, with a version that reads
pub tracked : (m n text track : List ℕ) (p : Parts) → IsOnTrack (n ++ 64 ∷ track) (m ++ 64 ∷ text) p → IsTracked m n text
tracked m n text track p on =
    let s = spelled (m ++ 64 ∷ text) (n ++ 64 ∷ track) p on in
    let none : NoAt s.version = subst NoAt (sym s.valid.1) (version_lacks 64 at_strange s.valid.0 s.valid.2) in
    let first : m ≡ s.front = one_front m text s.front s.version s.front_none none s.whole in
    let whole : s.front ++ 64 ∷ text ≡ s.front ++ 64 ∷ s.version = ap (λ (f : List ℕ). f ++ 64 ∷ text) (sym first) ∙ s.whole in
    let same : text ≡ s.version = ap rest_of (append_cancel_left s.front (64 ∷ text) (64 ∷ s.version) whole) in
    record {
      name = first ∙ sym (one_front n track s.front s.text s.front_none s.text_none s.key);
      lacks = λ c strange. subst (NoByte c) (sym (same ∙ s.valid.1)) (version_lacks c strange s.valid.0 s.valid.2);
    }
