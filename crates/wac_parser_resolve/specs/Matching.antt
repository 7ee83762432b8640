-- The name that a shorter one means.
use Rattle.std.specs.Prelude.{◌≡◌, ◌==◌, ◌+◌, ℕ, Bool, false, List, [], ◌∷◌, Option, Some, None, option_map, filter, bytes_eq, drop, slice_get, if◌then◌else◌}
use Rattle.std.specs.List.{before_first}
use Rattle.wac_types_base.specs.Entries.{Name, has_name}

-- what stands behind the last slash of a text that begins with c, by that of its rest
abbrev pub behind_this : ℕ → Name → Option Name → Option Name
behind_this c cs (Some rest) = Some rest
behind_this c cs None = if c == 47 then Some cs else None

-- what stands behind the last slash, if there is one
abbrev pub behind_last : Name → Option Name
behind_last [] = None
behind_last (c ∷ cs) = behind_this c cs (behind_last cs)

-- the last path segment without version, of a name that has a path
abbrev pub last_segment : Name → Option Name
last_segment n = option_map (before_first (λ c. c == 64)) (behind_last n)

abbrev pub is_segment : Name → Option Name → Bool
is_segment i None = false
is_segment i (Some s) = bytes_eq i s

-- the text is the last segment of the name
abbrev pub has_segment : Name → Name → Bool
has_segment i n = is_segment i (last_segment n)

abbrev pub only : Name → List Name → Name
only d (n ∷ []) = n
only d ns = d

-- itself where it stands among these, else the only one whose last segment it is, else itself
abbrev pub matched : Name → List Name → Name
matched i ns = if has_name ns i then i else only i (filter (has_segment i) ns)

-- the first of the names that passes, from this place on, at its place
abbrev pub IsNextOf : (Name → Bool) → List Name → ℕ → Option ℕ → Type 0
IsNextOf p ns low None = filter p (drop low ns) ≡ []
IsNextOf p ns low (Some at) =
    (n : Name) × (slice_get ns at ≡ Some n) × (filter p (drop low ns) ≡ n ∷ filter p (drop (at + 1) ns))
