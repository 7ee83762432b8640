-- The declarations in a Vec, as a list.
use Rattle.std.proofs.Common.{◌≡◌, ℕ, ◌+◌, Bool, true, false, List, [], ◌∷◌, ◌++◌, length, take, get_or, ◌<◌, refl, sym, ap, ◌∙◌, append_assoc, arith, Vec, Global, ◌≤◌}
use Rattle.std.specs.Prelude.{◌&&◌}
use Rattle.std.specs.List.{flat_map, list_all}
use Rattle.std.proofs.lemmas.List.{append-nil, take_all}
use Rattle.std.proofs.lemmas.Bool.{and_from}
use Rattle.std.proofs.lemmas.List.Folds.{list_all_at}
use mathlib.Core.Former.{Count}
use Rattle.wac_graph_bytes.specs.Leb.{unsigned}
use Rattle.wac_graph_bytes.specs.declared.entry.Declaration.{Declaration, Module, Defined, ComponentType, ComponentType', InstanceType, InstanceType', Alias, Import, Export, Row_of-Declaration, end_of-Declaration, more_of-Declaration, items-the_row-Declaration, items_hidden-the_row-Declaration-0}
use Rattle.wac_graph_bytes.specs.Entries.{Declarations, End, ComponentTypeThen, InstanceTypeThen}
use Rattle.wac_graph_bytes.specs.Spelling.{declaration_bytes, declaration_count}
use Rattle.wac_graph_bytes.specs.Sizes.{small, declarations_fit}
use Rattle.wac_graph_bytes.specs.Views.{before, row_view, declarations_of}
use Rattle.wac_graph_bytes.specs.Declaring.{one_bytes, one_fits}

false_right : (a b : Bool) → b ≡ false → (a && b) ≡ false
false_right true b e = e
false_right false b e = refl

row_is : (n : _) (row : Row_of-Declaration n) → row_view row ≡ declarations_of (items-the_row-Declaration n row)
row_is n end_of-Declaration = refl
row_is n (more_of-Declaration d rest) = ap (λ (t : Declarations). before d t) (row_is _ rest)

abbrev row_of : Declaration → (n : Count) × Row_of-Declaration n
row_of (ComponentType' _ row) = (_, row)
row_of (InstanceType' _ row) = (_, row)
row_of _ = (_, end_of-Declaration)

-- a component type's declarations are those of its Vec
pub before_component : (v : Vec Declaration Global) (rest : Declarations) → before (ComponentType v) rest ≡ ComponentTypeThen (declarations_of v.items) rest
before_component v rest =
    let row = row_of (ComponentType v) in
    ap (λ (t : Declarations). ComponentTypeThen t rest) (row_is row.0 row.1 ∙ ap (λ (t : List Declaration). declarations_of t) (items_hidden-the_row-Declaration-0 v))

-- likewise an instance type's
pub before_instance : (v : Vec Declaration Global) (rest : Declarations) → before (InstanceType v) rest ≡ InstanceTypeThen (declarations_of v.items) rest
before_instance v rest =
    let row = row_of (InstanceType v) in
    ap (λ (t : Declarations). InstanceTypeThen t rest) (row_is row.0 row.1 ∙ ap (λ (t : List Declaration). declarations_of t) (items_hidden-the_row-Declaration-0 v))

count_before : (d : Declaration) (rest : Declarations) → declaration_count (before d rest) ≡ declaration_count rest + 1
count_before (Module ds) rest = refl
count_before (Defined t) rest = refl
count_before (ComponentType' _ row) rest = refl
count_before (InstanceType' _ row) rest = refl
count_before (Alias a) rest = refl
count_before (Import n e) rest = refl
count_before (Export n e) rest = refl

pub count_is : (ds : List Declaration) → declaration_count (declarations_of ds) ≡ length ds
count_is [] = refl
count_is (d ∷ ds) = omega (arith, count_before d (declarations_of ds), count_is ds)

bytes_before : (d : Declaration) (rest : Declarations) → declaration_bytes (before d rest) ≡ one_bytes d ++ declaration_bytes rest
bytes_before (Module ds) rest = simp (append_assoc, append-nil)
bytes_before (Defined t) rest = simp (append_assoc, append-nil)
bytes_before (ComponentType' _ row) rest = simp (append_assoc, append-nil)
bytes_before (InstanceType' _ row) rest = simp (append_assoc, append-nil)
bytes_before (Alias a) rest = simp (append_assoc, append-nil)
bytes_before (Import n e) rest = simp (append_assoc, append-nil)
bytes_before (Export n e) rest = simp (append_assoc, append-nil)

pub bytes_are : (ds : List Declaration) → flat_map one_bytes ds ≡ declaration_bytes (declarations_of ds)
bytes_are [] = refl
bytes_are (d ∷ ds) = ap (λ (t : List ℕ). one_bytes d ++ t) (bytes_are ds) ∙ sym (bytes_before d (declarations_of ds))

and_true : (b : Bool) → (b && true) ≡ b
and_true true = refl
and_true false = refl

and_past : (a b c : Bool) → a ≡ b → (a && c) ≡ (b && c)
and_past a b c e = ap (λ (t : Bool). t && c) e

fits_before : (d : Declaration) (rest : Declarations) → declarations_fit (before d rest) ≡ (one_fits d && declarations_fit rest)
fits_before (Module ds) rest = and_past _ _ (declarations_fit rest) (sym (and_true _))
fits_before (Defined t) rest = and_past _ _ (declarations_fit rest) (sym (and_true _))
fits_before (ComponentType' _ row) rest = and_past _ _ (declarations_fit rest) (sym (and_true _))
fits_before (InstanceType' _ row) rest = and_past _ _ (declarations_fit rest) (sym (and_true _))
fits_before (Alias a) rest = and_past _ _ (declarations_fit rest) (sym (and_true _))
fits_before (Import n e) rest = and_past _ _ (declarations_fit rest) (sym (and_true _))
fits_before (Export n e) rest = and_past _ _ (declarations_fit rest) (sym (and_true _))

pub fits_are : (ds : List Declaration) → list_all one_fits ds ≡ declarations_fit (declarations_of ds)
fits_are [] = refl
fits_are (d ∷ ds) = ap (λ (t : Bool). one_fits d && t) (fits_are ds) ∙ sym (fits_before d (declarations_of ds))

-- what a component type's bytes are, and whether they fit
pub component_bytes_are : (v : Vec Declaration Global) → one_bytes (ComponentType v) ≡ 1 ∷ 65 ∷ (unsigned (declaration_count (declarations_of v.items)) ++ declaration_bytes (declarations_of v.items))
component_bytes_are v =
    let all = declarations_of v.items in
    ap (λ (t : Declarations). declaration_bytes t) (before_component v End)
    ∙ ap (λ (t : List ℕ). 1 ∷ 65 ∷ (unsigned (declaration_count all) ++ t)) (append-nil (declaration_bytes all))

pub instance_bytes_are : (v : Vec Declaration Global) → one_bytes (InstanceType v) ≡ 1 ∷ 66 ∷ (unsigned (declaration_count (declarations_of v.items)) ++ declaration_bytes (declarations_of v.items))
instance_bytes_are v =
    let all = declarations_of v.items in
    ap (λ (t : Declarations). declaration_bytes t) (before_instance v End)
    ∙ ap (λ (t : List ℕ). 1 ∷ 66 ∷ (unsigned (declaration_count all) ++ t)) (append-nil (declaration_bytes all))

pub component_fits_are : (v : Vec Declaration Global) → one_fits (ComponentType v) ≡ (small (declaration_count (declarations_of v.items)) && declarations_fit (declarations_of v.items))
component_fits_are v = ap (λ (t : Declarations). declarations_fit t) (before_component v End) ∙ and_true _

pub instance_fits_are : (v : Vec Declaration Global) → one_fits (InstanceType v) ≡ (small (declaration_count (declarations_of v.items)) && declarations_fit (declarations_of v.items))
instance_fits_are v = ap (λ (t : Declarations). declarations_fit t) (before_instance v End) ∙ and_true _

-- every declaration was written
pub all_written : (old out : List ℕ) (ds : List Declaration) (i : ℕ) → length ds ≤ i → out ≡ old ++ (unsigned (length ds) ++ flat_map one_bytes (take i ds)) → small (length ds) ≡ true → list_all one_fits (take i ds) ≡ true
    → (out ≡ old ++ (unsigned (declaration_count (declarations_of ds)) ++ declaration_bytes (declarations_of ds))) × ((small (declaration_count (declarations_of ds)) && declarations_fit (declarations_of ds)) ≡ true)
all_written old out ds i le e f g =
    let n = count_is ds in
    let t = take_all i ds le in (
      e ∙ ap (λ (n : ℕ). old ++ (unsigned n ++ flat_map one_bytes (take i ds))) (sym n)
          ∙ ap (λ (t : List Declaration). old ++ (unsigned (declaration_count (declarations_of ds)) ++ flat_map one_bytes t)) t
          ∙ ap (λ (t : List ℕ). old ++ (unsigned (declaration_count (declarations_of ds)) ++ t)) (bytes_are ds),
      and_from _ _ (ap (λ (n : ℕ). small n) n ∙ f) (sym (fits_are ds) ∙ ap (λ (t : List Declaration). list_all one_fits t) (sym t) ∙ g),
    )

-- one of them doesn't fit
pub one_unfit : (ds : List Declaration) (i : ℕ) (d : Declaration) → i < length ds → one_fits (get_or ds i d) ≡ false → (small (declaration_count (declarations_of ds)) && declarations_fit (declarations_of ds)) ≡ false
one_unfit ds i d lt e = false_right (small (declaration_count (declarations_of ds))) _ (sym (fits_are ds) ∙ list_all_at one_fits ds i d lt e)

-- there are too many
pub too_many : (ds : List Declaration) → small (length ds) ≡ false → (small (declaration_count (declarations_of ds)) && declarations_fit (declarations_of ds)) ≡ false
too_many ds e = ap (λ (n : ℕ). small n && declarations_fit (declarations_of ds)) (count_is ds) ∙ ap (λ (b : Bool). b && declarations_fit (declarations_of ds)) e

regroup : (old t : List ℕ) (k : ℕ) → ((old ++ 1 ∷ []) ++ k ∷ []) ++ t ≡ old ++ 1 ∷ k ∷ t
regroup old t k = simp append_assoc

abbrev pub all_bytes : List Declaration → List ℕ
all_bytes ds = unsigned (declaration_count (declarations_of ds)) ++ declaration_bytes (declarations_of ds)

abbrev pub all_fit : List Declaration → Bool
all_fit ds = small (declaration_count (declarations_of ds)) && declarations_fit (declarations_of ds)

in_front : (old a b new : List ℕ) (k : ℕ) (ds es : List Declaration) → a ≡ old ++ 1 ∷ [] → b ≡ a ++ k ∷ [] → ds ≡ es → new ≡ b ++ all_bytes ds → new ≡ old ++ 1 ∷ k ∷ all_bytes es
in_front old a b new k ds es p q r e =
    e ∙ ap (λ (t : List ℕ). t ++ all_bytes ds) (q ∙ ap (λ (t : List ℕ). t ++ k ∷ []) p) ∙ regroup old (all_bytes ds) k ∙ ap (λ (t : List Declaration). old ++ 1 ∷ k ∷ all_bytes t) r

pub component_written : (old a b new : List ℕ) (v : Vec Declaration Global) (ds : List Declaration) (d : Declaration) → a ≡ old ++ 1 ∷ [] → b ≡ a ++ 65 ∷ [] → ds ≡ v.items → d ≡ ComponentType v
    → (new ≡ b ++ all_bytes ds) × (all_fit ds ≡ true) → (new ≡ old ++ one_bytes d) × (one_fits d ≡ true)
component_written old a b new v ds d p q r s e =
    let one = in_front old a b new 65 ds v.items p q r e.0 in (
      one ∙ ap (λ (t : List ℕ). old ++ t) (sym (component_bytes_are v)) ∙ ap (λ (d : Declaration). old ++ one_bytes d) (sym s),
      ap (λ (d : Declaration). one_fits d) s ∙ component_fits_are v ∙ ap (λ (t : List Declaration). all_fit t) (sym r) ∙ e.1,
    )

pub instance_written : (old a b new : List ℕ) (v : Vec Declaration Global) (ds : List Declaration) (d : Declaration) → a ≡ old ++ 1 ∷ [] → b ≡ a ++ 66 ∷ [] → ds ≡ v.items → d ≡ InstanceType v
    → (new ≡ b ++ all_bytes ds) × (all_fit ds ≡ true) → (new ≡ old ++ one_bytes d) × (one_fits d ≡ true)
instance_written old a b new v ds d p q r s e =
    let one = in_front old a b new 66 ds v.items p q r e.0 in (
      one ∙ ap (λ (t : List ℕ). old ++ t) (sym (instance_bytes_are v)) ∙ ap (λ (d : Declaration). old ++ one_bytes d) (sym s),
      ap (λ (d : Declaration). one_fits d) s ∙ instance_fits_are v ∙ ap (λ (t : List Declaration). all_fit t) (sym r) ∙ e.1,
    )

pub component_unfit : (v : Vec Declaration Global) (ds : List Declaration) (d : Declaration) → ds ≡ v.items → d ≡ ComponentType v → all_fit ds ≡ false → one_fits d ≡ false
component_unfit v ds d r s e = ap (λ (d : Declaration). one_fits d) s ∙ component_fits_are v ∙ ap (λ (t : List Declaration). all_fit t) (sym r) ∙ e

pub instance_unfit : (v : Vec Declaration Global) (ds : List Declaration) (d : Declaration) → ds ≡ v.items → d ≡ InstanceType v → all_fit ds ≡ false → one_fits d ≡ false
instance_unfit v ds d r s e = ap (λ (d : Declaration). one_fits d) s ∙ instance_fits_are v ∙ ap (λ (t : List Declaration). all_fit t) (sym r) ∙ e
