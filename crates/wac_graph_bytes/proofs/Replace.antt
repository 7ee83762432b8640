-- Laws of `replace`.
use Rattle.std.proofs.Common.{◌≡◌, refl, ap, ◌∙◌}
use Rattle.wac_types_base.specs.Entries.{Name}
use Rattle.wac_graph_bytes.specs.Wirings.{Source, Absent, Outer, Inst, Projection, Bundle, Definition, project, replace, Uses}

pub replace-project : {I J : Type 0} (o : Name → Source J) (i : I → Source J) (s : Source I) (n : Name) → replace o i (project s n) ≡ project (replace o i s) n
replace-project o i Absent n = refl
replace-project o i (Outer m) n = refl
replace-project o i (Inst k) n = refl
replace-project o i (Projection s m) n = refl
replace-project o i (Bundle f) n = refl
replace-project o i (Definition t) n = refl

pub replace-replace : {I J K : Type 0} (o : Name → Source K) (i : J → Source K) (o' : Name → Source J) (i' : I → Source J) (s : Source I) → replace o i (replace o' i' s) ≡ replace (λ n. replace o i (o' n)) (λ k. replace o i (i' k)) s
replace-replace o i o' i' Absent = refl
replace-replace o i o' i' (Outer n) = refl
replace-replace o i o' i' (Inst k) = refl
replace-replace o i o' i' (Projection s n) =
    replace-project o i (replace o' i' s) n ∙ ap (λ t. project t n) (replace-replace o i o' i' s)
replace-replace o i o' i' (Bundle f) = λ d. Bundle (λ n. replace-replace o i o' i' (f n) d)
replace-replace o i o' i' (Definition t) = refl

-- two replacements that agree on what the source uses
pub replace_alike : {I J : Type 0} (o o' : Name → Source J) (i i' : I → Source J) → ((n : Name) → o n ≡ o' n) → (s : Source I) → Uses (λ k. i k ≡ i' k) s → replace o i s ≡ replace o' i' s
replace_alike o o' i i' h Absent u = refl
replace_alike o o' i i' h (Outer n) u = h n
replace_alike o o' i i' h (Inst k) u = u
replace_alike o o' i i' h (Projection s n) u = ap (λ t. project t n) (replace_alike o o' i i' h s u)
replace_alike o o' i i' h (Bundle f) u = λ d. Bundle (λ n. replace_alike o o' i i' h (f n) (u n) d)
replace_alike o o' i i' h (Definition t) u = refl

pub Uses-weaker : {I : Type 0} {P Q : I → Type 0} → ((k : I) → P k → Q k) → (s : Source I) → Uses P s → Uses Q s
Uses-weaker h Absent u = tt
Uses-weaker h (Outer n) u = tt
Uses-weaker h (Inst k) u = h k u
Uses-weaker h (Projection s n) u = Uses-weaker h s u
Uses-weaker h (Bundle f) u = λ n. Uses-weaker h (f n) (u n)
Uses-weaker h (Definition t) u = tt

pub uses_any : {I : Type 0} {P : I → Type 0} → ((k : I) → P k) → (s : Source I) → Uses P s
uses_any h Absent = tt
uses_any h (Outer n) = tt
uses_any h (Inst k) = h k
uses_any h (Projection s n) = uses_any h s
uses_any h (Bundle f) = λ n. uses_any h (f n)
uses_any h (Definition t) = tt

pub Uses-project : {I : Type 0} (P : I → Type 0) (s : Source I) (n : Name) → Uses P s → Uses P (project s n)
Uses-project P Absent n u = tt
Uses-project P (Outer m) n u = tt
Uses-project P (Inst k) n u = u
Uses-project P (Projection s m) n u = u
Uses-project P (Bundle f) n u = u n
Uses-project P (Definition t) n u = tt

-- what the replaced source uses
pub Uses-replace : {I J : Type 0} (P : I → Type 0) (Q : J → Type 0) (o : Name → Source J) (i : I → Source J) → ((n : Name) → Uses Q (o n)) → ((k : I) → P k → Uses Q (i k)) → (s : Source I) → Uses P s → Uses Q (replace o i s)
Uses-replace P Q o i h h' Absent u = tt
Uses-replace P Q o i h h' (Outer n) u = h n
Uses-replace P Q o i h h' (Inst k) u = h' k u
Uses-replace P Q o i h h' (Projection s n) u = Uses-project Q (replace o i s) n (Uses-replace P Q o i h h' s u)
Uses-replace P Q o i h h' (Bundle f) u = λ n. Uses-replace P Q o i h h' (f n) (u n)
Uses-replace P Q o i h h' (Definition t) u = tt
