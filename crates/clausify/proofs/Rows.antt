-- The clauses of forms one after the other.
use Rattle.std.proofs.Common.{◌≡◌, ◌<◌, ◌≤◌, ℕ, suc, ◌+◌, List, [], ◌∷◌, ◌++◌, length, drop, get_or, map, sym, ap, ◌∙◌, add-one, drop-cons, append_assoc}
use Rattle.std.proofs.lemmas.List.{append-nil, drop_all}
use Rattle.fol_core.specs.Renumbered.{renumbered}
use Rattle.fol_core.specs.Tree.{var}
use Rattle.fol_core.specs.SkolemAxioms.{SkolemAxiom}
use Rattle.clausify.specs.Clausal.{clauses_in}
use Rattle.clausify.specs.Fronts.{normal_of}
use Rattle.clausify.specs.Input.{ClauseRow, rows_in, axioms_in}
use Rattle.clausify.specs.Skolem.{somes, skolem_axioms}
use Rattle.clausify.specs.declared.normal.Normal.{Normal}

front : (ns : List Normal) (i : ℕ) (n : Normal) → i < length ns → n ≡ get_or ns i n → map normal_of (drop i ns) ≡ normal_of n ∷ map normal_of (drop (i + 1) ns)
front ns i n lt is =
    let rest : drop i ns ≡ n ∷ drop (i + 1) ns = rw (add-one, drop-cons ns i n) (ap (λ s. s ∷ drop (suc i) ns) (sym is)) in
    ap (map normal_of) rest

-- one more form, whose Skolem symbols begin at place k
pub rows_next : (symbols : List ℕ) (rows : List ClauseRow) (ns : List Normal) (i k j : ℕ) (n : Normal) → i < length ns → n ≡ get_or ns i n → j ≡ k + somes (normal_of n)
    → (rows ++ map (λ c. (i + 1, renumbered c)) (clauses_in symbols k [] var (normal_of n))) ++ rows_in symbols ((i + 1) + 1) j (map normal_of (drop (i + 1) ns))
    ≡ rows ++ rows_in symbols (i + 1) k (map normal_of (drop i ns))
rows_next symbols rows ns i k j n lt is next =
    let new = map (λ c. (i + 1, renumbered c)) (clauses_in symbols k [] var (normal_of n)) in
    append_assoc rows new (rows_in symbols ((i + 1) + 1) j (map normal_of (drop (i + 1) ns)))
    ∙ ap (λ m. rows ++ (new ++ rows_in symbols ((i + 1) + 1) m (map normal_of (drop (i + 1) ns)))) next
    ∙ ap (λ fs. rows ++ rows_in symbols (i + 1) k fs) (sym (front ns i n lt is))

pub rows_end : (symbols : List ℕ) (rows : List ClauseRow) (ns : List Normal) (i k : ℕ) → length ns ≤ i → rows ++ rows_in symbols (i + 1) k (map normal_of (drop i ns)) ≡ rows
rows_end symbols rows ns i k end = ap (λ (rest : List Normal). rows ++ rows_in symbols (i + 1) k (map normal_of rest)) (drop_all i ns end) ∙ append-nil rows

pub axioms_next : (symbols : List ℕ) (ws : List SkolemAxiom) (ns : List Normal) (i k j : ℕ) (n : Normal) → i < length ns → n ≡ get_or ns i n → j ≡ k + somes (normal_of n)
    → (ws ++ skolem_axioms symbols k [] var (normal_of n)) ++ axioms_in symbols j (map normal_of (drop (i + 1) ns)) ≡ ws ++ axioms_in symbols k (map normal_of (drop i ns))
axioms_next symbols ws ns i k j n lt is next =
    append_assoc ws (skolem_axioms symbols k [] var (normal_of n)) (axioms_in symbols j (map normal_of (drop (i + 1) ns)))
    ∙ ap (λ m. ws ++ (skolem_axioms symbols k [] var (normal_of n) ++ axioms_in symbols m (map normal_of (drop (i + 1) ns)))) next
    ∙ ap (λ fs. ws ++ axioms_in symbols k fs) (sym (front ns i n lt is))

pub axioms_end : (symbols : List ℕ) (ws : List SkolemAxiom) (ns : List Normal) (i k : ℕ) → length ns ≤ i → ws ++ axioms_in symbols k (map normal_of (drop i ns)) ≡ ws
axioms_end symbols ws ns i k end = ap (λ (rest : List Normal). ws ++ axioms_in symbols k (map normal_of rest)) (drop_all i ns end) ∙ append-nil ws
