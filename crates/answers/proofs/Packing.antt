-- A clause is numbered with its answers as with literals that hold them.
use Rattle.std.proofs.Common.{◌≡◌, ◌∙◌, true, List, [], ◌∷◌, ◌++◌, length, map, take, drop, refl, sym, ap, ap₂, append_assoc}
use Rattle.std.proofs.lemmas.List.{append-nil, map_push}
use Rattle.fol_core.specs.ClauseView.{literal_of}
use Rattle.fol_core.specs.Free.{joined, variables_of, variables_of_all}
use Rattle.fol_core.specs.Literals.{Lit, ClauseTree, literal}
use Rattle.fol_core.specs.Renumbered.{clause_variables}
use Rattle.fol_core.specs.Substitutions.{Substitution}
use Rattle.fol_core.specs.Tree.{Trees, none, more, app}
use Rattle.fol_core.specs.TermView.{tree_of}
use Rattle.fol_core.specs.declared.clause.Literal.{Literal}
use Rattle.fol_core.specs.declared.symbols.Sym.{Sym}
use Rattle.fol_core.specs.declared.term.Term.{Term}
use Rattle.fol_core.specs.declared.term.Term.TheVariants.{Var, Elem, App}
use Rattle.fol_core.specs.declared.term.Terms.{Terms}
use Rattle.substitutions.specs.Instances.{substitute_clause}
use Rattle.answers.specs.AnswerTrees.{Answer, literals_of, riders, whole, substitute_answer, substitute_answers}
use Rattle.answers.specs.Packed.{packed, unpacked, answer_in}
use Rattle.answers.proofs.Prefix.{variables_both}

terms_variables : (ts : Trees) → clause_variables (literals_of ts) ≡ variables_of_all ts
terms_variables none = refl
terms_variables (more t ts) = ap (joined (variables_of t)) (terms_variables ts)

packed_variables : (us : List Answer) → clause_variables (packed us) ≡ clause_variables (riders us)
packed_variables [] = refl
packed_variables (a ∷ us) =
    ap₂ joined (sym (terms_variables a.terms)) (packed_variables us)
    ∙ sym (variables_both (literals_of a.terms) (riders us))

pub whole_variables : (c : ClauseTree) (us : List Answer) → clause_variables (c ++ packed us) ≡ clause_variables (whole c us)
whole_variables c us = variables_both c (packed us) ∙ ap (joined (clause_variables c)) (packed_variables us) ∙ sym (variables_both c (riders us))

-- the literals before and behind a place
pub before : (f : Lit → Lit) (ls : List Literal) (c d : ClauseTree) → map literal_of ls ≡ map f (c ++ d) → map literal_of (take (length c) ls) ≡ map f c
before f ls [] d h = refl
before f [] (l ∷ c) d h = cc
before f (k ∷ ls) (l ∷ c) d h =
    let first : literal_of k ≡ f l = cc in
    let rest : map literal_of ls ≡ map f (c ++ d) = cc in
    ap₂ (λ x xs. x ∷ xs) first (before f ls c d rest)

pub behind : (f : Lit → Lit) (ls : List Literal) (c d : ClauseTree) → map literal_of ls ≡ map f (c ++ d) → map literal_of (drop (length c) ls) ≡ map f d
behind f ls [] d h = h
behind f [] (l ∷ c) d h = cc
behind f (k ∷ ls) (l ∷ c) d h = let rest : map literal_of ls ≡ map f (c ++ d) = cc in behind f ls c d rest

-- terms put in for the variables of answers
pub unpacked_put : (s : Substitution) (us : List Answer) → unpacked (substitute_clause s (packed us)) ≡ substitute_answers s us
unpacked_put s [] = refl
unpacked_put s (a ∷ us) = ap (λ bs. substitute_answer s a ∷ bs) (unpacked_put s us)

pub packed_more : (us : List Answer) (a : Answer) (c : ClauseTree) → (c ++ packed us) ++ packed (a ∷ []) ≡ c ++ packed (us ++ a ∷ [])
packed_more us a c = append_assoc c (packed us) (packed (a ∷ [])) ∙ ap (λ d. c ++ d) (more_of us)
  where
    more_of : (us : List Answer) → packed us ++ packed (a ∷ []) ≡ packed (us ++ a ∷ [])
    more_of [] = refl
    more_of (b ∷ us) = ap (λ d. literal true (app b.goal b.terms) ∷ d) (more_of us)

pub unpacked_more : (c : ClauseTree) (l : Lit) → unpacked (c ++ l ∷ []) ≡ unpacked c ++ answer_in l.atom
unpacked_more [] l = append-nil (answer_in l.atom)
unpacked_more (k ∷ c) l = ap (λ us. answer_in k.atom ++ us) (unpacked_more c l) ∙ sym (append_assoc (answer_in k.atom) (unpacked c) (answer_in l.atom))

-- one literal more
pub unpacked_next : (ls : List Literal) (l : Literal) → unpacked (map literal_of (ls ++ l ∷ [])) ≡ unpacked (map literal_of ls) ++ answer_in (tree_of l.atom)
unpacked_next ls l = ap unpacked (map_push literal_of ls l) ∙ unpacked_more (map literal_of ls) (literal_of l)

pub no_answer : (t : Term) → ((f : Sym) (ts : Terms) → t ≡ App f ts → ⊥) → answer_in (tree_of t) ≡ []
no_answer (Var x) h = refl
no_answer (Elem k) h = refl
no_answer (App f ts) h = absurd (h f ts refl)
