-- Answers and their parts by how many arguments they have.
use Rattle.std.proofs.Common.{◌≡◌, ◌∙◌, ℕ, suc, ◌==◌, ◌&&◌, Bool, true, false, if◌then◌else◌, List, [], ◌∷◌, ◌++◌, append_assoc, length, get_or, ◌<◌, ◌≤◌, Option, Some, None, codes, refl, ap, sym, arith}
use Rattle.std.proofs.lemmas.Bool.Decides.{nat_tests}
use Rattle.std.specs.Option.{option_map}
use Rattle.std.specs.Str.{bytes_eq}
use Rattle.fol_core.specs.RawTree.{RawTree, named, quantified, RawTrees, no_raws, more_raws, raws_of}
use Rattle.fol_core.specs.RawView.{raw_of, raw_list}
use Rattle.fol_core.specs.declared.raw.Raw.{Raw}
use Rattle.ladr_formulas.specs.Formulas.{arity_of}
use Rattle.ladr_reader.specs.Capped.{disjuncts, is_bar}
use Rattle.ladr_reader.specs.Marks.{in_quotes}
use Rattle.ladr_rules.specs.Attributes.{attributes_in}
use Rattle.ladr_rules.specs.Seen.{is_joined}
use Rattle.ladr_rules.proofs.AskedParts.{attributes_alone}
use Rattle.proof_lines.specs.Answered.{ReadAnswer, all_answers, answer_read, answers_read, clause_part, continued, goal_in, goal_read, is_disjoined, number_marked, number_read, some_answers, with_answer}

and_parts : (a b : Bool) → (a && b) ≡ true → (a ≡ true) × (b ≡ true)
and_parts true b e = (refl, e)
and_parts false b e = absurd cc

of_two : (n : ℕ) → (n == 2) ≡ true → n ≡ 2
of_two n h = grind (arith, nat_tests)

none_here : (n : ℕ) → (suc n == 0) ≡ false
none_here n = grind (arith, nat_tests)

pub number_by_length : (s : List ℕ) (ts : List RawTree) → number_read (named s (raws_of ts)) ≡ (if length ts == 0 then number_marked s else None)
number_by_length s [] = refl
number_by_length s (t ∷ ts) = ap (λ b. if b then number_marked s else None) (sym (none_here (length ts)))

-- a number as the goal of an answer
goal_kept : (o : Option ℕ) (f : ℕ → ReadAnswer) → ((n : ℕ) → (f n).goal ≡ n) → option_map (λ (a : ReadAnswer). a.goal) (option_map f o) ≡ o
goal_kept None f h = refl
goal_kept (Some n) f h = ap Some (h n)

abbrev with_terms : RawTrees → ℕ → ReadAnswer
with_terms ts n = record { goal = n; terms = ts }

by_word : (s : List ℕ) (n t : RawTree) (ts : RawTrees) (b : Bool) → bytes_eq s (in_quotes (codes "answer")) ≡ b → goal_read (named s (more_raws n (more_raws t ts))) ≡ (if b then number_read n else None)
by_word s n t ts true e = rw e (goal_kept (number_read n) (with_terms (more_raws t ts)) (λ m. refl))
by_word s n t ts false e = rw e refl

none_either : (b : Bool) → ◌≡◌ {A = Option ℕ} (if b then None else None) None
none_either true = refl
none_either false = refl

pub goal_by_name : (s : List ℕ) (ts : List RawTree) → goal_read (named s (raws_of ts)) ≡ (if bytes_eq s (in_quotes (codes "answer")) then goal_in ts else None)
goal_by_name s [] = sym (none_either (bytes_eq s (in_quotes (codes "answer"))))
goal_by_name s (n ∷ []) = sym (none_either (bytes_eq s (in_quotes (codes "answer"))))
goal_by_name s (n ∷ t ∷ ts) = by_word s n t (raws_of ts) (bytes_eq s (in_quotes (codes "answer"))) refl

pub goal_in_front : (ls : List Raw) (x : Raw) → 2 ≤ length ls → x ≡ get_or ls 0 x → goal_in (raw_list ls) ≡ number_read (raw_of x)
goal_in_front [] x h is = absurd (omega arith)
goal_in_front (l ∷ []) x h is = absurd (omega arith)
goal_in_front (l ∷ m ∷ ls) x h is = ap (λ (r : Raw). number_read (raw_of r)) (sym is)

pub no_goal_in : (ls : List Raw) → length ls < 2 → goal_in (raw_list ls) ≡ None
no_goal_in [] h = refl
no_goal_in (l ∷ []) h = refl
no_goal_in (l ∷ m ∷ ls) h = absurd (omega arith)

-- an answer with its terms
pub answer_is : (s : List ℕ) (n t : RawTree) (ts : List RawTree) (goal : ℕ) → bytes_eq s (in_quotes (codes "answer")) ≡ true → number_read n ≡ Some goal
    → answer_read (named s (raws_of (n ∷ t ∷ ts))) ≡ Some (record { goal = goal; terms = raws_of (t ∷ ts) })
answer_is s n t ts goal h k = rw (h, k) refl

pub no_goal : (t : RawTree) → goal_read t ≡ None → answer_read t ≡ None
no_goal t = by (answer_read t)
  where
    by : (o : Option ReadAnswer) → option_map (λ (a : ReadAnswer). a.goal) o ≡ None → o ≡ None
    by None h = refl
    by (Some a) h = absurd cc

-- one answer, and those behind it
answers_on : (us : List ReadAnswer) (o : Option ReadAnswer) (bs : Option (List ReadAnswer)) (a : ReadAnswer) → o ≡ Some a → continued us (with_answer o bs) ≡ continued (us ++ a ∷ []) bs
answers_on us o None a h = rw h refl
answers_on us o (Some bs) a h = rw h (ap Some (sym (append_assoc us (a ∷ []) bs)))

answers_off : (us : List ReadAnswer) (o : Option ReadAnswer) (bs : Option (List ReadAnswer)) → o ≡ None → continued us (with_answer o bs) ≡ None
answers_off us o bs h = rw h refl

pub answers_joined : (us : List ReadAnswer) (t u : RawTree) (o : Option ReadAnswer) → o ≡ answer_read t →
    continued us (all_answers (attributes_in (named (codes "#") (more_raws t (more_raws u no_raws))))) ≡ continued us (with_answer o (all_answers (attributes_in u)))
answers_joined us t u o h = ap (λ (q : Option ReadAnswer). continued us (with_answer q (all_answers (attributes_in u)))) (sym h)

pub answers_alone : (us : List ReadAnswer) (t : RawTree) → is_joined t ≡ false → continued us (all_answers (attributes_in t)) ≡ continued us (with_answer (answer_read t) (Some []))
answers_alone us t h = ap (λ ts. continued us (all_answers ts)) (attributes_alone t h)

pub more_answers : (us : List ReadAnswer) (o : Option ReadAnswer) (bs : Option (List ReadAnswer)) (a : ReadAnswer) → o ≡ Some a → continued us (with_answer o bs) ≡ continued (us ++ a ∷ []) bs
more_answers us o bs a h = answers_on us o bs a h

pub no_answers : (us : List ReadAnswer) (o : Option ReadAnswer) (bs : Option (List ReadAnswer)) → o ≡ None → continued us (with_answer o bs) ≡ None
no_answers us o bs h = answers_off us o bs h

-- of what `#` joins
some_attributes : (t : RawTree) → some_answers (attributes_in t) ≡ all_answers (attributes_in t)
some_attributes (quantified q x t) = refl
some_attributes (named s no_raws) = refl
some_attributes (named s (more_raws t no_raws)) = refl
some_attributes (named s (more_raws t (more_raws u no_raws))) = by (bytes_eq s (codes "#")) refl
  where
    by : (b : Bool) → bytes_eq s (codes "#") ≡ b → some_answers (attributes_in (named s (more_raws t (more_raws u no_raws)))) ≡ all_answers (attributes_in (named s (more_raws t (more_raws u no_raws))))
    by true e = rw e refl
    by false e = rw e refl
some_attributes (named s (more_raws t (more_raws u (more_raws v ts)))) = refl

whole_from_none : (bs : Option (List ReadAnswer)) → continued [] bs ≡ bs
whole_from_none None = refl
whole_from_none (Some bs) = refl

pub part_joined : (t u : RawTree) → answers_read (named (codes "#") (more_raws t (more_raws u no_raws))) ≡ continued [] (all_answers (attributes_in u))
part_joined t u = some_attributes u ∙ sym (whole_from_none (all_answers (attributes_in u)))

pub clause_joined : (t u : RawTree) (us : List ReadAnswer) → answers_read (named (codes "#") (more_raws t (more_raws u no_raws))) ≡ Some us → clause_part (named (codes "#") (more_raws t (more_raws u no_raws))) ≡ t
clause_joined t u us h = rw h refl

pub none_alone : (t : RawTree) → is_joined t ≡ false → answers_read t ≡ None
none_alone (quantified q x t) h = refl
none_alone (named s no_raws) h = refl
none_alone (named s (more_raws t no_raws)) h = refl
none_alone (named s (more_raws t (more_raws u no_raws))) h = rw h refl
none_alone (named s (more_raws t (more_raws u (more_raws v ts)))) h = refl

-- disjuncts by how many arguments the term has
long_arity : (ts : List RawTree) → arity_of (raws_of ts) ≡ length ts
long_arity [] = refl
long_arity (t ∷ ts) = ap suc (long_arity ts)

pub disjoined_by_length : (s : List ℕ) (ts : List RawTree) → is_disjoined (named s (raws_of ts)) ≡ (length ts == 2 && is_bar s)
disjoined_by_length s ts = ap (λ (n : ℕ). n == 2 && is_bar s) (long_arity ts)

-- where `|` joins there are two
pub two_joined : (s : List ℕ) (ts : List RawTree) → is_disjoined (named s (raws_of ts)) ≡ true → length ts ≡ 2
two_joined s ts h = of_two (length ts) (and_parts (length ts == 2) (is_bar s) (sym (disjoined_by_length s ts) ∙ h)).0

pub disjuncts_joined : (s : List ℕ) (t u : RawTree) → is_disjoined (named s (raws_of (t ∷ u ∷ []))) ≡ true → disjuncts (named s (raws_of (t ∷ u ∷ []))) ≡ t ∷ disjuncts u
disjuncts_joined s t u h = (let b : is_bar s ≡ true = (and_parts (2 == 2) (is_bar s) h).1 in rw b refl)

pub disjuncts_alone : (t : RawTree) → is_disjoined t ≡ false → disjuncts t ≡ t ∷ []
disjuncts_alone (quantified q x t) h = refl
disjuncts_alone (named s no_raws) h = refl
disjuncts_alone (named s (more_raws t no_raws)) h = refl
disjuncts_alone (named s (more_raws t (more_raws u no_raws))) h = rw h refl
disjuncts_alone (named s (more_raws t (more_raws u (more_raws v ts)))) h = refl
