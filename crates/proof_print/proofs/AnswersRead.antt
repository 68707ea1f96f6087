-- Printed clauses with answers are read as these.
use Rattle.std.proofs.Common.{◌≡◌, ◌∙◌, ◌⊎◌, inl, inr, ℕ, suc, ◌+◌, ◌-◌, ◌<◌, ◌≤◌, ◌^◌, Bool, true, false, ◌||◌, not, List, [], ◌∷◌, ◌++◌, length, take, map, Option, Some, None, refl, sym, ap, ap₂, subst, arith}
use Rattle.std.specs.Option.{option_map}
use Rattle.std.specs.Prelude.{codes, nat_le}
use Rattle.std.specs.Fmt.{decimal}
use Rattle.std.proofs.lemmas.Bool.{and_from, cond-true}
use Rattle.std.proofs.lemmas.List.{length-append}
use Rattle.std.proofs.Math.Seq.{take-append_seam}
use Rattle.answers.proofs.Packing.{whole_variables}
use Rattle.answers.proofs.Prefix.{variables_both}
use Rattle.answers.specs.AnswerTrees.{Answer, answer, whole}
use Rattle.answers.specs.Packed.{packed}
use Rattle.derivation.specs.declared.line.Content.TheVariants.{Clause}
use Rattle.fol_core.specs.Free.{joined, variables_of_all}
use Rattle.fol_core.specs.Bound.{have_symbol}
use Rattle.fol_core.specs.Fol.{Fol}
use Rattle.fol_core.specs.Literals.{ClauseTree, equality}
use Rattle.fol_core.specs.RawTree.{RawTree, named, RawTrees, no_raws, more_raws, raws_of, depth}
use Rattle.fol_core.specs.Renumbered.{clause_variables}
use Rattle.fol_core.specs.SymbolTable.{Symbol, FindsEach}
use Rattle.fol_core.specs.Tree.{Trees, none, more}
use Rattle.ladr_formulas.specs.ClauseIn.{clause_in}
use Rattle.ladr_formulas.specs.Formulas.{Reading, Made, meets, style_of, terms_of}
use Rattle.ladr_formulas.specs.declared.styles.Mode.TheVariants.{Prover}
use Rattle.ladr_formulas.specs.declared.styles.Style.{Style}
use Rattle.ladr_lex.proofs.Numerals.{whole_decimal}
use Rattle.ladr_lex.specs.ClauseNames.{clause_variable}
use Rattle.ladr_lex.specs.Lexeme.{full_stop}
use Rattle.ladr_lex.specs.Numeral.{whole_number}
use Rattle.ladr_lex.specs.Operators.{OperatorRow}
use Rattle.ladr_lex.specs.declared.misuse.Misuse.TheVariants.{TwoKinds, UnfitAttribute}
use Rattle.ladr_print.proofs.Upto.{upto}
use Rattle.ladr_print.proofs.Writes.{follow, whole_has, before_alone, stop_alone, stop_written}
use Rattle.ladr_print.specs.ClauseText.{clause_raw, clause_bytes}
use Rattle.ladr_print.specs.HasText.{many, AreOver, HaveTexts}
use Rattle.ladr_print.specs.TermText.{Naming, terms_raw}
use Rattle.ladr_reader.specs.Marks.{in_quotes}
use Rattle.ladr_reader.specs.Table.{OperatorTable, table_of}
use Rattle.ladr_rules.specs.Attributes.{attributes_in}
use Rattle.proof_lines.specs.Answered.{ReadAnswer, all_answers, answer_read, answers_read, are_shallow_answers, number_read, some_answers, with_answer}
use Rattle.proof_lines.specs.declared.answered.TheConstants.{MOST_ANSWERED_LEVELS}
use Rattle.proof_lines.specs.Stated.{answers_made, answers_read_behind}
use Rattle.proof_lines.specs.Strays.{brings_stray}
use Rattle.proof_print.proofs.AnswersShown.{CanShow, CanShowAll, answered_shown}
use Rattle.proof_print.proofs.ClauseReading.{clause_read, AreOwn, state, terms_read, between, same_numbers}
use Rattle.proof_print.proofs.ClauseShapes.{stands}
use Rattle.proof_print.proofs.ContentShown.{no_strays}
use Rattle.proof_print.proofs.Hashless.{HaveNoHash}
use Rattle.proof_print.proofs.HashlessClauses.{clause_hashless, terms_hashless}
use Rattle.proof_print.proofs.LinesBack.{content_reads, cut_at}
use Rattle.proof_print.proofs.NamedClauses.{clause_has, terms_have}
use Rattle.proof_print.proofs.Numbered.{numbered_upto}
use Rattle.proof_print.specs.AnsweredTexts.{answer_raw, answers_raw, answered_raw, answered_bytes}
use Rattle.proof_print.specs.AnswersReread.{IsPrintableAnswer, ArePrintableAnswers, IsPrintableWith, ReadsAnswered}
use Rattle.proof_print.specs.Reread.{CanPrint, IsCutInto}
use Rattle.proof_print.specs.Rereadable.{clause_uses, HaveFunctions}

-- a number in quotes is read as the number
front_of : (xs : List ℕ) (y : ℕ) → take (length (xs ++ y ∷ []) - 1) (xs ++ y ∷ []) ≡ xs
front_of xs y =
    let size : length (xs ++ y ∷ []) - 1 ≡ length xs = omega (arith, length-append xs (y ∷ [])) in
    ap (λ (n : ℕ). take n (xs ++ y ∷ [])) size ∙ take-append_seam xs (y ∷ [])

number_back : (n : ℕ) → n < 2 ^ 64 → number_read (named (in_quotes (decimal n)) no_raws) ≡ Some n
number_back n h = ap whole_number (front_of (decimal n) 34) ∙ whole_decimal n h

-- some terms are a first one and others
abbrev rows_of : RawTrees → List RawTree
rows_of no_raws = []
rows_of (more_raws t ts) = t ∷ rows_of ts

rows_back : (ts : RawTrees) → raws_of (rows_of ts) ≡ ts
rows_back no_raws = refl
rows_back (more_raws t ts) = ap (more_raws t) (rows_back ts)

module _ (T : List Symbol) (v : Naming) where
  -- what an answer is read as
  abbrev pub raw_answer : Answer → ReadAnswer
  raw_answer a = record { goal = a.goal; terms = terms_raw T v a.terms }

  pub record Parted (ts : Trees) : Type 0 where
    pub first : RawTree
    pub others : List RawTree
    pub are : terms_raw T v ts ≡ raws_of (first ∷ others)

  parted : (ts : Trees) → 1 ≤ many ts → Parted ts
  parted none h = absurd (omega (arith, h))
  parted (more t ts) h = record { first = _; others = rows_of (terms_raw T v ts); are = sym (rows_back (terms_raw T v (more t ts))) }

  answer_back : (a : Answer) → a.goal < 2 ^ 64 → Parted a.terms → answer_read (answer_raw T v a) ≡ Some (raw_answer a)
  answer_back a h p =
      subst (λ (us : RawTrees). answer_read (named (in_quotes (codes "answer")) (more_raws (named (in_quotes (decimal a.goal)) no_raws) us)) ≡ Some (record { goal = a.goal; terms = us })) (sym p.are)
      (ap (option_map (λ goal. record { goal = goal; terms = raws_of (p.first ∷ p.others) })) (number_back a.goal h))

  alone : (a : Answer) → Parted a.terms → attributes_in (answer_raw T v a) ≡ answer_raw T v a ∷ []
  alone a p =
      subst (λ (us : RawTrees). attributes_in (named (in_quotes (codes "answer")) (more_raws (named (in_quotes (decimal a.goal)) no_raws) us)) ≡ named (in_quotes (codes "answer")) (more_raws (named (in_quotes (decimal a.goal)) no_raws) us) ∷ []) (sym p.are)
      (by p.others)
    where
      by : (ts : List RawTree) → attributes_in (named (in_quotes (codes "answer")) (more_raws (named (in_quotes (decimal a.goal)) no_raws) (raws_of (p.first ∷ ts))))
          ≡ named (in_quotes (codes "answer")) (more_raws (named (in_quotes (decimal a.goal)) no_raws) (raws_of (p.first ∷ ts))) ∷ []
      by [] = refl
      by (t ∷ ts) = refl

  -- and answers
  abbrev pub AllParted : List Answer → Type 0
  AllParted [] = Unit {0}
  AllParted (a ∷ us) = (a.goal < 2 ^ 64) × Parted a.terms × AllParted us

  listed : (a : Answer) (us : List Answer) → AllParted (a ∷ us) → attributes_in (answers_raw T v a us) ≡ map (answer_raw T v) (a ∷ us)
  listed a [] h = alone a h.1
  listed a (b ∷ us) h = ap (λ (ts : List RawTree). answer_raw T v a ∷ ts) (listed b us h.2)

  all_back : (us : List Answer) → AllParted us → all_answers (map (answer_raw T v) us) ≡ Some (map raw_answer us)
  all_back [] h = refl
  all_back (a ∷ us) h = ap₂ with_answer (answer_back a h.0 h.1) (all_back us h.2)

  pub answers_back : (c : ClauseTree) (a : Answer) (us : List Answer) → AllParted (a ∷ us) → answers_read (answered_raw T v c (a ∷ us)) ≡ Some (map raw_answer (a ∷ us))
  answers_back c a us h = ap some_answers (listed a us h) ∙ all_back (a ∷ us) h

module _ (st : Style) (plain : st.elements ≡ false) (T : List Symbol) (few : length T ≤ equality) (finds : FindsEach T) where
  abbrev at : ℕ → Bool → Reading
  at n large = state st plain T few finds n large

  -- the terms of answers, which are symbols' that are read as themselves
  abbrev AllOwn : List Answer → Type 0
  AllOwn [] = Unit {0}
  AllOwn (a ∷ us) = AreOver T a.terms × HaveFunctions T a.terms × AreOwn st plain T few finds (λ s. have_symbol s a.terms) × AllOwn us

  -- answers are read behind n variables
  answers_are : (us : List Answer) → AllOwn us → (n m : ℕ) (large : Bool) → m ≤ 2 ^ 64 → joined (upto n) (clause_variables (packed us)) ≡ upto m →
      (after : Bool) × (answers_made st (at n large) (map (raw_answer T (clause_variable st.prolog)) us) ≡ record { tree = us; reading = at m after })
  answers_are [] h n m large size e = (large, ap (λ (k : ℕ). record { tree = []; reading = at k large }) (same_numbers n m e))
  answers_are (a ∷ us) h n m large size e =
      let b = between st plain T few finds n (variables_of_all a.terms) (clause_variables (packed us)) m e in
      let first = terms_read st plain T few finds a.terms h.0 h.1 h.2 n b.middle large (omega (arith, size, b.within)) b.front in
      let others = answers_are us h.3 b.middle m first.0 size b.back in
      let raws = map (raw_answer T (clause_variable st.prolog)) us in (
        others.0,
        ap (λ (r : Made Trees). let o = answers_made st r.reading raws in record { tree = answer a.goal r.tree ∷ o.tree; reading = o.reading }) first.1
            ∙ ap (λ (o : Made (List Answer)). record { tree = answer a.goal a.terms ∷ o.tree; reading = o.reading }) others.1,
      )

module _ (rows : List OperatorRow) (prolog : Bool) (problem T : List Symbol) (can : CanPrint rows prolog T) where
  abbrev g : OperatorTable
  g = table_of rows

  abbrev st : Style
  st = style_of Prover prolog

  abbrev v : Naming
  v = clause_variable prolog

  shows : (a : Answer) → IsPrintableAnswer g prolog T a → CanShow rows can.lawful can.fixed T v a
  shows a p =
      let q = parted T v a.terms p.some in
      record {
        short = p.goal;
        first = q.first;
        others = q.others;
        are = q.are;
        texts = subst (HaveTexts g) q.are (terms_have rows can.fixed prolog can.frees T can.few a.terms p.over (λ n h e. (p.readable n h e).named));
        plain = subst HaveNoHash q.are (terms_hashless st refl T can.few can.finds a.terms p.over (λ n h e. (p.readable n h e).itself));
      }

  all_show : (us : List Answer) → ArePrintableAnswers g prolog T us → CanShowAll rows can.lawful can.fixed T v us
  all_show [] h = tt
  all_show (a ∷ us) h = (shows a h.0, all_show us h.1)

  all_parted : (us : List Answer) → ArePrintableAnswers g prolog T us → AllParted T v us
  all_parted [] h = tt
  all_parted (a ∷ us) h = (h.0.goal, parted T v a.terms h.0.some, all_parted us h.1)

  all_own : (us : List Answer) → ArePrintableAnswers g prolog T us → AllOwn st refl T can.few can.finds us
  all_own [] h = tt
  all_own (a ∷ us) h = (h.0.over, h.0.kinds, λ n k e. (h.0.readable n k e).itself, all_own us h.1)

  all_shallow : (us : List Answer) → ArePrintableAnswers g prolog T us → are_shallow_answers (map (raw_answer T v) us) ≡ true
  all_shallow [] h = refl
  all_shallow (a ∷ us) h = and_from _ _ h.0.shallow (all_shallow us h.1)

  -- without answers
  bare : (c : ClauseTree) → IsPrintableWith g prolog T c [] → ReadsAnswered g prolog problem T c []
  bare c p =
      let r = content_reads rows rows prolog problem T (Clause c) can.lawful can p.clause in
      record {
        tokens = r.tokens;
        tree = r.tree;
        raws = [];
        cut = λ i. subst (λ (b : List ℕ). IsCutInto i (b ++ codes ".") r.tokens) (ap (clause_bytes g T v) p.clause.numbered) (r.cut i);
        is_clause = r.is_content;
        shallow = r.is_read.shallow;
        unmisused = r.is_read.unmisused;
        clause = r.is_read.means;
        answers = refl;
        symbols = r.is_read.symbols;
      }

  -- with some
  answered : (c : ClauseTree) (a : Answer) (us : List Answer) → IsPrintableWith g prolog T c (a ∷ us) → ReadsAnswered g prolog problem T c (a ∷ us)
  answered c a us p =
      let own : AreOwn st refl T can.few can.finds (clause_uses c) = λ n h e. (p.clause.readable n h e).itself in
      let s = answered_shown rows can.lawful can.fixed T v c a us (clause_has rows can.fixed prolog can.frees T can.few c p.clause.over (λ n h e. (p.clause.readable n h e).named))
      (clause_hashless st refl T can.few can.finds c p.clause.over own) (shows a p.answers.0) (all_show us p.answers.1)
      in
      let all : List Answer = a ∷ us in
      let raws = map (raw_answer T v) all in
      let t = clause_raw T v c in
      let n = length (clause_variables c) in
      let m = length (clause_variables (whole c all)) in
      let first = numbered_upto c p.clause.numbered in
      let r = clause_read st refl T can.few can.finds c n p.clause.over p.clause.kinds own p.clause.few first in
      let joins : joined (upto n) (clause_variables (packed all)) ≡ upto m =
      ap (λ (xs : List ℕ). joined xs (clause_variables (packed all))) (sym first)
      ∙ sym (variables_both c (packed all)) ∙ whole_variables c all ∙ numbered_upto (whole c all) p.numbered
      in
      let q = answers_are st refl T can.few can.finds all (all_own all p.answers) n m r.after p.few joins in
      let made : answers_read_behind st T false t raws ≡ record { tree = all; reading = state st refl T can.few can.finds m q.0 } =
      ap (λ (x : Made Fol). answers_made st x.reading raws) r.read ∙ q.1
      in
      let back = answers_back T v c a us (all_parted all p.answers) in
      let text = answered_bytes g T v c all in
      record {
        tokens = s.tokens ++ full_stop ∷ [];
        tree = t;
        raws = raws;
        cut =
            cut_at (text ++ codes ".") (s.tokens ++ full_stop ∷ [])
            (whole_has (text ++ codes ".") (s.tokens ++ full_stop ∷ []) (follow text (codes ".") s.tokens (full_stop ∷ []) s.writes stop_written (before_alone text 46 [] stop_alone)));
        is_clause = (
          answered_raw T v c all,
          s.item,
          cond-true (nat_le (depth (answered_raw T v c all)) MOST_ANSWERED_LEVELS) _ _ p.levels ∙ back,
          rw back refl,
          stands st refl T can.few can.finds c p.clause.over p.clause.kinds own,
          s.begun,
        );
        shallow = ap₂ (λ (x y : Bool). not x || y) (all_shallow all p.answers) p.clause.shallow;
        unmisused =
            ap (λ (x : Made (List Answer)). (meets (brings_stray problem (length T) x.reading.symbols) TwoKinds (meets false UnfitAttribute x.reading)).least) made
            ∙ ap (λ (b : Bool). (meets b TwoKinds (state st refl T can.few can.finds m q.0)).least) (no_strays problem T);
        clause = ap (λ (x : Made Fol). clause_in x.tree) r.read ∙ r.is;
        answers = ap (λ (x : Made (List Answer)). x.tree) made;
        symbols = ap (λ (x : Made (List Answer)). x.reading.symbols) made;
      }

  pub answered_read : (c : ClauseTree) (us : List Answer) → IsPrintableWith g prolog T c us → ReadsAnswered g prolog problem T c us
  answered_read c [] p = bare c p
  answered_read c (a ∷ us) p = answered c a us p
