-- What is printed reads back.
use Rattle.std.proofs.Common.{◌≡◌, ℕ, suc, Bool, true, false, List, [], ◌∷◌, ◌++◌, length, Option, Some, None, inl, inr, refl, sym, ap, ◌∙◌, subst, append_assoc, arith}
use Rattle.std.specs.Prelude.{codes}
use Rattle.std.proofs.lemmas.Bool.{cases_Bool}
use Rattle.std.proofs.lemmas.Bool.Decides.{nat_tests}
use Rattle.std.proofs.lemmas.List.{append-nil}
use Rattle.fol_core.specs.RawTree.{RawTree, named, quantified, RawTrees, no_raws, more_raws, raws_of}
use Rattle.fol_core.specs.declared.raw.Quantifier.{Quantifier}
use Rattle.fol_core.specs.declared.raw.Quantifier.TheVariants.{All, Exists}
use Rattle.ladr_lex.specs.Bytes.{is_ordinary}
use Rattle.ladr_lex.specs.Cuts.{can_be}
use Rattle.ladr_lex.specs.Lexeme.{Sort, ordinary, Lexeme, open_paren, close_paren, comma, full_stop, symbol}
use Rattle.ladr_lex.specs.Operators.{OperatorRow, are_lawful, is_prefix, if_prefix, if_after}
use Rattle.ladr_lex.specs.declared.operators.Operator.{Operator}
use Rattle.ladr_reader.specs.Reads.{Reads, atom, applied, group, bound, prefixed, postfixed, infixed, ReadsAll, single, further}
use Rattle.ladr_reader.specs.Table.{OperatorTable, table_of, left, right, takes, ends, tree_grows}
use Rattle.ladr_reader.specs.declared.sides.Side.TheVariants.{Nothing, UpTo}
use Rattle.ladr_reader.proofs.HasText.{has_text, cuts_written}
use Rattle.ladr_reader.proofs.Lawful.{Lawful, table_lawful, prefix_room, up_to_room, reads_at_most}
use Rattle.ladr_print.specs.HasText.{kind_of, CanStand, plain, before, behind, between, HasText, HaveTexts}
use Rattle.ladr_print.specs.Precedences.{is_infix, raws_count, own_precedence, precedence}
use Rattle.ladr_print.specs.RawText.{Printed, wrapped, left_argument, right_argument, body, word, commas, application_text, with_one, with_two, arranged, text_of, printed, printed_all}
use Rattle.ladr_print.specs.RawText as text
use Rattle.ladr_print.specs.ReadsAs.{ReadsAs, ItemAs}
use Rattle.ladr_print.specs.Spacing.{kept_apart}
use Rattle.ladr_print.proofs.Operands.{prefix_one, infix_after, postfix_one, no_right, left_room, right_room, no_prefix}
use Rattle.ladr_print.proofs.Writes.{Writes, follow, spaced_follow, beside_written, symbol_written, open_written, close_written, comma_written, before_alone, behind_alone, behind_last, open_alone, close_alone, comma_alone, stop_alone, stop_written, whole_has}

-- a text that is this term, of this precedence
pub record Shows (g : OperatorTable) (bytes : List ℕ) (t : RawTree) (p : ℕ) : Type 0 where
  pub tokens : List Lexeme
  pub writes : Writes bytes tokens
  pub reads : Reads g tokens t p

-- the printed text is
abbrev pub Good : OperatorTable → RawTree → Type 0
Good g t = Shows g (text_of g t) t (precedence g t)

abbrev pub AllGood : OperatorTable → List RawTree → Type 0
AllGood g [] = Unit {0}
AllGood g (t ∷ ts) = Good g t × AllGood g ts

as_is : (g : OperatorTable) (a b : List ℕ) (t : RawTree) (p q : ℕ) → b ≡ a → q ≡ p → Shows g a t p → Shows g b t q
as_is g a b t p q e f x = subst (λ (l : List ℕ). Shows g l t q) (sym e) (subst (λ (n : ℕ). Shows g a t n) (sym f) x)

-- in parentheses
grouped : (g : OperatorTable) (a : List ℕ) (t : RawTree) (p : ℕ) → Shows g a t p → Shows g (codes "(" ++ a ++ codes ")") t 0
grouped g a t p x =
    record {
      tokens = open_paren ∷ (x.tokens ++ close_paren ∷ []);
      writes =
          follow (codes "(" ++ a) (codes ")") (open_paren ∷ x.tokens) (close_paren ∷ [])
          (follow (codes "(") a (open_paren ∷ []) x.tokens open_written x.writes (behind_alone 40 a open_alone)) close_written
          (before_alone (codes "(" ++ a) 41 [] close_alone);
      reads = group x.reads;
    }

-- an argument passes a test of precedences, where what is in parentheses does
pub record Fitted (g : OperatorTable) (bytes : List ℕ) (t : RawTree) (f : ℕ → Bool) : Type 0 where
  pub own : ℕ
  pub shows : Shows g bytes t own
  pub fits : f own ≡ true

pub fitted : (g : OperatorTable) (t : RawTree) (f : ℕ → Bool) → f 0 ≡ true → Good g t → Fitted g (wrapped (f (precedence g t)) (text_of g t)) t f
fitted g t f z x = by (f (precedence g t)) refl
  where
    by : (b : Bool) → f (precedence g t) ≡ b → Fitted g (wrapped b (text_of g t)) t f
    by true e = record { own = precedence g t; shows = x; fits = e }
    by false e = record { own = 0; shows = grouped g (text_of g t) t (precedence g t) x; fits = z }

-- an operator before, behind and between its arguments
good_before :
    (g : OperatorTable) → Lawful g → (k : Sort) (s : List ℕ) (o : Operator) (t : RawTree) → g.word s ≡ None → g.op s ≡ Some o → is_prefix o.kind ≡ true →
    can_be (Some (kind_of k)) s ≡ true → Good g t → Good g (named s (more_raws t no_raws))
good_before g l k s o t none e pre w x =
    let one = prefix_one o.kind pre in
    let is : if_prefix (g.op s) ≡ Some o = rw (e, pre) refl in
    let a = fitted g t (λ q. ends (right o.kind) o.precedence q (tree_grows g t)) (prefix_room g l s o (tree_grows g t) is) x in
    as_is g (kept_apart s (right_argument o (printed g t))) _ (named s (more_raws t no_raws)) o.precedence _ (rw (e, one, pre) refl) (rw (e, one) refl)
    (record {
      tokens = symbol k s ∷ a.shows.tokens;
      writes = beside_written s (right_argument o (printed g t)) (symbol k s ∷ []) a.shows.tokens (symbol_written k s w) a.shows.writes;
      reads = prefixed k s o none is a.shows.reads a.fits;
    })

good_behind :
    (g : OperatorTable) → Lawful g → (k : Sort) (s : List ℕ) (o : Operator) (t : RawTree) → g.op s ≡ Some o → is_prefix o.kind ≡ false → right o.kind ≡ Nothing →
    can_be (Some (kind_of k)) s ≡ true → Good g t → Good g (named s (more_raws t no_raws))
good_behind g l k s o t e pre n w x =
    let one = postfix_one o.kind n in
    let a = fitted g t (takes (left o.kind) o.precedence) (left_room o.kind o.precedence pre (l.own s o e).0) x in
    let is : if_after (g.op s) ≡ Some o = rw (e, pre) refl in
    as_is g (kept_apart (left_argument o (printed g t)) s) _ (named s (more_raws t no_raws)) o.precedence _ (rw (e, one, pre) refl) (rw (e, one) refl)
    (record {
      tokens = a.shows.tokens ++ symbol k s ∷ [];
      writes = beside_written (left_argument o (printed g t)) s a.shows.tokens (symbol k s ∷ []) a.shows.writes (symbol_written k s w);
      reads = postfixed k s o is n a.shows.reads a.fits;
    })

good_between :
    (g : OperatorTable) → Lawful g → (k : Sort) (s : List ℕ) (o : Operator) (t u : RawTree) → g.op s ≡ Some o → is_infix o.kind ≡ true →
    can_be (Some (kind_of k)) s ≡ true → Good g t → Good g u → Good g (named s (more_raws t (more_raws u no_raws)))
good_between g l k s o t u e two w x y =
    let pre = infix_after o.kind two in
    let p = (l.own s o e).0 in
    let a = fitted g t (takes (left o.kind) o.precedence) (left_room o.kind o.precedence pre p) x in
    let b = fitted g u (λ q. ends (right o.kind) o.precedence q (tree_grows g u)) (right_room o.kind o.precedence (tree_grows g u) two p) y in
    let is : if_after (g.op s) ≡ Some o = rw (e, pre) refl in
    let one = left_argument o (printed g t) in
    let other = right_argument o (printed g u) in
    as_is g (one ++ codes " " ++ s ++ codes " " ++ other) _ (named s (more_raws t (more_raws u no_raws))) o.precedence _ (rw (e, two) refl) (rw (e, two) refl)
    (record {
      tokens = a.shows.tokens ++ symbol k s ∷ b.shows.tokens;
      writes =
          subst (Writes (one ++ codes " " ++ s ++ codes " " ++ other)) (append_assoc a.shows.tokens (symbol k s ∷ []) b.shows.tokens)
          (spaced_follow (one ++ codes " " ++ s) other (a.shows.tokens ++ symbol k s ∷ []) b.shows.tokens
          (spaced_follow one s a.shows.tokens (symbol k s ∷ []) a.shows.writes (symbol_written k s w)) b.shows.writes);
      reads = infixed k s o is a.shows.reads a.fits b.shows.reads b.fits;
    })

-- arguments between commas
pub record Listed (g : OperatorTable) (bytes : List ℕ) (us : List RawTree) : Type 0 where
  pub tokens : List Lexeme
  pub writes : Writes bytes tokens
  pub reads : ReadsAll g tokens us

one_more : (g : OperatorTable) → Lawful g → (bytes : List ℕ) (ks : List RawTree) (t : RawTree) → Listed g bytes ks → Good g t → Listed g (bytes ++ codes "," ++ text_of g t) (ks ++ t ∷ [])
one_more g l bytes ks t x y =
    record {
      tokens = x.tokens ++ comma ∷ y.tokens;
      writes =
          subst (Writes (bytes ++ codes "," ++ text_of g t)) (append_assoc x.tokens (comma ∷ []) y.tokens)
          (follow (bytes ++ codes ",") (text_of g t) (x.tokens ++ comma ∷ []) y.tokens
          (follow bytes (codes ",") x.tokens (comma ∷ []) x.writes comma_written (before_alone bytes 44 [] comma_alone)) y.writes
          (behind_last bytes 44 (text_of g t) comma_alone));
      reads = further x.reads y.reads (reads_at_most g l y.reads);
    }

pub all_listed :
    (g : OperatorTable) → Lawful g → (bytes : List ℕ) (ks ts : List RawTree) → Listed g bytes ks → AllGood g ts →
    Listed g (bytes ++ text.further (printed_all g (raws_of ts))) (ks ++ ts)
all_listed g l bytes ks [] x a =
    subst (λ (b : List ℕ). Listed g b (ks ++ [])) (sym (append-nil bytes)) (subst (Listed g bytes) (sym (append-nil ks)) x)
all_listed g l bytes ks (t ∷ ts) x a =
    let rest = text.further (printed_all g (raws_of ts)) in
    let more = all_listed g l (bytes ++ codes "," ++ text_of g t) (ks ++ t ∷ []) ts (one_more g l bytes ks t x a.0) a.1 in
    let e : bytes ++ codes "," ++ text_of g t ++ rest ≡ bytes ++ text.further (printed_all g (raws_of (t ∷ ts))) =
    append_assoc (bytes ++ codes ",") (text_of g t) rest ∙ append_assoc bytes (codes ",") (text_of g t ++ rest)
    in
    subst (λ (b : List ℕ). Listed g b (ks ++ t ∷ ts)) e
    (subst (Listed g (bytes ++ codes "," ++ text_of g t ++ rest)) (append_assoc ks (t ∷ []) ts) more)

-- a name in front of its arguments
good_plain :
    (g : OperatorTable) → Lawful g → (k : Sort) (s : List ℕ) (us : List RawTree) → g.word s ≡ None → if_prefix (g.op s) ≡ None →
    text_of g (named s (raws_of us)) ≡ application_text s (printed_all g (raws_of us)) → precedence g (named s (raws_of us)) ≡ 0 →
    can_be (Some (kind_of k)) s ≡ true → AllGood g us → Good g (named s (raws_of us))
good_plain g l k s [] none pre e f w a =
    as_is g s _ (named s no_raws) 0 _ e f (record { tokens = symbol k s ∷ []; writes = symbol_written k s w; reads = atom k s none pre })
good_plain g l k s (t ∷ us) none pre e f w a =
    let inside = text_of g t ++ text.further (printed_all g (raws_of us)) in
    let x = all_listed g l (text_of g t) (t ∷ []) us (record { tokens = a.0.tokens; writes = a.0.writes; reads = single a.0.reads (reads_at_most g l a.0.reads) }) a.1 in
    as_is g (s ++ codes "(" ++ inside ++ codes ")") _ (named s (raws_of (t ∷ us))) 0 _ e f
    (record {
      tokens = symbol k s ∷ open_paren ∷ (x.tokens ++ close_paren ∷ []);
      writes =
          follow (s ++ codes "(" ++ inside) (codes ")") (symbol k s ∷ open_paren ∷ x.tokens) (close_paren ∷ [])
          (follow (s ++ codes "(") inside (symbol k s ∷ open_paren ∷ []) x.tokens
          (follow s (codes "(") (symbol k s ∷ []) (open_paren ∷ []) (symbol_written k s w) open_written (before_alone s 40 [] open_alone)) x.writes
          (behind_last s 40 inside open_alone))
          close_written (before_alone (s ++ codes "(" ++ inside) 41 [] close_alone);
      reads = applied k s none pre x.reads;
    })

-- a name that is no prefix operator, with what arguments it has
by_operator :
    (g : OperatorTable) → Lawful g → (k : Sort) (s : List ℕ) (q : Option Operator) (us : List RawTree) → g.word s ≡ None → g.op s ≡ q → if_prefix q ≡ None →
    can_be (Some (kind_of k)) s ≡ true → AllGood g us → Good g (named s (raws_of us))
by_operator g l k s None us none e pre w a = good_plain g l k s us none (ap if_prefix e) (rw e refl) (rw e refl) w a
by_operator g l k s (Some o) [] none e pre w a = good_plain g l k s [] none (ap if_prefix e ∙ pre) (rw e refl) (rw e (zero_plain o)) w a
  where
    zero_plain : (o : Operator) → own_precedence (Some o) 0 ≡ 0
    zero_plain o = elim (cases_Bool (is_infix o.kind)) [
      | inl y ↦ rw y refl
      | inr n ↦ rw n refl
    ]
by_operator g l k s (Some o) (t ∷ []) none e pre w a =
    elim (cases_Bool (is_infix o.kind)) [
      | inl y ↦ good_plain g l k s (t ∷ []) none (ap if_prefix e ∙ pre) (rw (e, y) refl) (rw (e, y) refl) w a
      | inr n ↦ good_behind g l k s o t e (no_prefix o pre) (no_right o.kind n (no_prefix o pre)) w a.0
    ]
by_operator g l k s (Some o) (t ∷ u ∷ []) none e pre w a =
    elim (cases_Bool (is_infix o.kind)) [
      | inl y ↦ good_between g l k s o t u e y w a.0 a.1.0
      | inr n ↦ good_plain g l k s (t ∷ u ∷ []) none (ap if_prefix e ∙ pre) (rw (e, n) refl) (rw (e, n) refl) w a
    ]
by_operator g l k s (Some o) (t ∷ u ∷ v ∷ us) none e pre w a =
    good_plain g l k s (t ∷ u ∷ v ∷ us) none (ap if_prefix e ∙ pre) (rw e refl) (rw e (many_plain o (raws_count (raws_of us)))) w a
  where
    many_plain : (o : Operator) (n : ℕ) → own_precedence (Some o) (suc (suc (suc n))) ≡ 0
    many_plain o n = elim (cases_Bool (is_infix o.kind)) [
      | inl y ↦ grind (arith, nat_tests)
      | inr m ↦ grind (arith, nat_tests)
    ]

-- the words of quantifiers
pub record HasWords (g : OperatorTable) : Type 0 where
  pub spelled : (q : Quantifier) → g.word (word q) ≡ Some q

word_written : (q : Quantifier) → Writes (word q) (symbol ordinary (word q) ∷ [])
unfolding is_ordinary
word_written All = symbol_written ordinary (codes "all") refl
word_written Exists = symbol_written ordinary (codes "exists") refl

good_quantified :
    (g : OperatorTable) → HasWords g → (j : Sort) (q : Quantifier) (x : List ℕ) (t : RawTree) → g.variable j x ≡ true → can_be (Some (kind_of j)) x ≡ true →
    Good g t → Good g (quantified q x t)
good_quantified g h j q x t v w y =
    let a = fitted g t (λ p. ends UpTo 750 p (tree_grows g t)) (up_to_room 750 (tree_grows g t) (omega arith)) y in
    record {
      tokens = symbol ordinary (word q) ∷ symbol j x ∷ a.shows.tokens;
      writes =
          spaced_follow (word q ++ codes " " ++ x) (body (printed g t)) (symbol ordinary (word q) ∷ symbol j x ∷ []) a.shows.tokens
          (spaced_follow (word q) x (symbol ordinary (word q) ∷ []) (symbol j x ∷ []) (word_written q) (symbol_written j x w)) a.shows.writes;
      reads = bound ordinary j q (word q) x (h.spelled q) v a.shows.reads a.fits;
    }

-- and what is so, reads back as printed
abbrev raws_list : RawTrees → List RawTree
raws_list no_raws = []
raws_list (more_raws t ts) = t ∷ raws_list ts

raws_back : (ts : RawTrees) → raws_of (raws_list ts) ≡ ts
raws_back no_raws = refl
raws_back (more_raws t ts) = ap (more_raws t) (raws_back ts)

count_list : (us : List RawTree) → raws_count (raws_of us) ≡ length us
count_list [] = refl
count_list (u ∷ us) = ap suc (count_list us)

good_named : (g : OperatorTable) → Lawful g → (k : Sort) (s : List ℕ) (us : List RawTree) → can_be (Some (kind_of k)) s ≡ true → CanStand g s (raws_count (raws_of us)) → AllGood g us → Good g (named s (raws_of us))
good_named g l k s us w (plain none pre) a = by_operator g l k s (g.op s) us none refl pre w a
good_named g l k s [] w (before o none e pre n) a = absurd (cc)
good_named g l k s (t ∷ []) w (before o none e pre n) a = good_before g l k s o t none e pre w a.0
good_named g l k s (t ∷ u ∷ us) w (before o none e pre n) a = absurd (omega arith)
good_named g l k s [] w (behind o e pre r n) a = absurd (cc)
good_named g l k s (t ∷ []) w (behind o e pre r n) a = good_behind g l k s o t e pre r w a.0
good_named g l k s (t ∷ u ∷ us) w (behind o e pre r n) a = absurd (omega arith)
good_named g l k s [] w (between o e two n) a = absurd (cc)
good_named g l k s (t ∷ []) w (between o e two n) a = absurd (omega arith)
good_named g l k s (t ∷ u ∷ []) w (between o e two n) a = good_between g l k s o t u e two w a.0 a.1.0
good_named g l k s (t ∷ u ∷ v ∷ us) w (between o e two n) a = absurd (omega arith)

mutual
  pub good : (g : OperatorTable) → Lawful g → HasWords g → (t : RawTree) → HasText g t → Good g t
  good g l h (quantified q x t) p = good_quantified g h p.0.sort q x t p.0.allowed p.0.written (good g l h t p.1)
  good g l h (named s ts) p =
      subst (λ (us : RawTrees). Good g (named s us)) (raws_back ts)
      (good_named g l p.0.sort s (raws_list ts) p.0.written (subst (λ (us : RawTrees). CanStand g s (raws_count us)) (sym (raws_back ts)) p.0.allowed) (all_good g l h ts p.1))

  all_good : (g : OperatorTable) → Lawful g → HasWords g → (ts : RawTrees) → HaveTexts g ts → AllGood g (raws_list ts)
  all_good g l h no_raws p = tt
  all_good g l h (more_raws t ts) p = (good g l h t p.0, all_good g l h ts p.1)

-- so what is printed for a tree that a text reads as, reads back
table_words : (rows : List OperatorRow) → HasWords (table_of rows)
table_words rows = record { spelled = λ q. word_spelled q }
  where
    word_spelled : (q : Quantifier) → (table_of rows).word (word q) ≡ Some q
    word_spelled All = refl
    word_spelled Exists = refl

-- a tree that a text reads as may be printed
pub text_has : (rows : List OperatorRow) {bytes : List ℕ} {t : RawTree} {p : ℕ} → ReadsAs (table_of rows) bytes t p → HasText (table_of rows) t
text_has rows r = has_text (table_of rows) r.reads (cuts_written r.cuts)

pub printed_reads :
    (rows : List OperatorRow) (t : RawTree) → are_lawful rows ≡ true → HasText (table_of rows) t →
    ReadsAs (table_of rows) (text_of (table_of rows) t) t (precedence (table_of rows) t)
printed_reads rows t l p =
    let x = good (table_of rows) (table_lawful rows l) (table_words rows) t p in
    let h = whole_has (text_of (table_of rows) t) x.tokens x.writes 0 in
    record { pieces = h.pieces; cuts = h.cuts; reads = subst (λ (ts : List Lexeme). Reads (table_of rows) ts t (precedence (table_of rows) t)) (sym h.are) x.reads }

pub reads_back :
    (rows : List OperatorRow) (bytes : List ℕ) (t : RawTree) (p : ℕ) → are_lawful rows ≡ true → ReadsAs (table_of rows) bytes t p →
    ReadsAs (table_of rows) (text_of (table_of rows) t) t (precedence (table_of rows) t)
reads_back rows bytes t p l r = printed_reads rows t l (text_has rows r)

-- with a full stop it is an item
pub is_item :
    (rows : List OperatorRow) (bytes : List ℕ) (t : RawTree) (p : ℕ) → are_lawful rows ≡ true → ReadsAs (table_of rows) bytes t p →
    ItemAs (table_of rows) (text_of (table_of rows) t ++ codes ".") t
is_item rows bytes t p l r =
    let g = table_of rows in
    let lawful = table_lawful rows l in
    let x = good g lawful (table_words rows) t (text_has rows r) in
    let h = whole_has (text_of g t ++ codes ".") (x.tokens ++ full_stop ∷ []) (follow (text_of g t) (codes ".") x.tokens (full_stop ∷ []) x.writes stop_written (before_alone (text_of g t) 46 [] stop_alone)) 0 in
    record { pieces = h.pieces; cuts = h.cuts; item = record { tokens = x.tokens; precedence = precedence g t; reads = x.reads; bounded = reads_at_most g lawful x.reads; stops = h.are } }
