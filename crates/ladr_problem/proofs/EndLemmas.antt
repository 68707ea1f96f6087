-- What `end_of_list.` changes: items of lists are terms or names but for it, and the first bad token is that of these unless
-- tokens begin with it.
use Rattle.std.proofs.Common.{◌≡◌, ℕ, zero, suc, ◌+◌, ◌<◌, Bool, true, false, List, [], ◌∷◌, ◌++◌, Option, Some, None, length, take, refl, sym, ap, ◌∙◌, subst, arith, codes, append-nil}
use Rattle.std.proofs.lemmas.Slice.Eq.{bytes_eq-Decides}
use Rattle.std.specs.Str.{bytes_eq}
use Rattle.fol_core.specs.RawTree.{RawTree}
use Rattle.fol_core.specs.declared.raw.Quantifier.{Quantifier}
use Rattle.ladr_lex.specs.declared.limits.TheConstants.{MOST_LEVELS}
use Rattle.ladr_lex.specs.Lexeme.{Lexeme, ordinary, symbol, full_stop, lexemes_of}
use Rattle.ladr_lex.specs.declared.token.Token.{Token}
use Rattle.ladr_lex.specs.Operators.{OperatorRow, operator_of, if_prefix, are_lawful}
use Rattle.ladr_lex.specs.declared.operators.Operator.{Operator}
use Rattle.ladr_reader.specs.Faults.{IsTermFault}
use Rattle.ladr_reader.specs.Machine.{next, go, begin, start_of_symbol}
use Rattle.ladr_distinct.specs.Names.{NamesItem, empty, filled, BeginsNames, IsNamesFault}
use Rattle.ladr_reader.specs.Reads as terms
use Rattle.ladr_reader.specs.Table.{OperatorTable, table_of, right}
use Rattle.ladr_reader.specs.declared.fault.TermFault.{TermFault}
use Rattle.ladr_reader.specs.declared.fault.TermFault.TheVariants.{Bad, Deep, Memory}
use Rattle.ladr_reader.specs.Machine.{Operand, Named}
use Rattle.ladr_reader.specs.declared.stack.Frame.{Frame}
use Rattle.ladr_reader.specs.declared.stack.Frame.TheVariants.{Waiting}
use Rattle.ladr_reader.specs.declared.stack.Part.TheVariants.{Prefix}
use Rattle.ladr_reader.proofs.Lawful.{table_lawful}
use Rattle.ladr_reader.proofs.Live.{begins, table_names}
use Rattle.ladr_distinct.proofs.NamesPass.{item_names}
use Rattle.ladr_reader.proofs.Runs.{stuck_item}
use Rattle.ladr_reader.proofs.Sound.{runs}
use Rattle.ladr_reader.proofs.Complete.{item_one}
use Rattle.ladr_problem.specs.ListItem.{ListItem, closing, term, names, closing_tokens, IsListItem, BeginsListItem, IsItemFault}
use Rattle.ladr_settings.specs.declared.lists.OpenList.{OpenList}
use Rattle.ladr_settings.specs.declared.lists.OpenList.TheVariants.{Distinct}

abbrev word : List ℕ
word = codes "end_of_list"

abbrev end_word : Lexeme
end_word = symbol ordinary word

-- whether tokens are `end_of_list.`
abbrev is_closing : List Lexeme → Bool
is_closing (symbol ordinary s ∷ full_stop ∷ []) = bytes_eq s word
is_closing ts = false

closing_is : (ts : List Lexeme) → is_closing ts ≡ true → ts ≡ closing_tokens
closing_is (symbol ordinary s ∷ full_stop ∷ []) e =
    ap (λ (s : List ℕ). symbol ordinary s ∷ full_stop ∷ []) ((bytes_eq-Decides s word).0 e)
closing_is ts e = cc

-- a term's front is an item's
term_begins : (list : OpenList) → (¬ list ≡ Distinct) → (g : OperatorTable) (ts : List Lexeme) → terms.BeginsItem g ts → BeginsListItem list g ts
term_begins list of_terms g ts b = by_test (is_closing (ts ++ b.more)) refl
  where
    by_test : (c : Bool) → is_closing (ts ++ b.more) ≡ c → BeginsListItem list g ts
    by_test true e = record { more = b.more; item = closing; read = closing_is (ts ++ b.more) e }
    by_test false e = record { more = b.more; item = term b.tree; read = (of_terms, λ same. let e = rw same at e in cc, b.item) }

abbrev waiting : Operator → List Frame
waiting o = Waiting (Prefix word) (right o.kind) o.precedence ∷ []

-- `end_of_list` begins terms
end_begins : (rows : List OperatorRow) → are_lawful rows ≡ true → terms.BeginsItem (table_of rows) (end_word ∷ [])
end_begins rows h = by_operator (if_prefix (operator_of rows word)) refl
  where
    by_operator : (o : Option Operator) → if_prefix (operator_of rows word) ≡ o → terms.BeginsItem (table_of rows) (end_word ∷ [])
    by_operator None e = begins MOST_LEVELS (table_of rows) (table_lawful rows h) (table_names rows) (Named word) [] (end_word ∷ []) (runs MOST_LEVELS (table_of rows) (table_lawful rows h) (end_word ∷ []) (Named word) [] (rw e refl))
    by_operator (Some o) e = begins MOST_LEVELS (table_of rows) (table_lawful rows h) (table_names rows) Operand (waiting o) (end_word ∷ []) (runs MOST_LEVELS (table_of rows) (table_lawful rows h) (end_word ∷ []) Operand (waiting o) (rw e refl))

stuck : (g : OperatorTable) (xs : List Lexeme) → go MOST_LEVELS g None xs ≡ None
stuck g [] = refl
stuck g (x ∷ xs) = stuck g xs

-- no term goes on behind a symbol and a full stop
stuck_behind : (g : OperatorTable) (w : Option Quantifier) (o : Option Operator) (s : List ℕ) (x : Lexeme) (xs : List Lexeme) →
    go MOST_LEVELS g (next MOST_LEVELS g (next MOST_LEVELS g (begin (start_of_symbol w o s) []) full_stop) x) xs ≡ None
stuck_behind g None None s x xs = stuck g xs
stuck_behind g None (Some o) s x xs = stuck g xs
stuck_behind g (Some w) o s x xs = stuck g xs

no_term_behind : (g : OperatorTable) (x : Lexeme) (xs : List Lexeme) (t : RawTree) → ¬ terms.Item g (end_word ∷ full_stop ∷ x ∷ xs) t
no_term_behind g x xs t =
    stuck_item g (end_word ∷ full_stop ∷ x ∷ xs)
    (stuck_behind g (g.word word) (if_prefix (g.op word)) word x xs) t

-- the tokens begin with these two, and a third is behind them
abbrev Split : List Lexeme → Type 0
Split ts = (x : Lexeme) × (xs : List Lexeme) × (ts ≡ end_word ∷ full_stop ∷ x ∷ xs)

split : (ts : List Lexeme) → take 2 ts ≡ closing_tokens → 2 < length ts → Split ts
split [] e h = absurd (omega arith)
split (a ∷ []) e h = absurd (omega arith)
split (a ∷ b ∷ []) e h = absurd (omega arith)
split (a ∷ b ∷ x ∷ xs) e h = (x, xs, cc)

-- no names begin with `end_of_list`
no_names : (g : OperatorTable) {ts : List Lexeme} {ns : List (List ℕ)} → NamesItem g ts ns → (us : List Lexeme) → ts ≡ end_word ∷ us → ⊥
no_names g empty us e = cc
no_names g (filled are) us e = cc

nothing_behind : (list : OpenList) (g : OperatorTable) (ts : List Lexeme) → Split ts → (i : ListItem) → ¬ IsListItem list g ts i
nothing_behind list g ts s closing e = let same = s.2 in cc
nothing_behind list g ts s (term t) item = no_term_behind g s.0 s.1 t (subst (λ (us : List Lexeme). terms.Item g us t) s.2 item.2)
nothing_behind list g ts s (names ns) item = no_names g item.1 (full_stop ∷ s.0 ∷ s.1) s.2

-- token 2 is the first bad one behind `end_of_list.`
pub bad_behind : (list : OpenList) (g : OperatorTable) (ts : List Lexeme) → take 2 ts ≡ closing_tokens → 2 < length ts → IsItemFault list g ts (Bad 2)
bad_behind list g ts e h =
    let s = split ts e h in (
      record {
        within = omega arith;
        before = record { more = []; item = closing; read = append-nil (take 2 ts) ∙ e };
        here = λ _ b. nothing_behind list g (take 3 ts ++ b.more) (s.0, b.more, ap (λ (us : List Lexeme). take 3 us ++ b.more) s.2) b.item b.read;
      },
      nothing_behind list g ts s,
    )

-- tokens that don't begin with `end_of_list.` are no front of it, but for `end_of_list` itself
end_front :
    (rows : List OperatorRow) → are_lawful rows ≡ true → (ts : List Lexeme) (k : ℕ) (more : List Lexeme) → (¬ take 2 ts ≡ closing_tokens) → k < length ts →
    take (k + 1) ts ++ more ≡ closing_tokens → terms.BeginsItem (table_of rows) (take (k + 1) ts)
end_front rows l [] k more other h e = absurd (omega arith)
end_front rows l (x ∷ ts) zero more other h e =
    let first : x ≡ end_word = cc in
    subst (λ (y : Lexeme). terms.BeginsItem (table_of rows) (y ∷ [])) (sym first) (end_begins rows l)
end_front rows l (x ∷ []) (suc k) more other h e = absurd (omega arith)
end_front rows l (x ∷ y ∷ ts) (suc k) more other h e =
    let n : suc k + 1 ≡ suc (suc k) = omega arith in
    let e = rw n at e in
    absurd (other (cc))

-- elsewhere items of lists are terms
pub fault_of_term :
    (list : OpenList) → (¬ list ≡ Distinct) → (rows : List OperatorRow) → are_lawful rows ≡ true → (ts : List Lexeme) → (¬ take 2 ts ≡ closing_tokens) →
    (f : TermFault) → IsTermFault (table_of rows) ts f → IsItemFault list (table_of rows) ts f
fault_of_term list of_terms rows l ts other (Bad k) (bad, none) = (
  record {
    within = bad.within;
    before = term_begins list of_terms (table_of rows) (take k ts) bad.before;
    here = λ h b. bad.here h (begun b.more b.item h b.read);
  },
  no_item,
)
  where
    begun : (more : List Lexeme) (i : ListItem) → k < length ts → IsListItem list (table_of rows) (take (k + 1) ts ++ more) i → terms.BeginsItem (table_of rows) (take (k + 1) ts)
    begun more closing h e = end_front rows l ts k more other h e
    begun more (term t) h item = record { more = more; tree = t; item = item.2 }
    begun more (names ns) h item = absurd (of_terms item.0)

    no_item : (i : ListItem) → ¬ IsListItem list (table_of rows) ts i
    no_item closing e = other (ap (take 2) e)
    no_item (term t) item = none t item.2
    no_item (names ns) item = of_terms item.0
fault_of_term list of_terms rows l ts other Deep (t, item, deep) = (t, (of_terms, λ e. other (ap (take 2) e), item), deep)
fault_of_term list of_terms rows l ts other Memory h = tt

-- tokens whose first isn't `end_of_list` are no front of the end of a list
front_of_end : (ts : List Lexeme) (k : ℕ) (more : List Lexeme) → k < length ts → take (k + 1) ts ++ more ≡ closing_tokens → take 1 ts ≡ take 1 closing_tokens
front_of_end [] k more h e = absurd (omega arith)
front_of_end (x ∷ ts) k more h e =
    let n : k + 1 ≡ suc k = omega arith in
    let e = rw n at e in
    let first : x ≡ end_word = cc in
    ap (λ (y : Lexeme). y ∷ []) first

-- items of names, where tokens don't begin with `end_of_list`
pub fault_of_names :
    (g : OperatorTable) (ts : List Lexeme) → (¬ take 1 ts ≡ take 1 closing_tokens) → (f : TermFault) → IsNamesFault g ts f → IsItemFault Distinct g ts f
fault_of_names g ts other (Bad k) (bad, none) = (
  record {
    within = bad.within;
    before = record { more = bad.before.more; item = names bad.before.names; read = (refl, bad.before.item) };
    here = λ h b. bad.here h (begun b.more b.item h b.read);
  },
  no_item,
)
  where
    begun : (more : List Lexeme) (i : ListItem) → k < length ts → IsListItem Distinct g (take (k + 1) ts ++ more) i → BeginsNames g (take (k + 1) ts)
    begun more closing h e = absurd (other (front_of_end ts k more h e))
    begun more (term t) h item = absurd (item.0 refl)
    begun more (names ns) h item = record { more = more; names = ns; item = item.1 }

    no_item : (i : ListItem) → ¬ IsListItem Distinct g ts i
    no_item closing e = other (ap (take 1) e)
    no_item (term t) item = item.0 refl
    no_item (names ns) item = none ns item.1
fault_of_names g ts other Deep h = absurd h
fault_of_names g ts other Memory h = tt

-- the first token is `end_of_list`
abbrev IsWordFirst : List Lexeme → Type 0
IsWordFirst ts = (us : List Lexeme) × (ts ≡ end_word ∷ us)

word_first : (ts : List Lexeme) → take 1 ts ≡ take 1 closing_tokens → IsWordFirst ts
word_first [] e = absurd (cc)
word_first (x ∷ ts) e = let first : x ≡ end_word = cc in (ts, ap (λ (y : Lexeme). y ∷ ts) first)

two_of : (ts more : List Lexeme) → 1 < length ts → take 2 ts ++ more ≡ closing_tokens → take 2 ts ≡ closing_tokens
two_of [] more h e = absurd (omega arith)
two_of (x ∷ []) more h e = absurd (omega arith)
two_of (x ∷ y ∷ ts) more h e = cc

-- `end_of_list` without its full stop is the front of no names: the token behind it is the first bad one
pub bad_word :
    (g : OperatorTable) (ts : List Lexeme) → take 1 ts ≡ take 1 closing_tokens → (¬ take 2 ts ≡ closing_tokens) → IsItemFault Distinct g ts (Bad 1)
bad_word g ts e other =
    let w = word_first ts e in (
      record {
        within = let n = ap (λ (us : List Lexeme). length us) w.1 in omega (arith, n);
        before = record { more = full_stop ∷ []; item = closing; read = ap (λ (us : List Lexeme). us ++ full_stop ∷ []) e };
        here = λ h b. begun w b.more b.item h b.read;
      },
      no_item w,
    )
  where
    begun : IsWordFirst ts → (more : List Lexeme) (i : ListItem) → 1 < length ts → ¬ IsListItem Distinct g (take 2 ts ++ more) i
    begun w more closing h same = other (two_of ts more h same)
    begun w more (term t) h item = item.0 refl
    begun w more (names ns) h item = no_names g item.1 (take 1 w.0 ++ more) (ap (λ (us : List Lexeme). take 2 us ++ more) w.1)

    no_item : IsWordFirst ts → (i : ListItem) → ¬ IsListItem Distinct g ts i
    no_item w closing same = other (ap (take 2) same)
    no_item w (term t) item = item.0 refl
    no_item w (names ns) item = no_names g item.1 w.0 w.1

pub one : (list : OpenList) (g : OperatorTable) (ts : List Lexeme) (i j : ListItem) → IsListItem list g ts i → IsListItem list g ts j → i ≡ j
one list g ts closing closing h k = refl
one list g ts closing (term t) h k = absurd (k.1 h)
one list g ts closing (names ns) h k = absurd (no_names g k.1 (full_stop ∷ []) h)
one list g ts (term t) closing h k = absurd (h.1 k)
one list g ts (term t) (term u) h k = ap term (item_one g ts t u h.2 k.2)
one list g ts (term t) (names ns) h k = absurd (h.0 k.0)
one list g ts (names ns) closing h k = absurd (no_names g h.1 (full_stop ∷ []) k)
one list g ts (names ns) (term t) h k = absurd (k.0 h.0)
one list g ts (names ns) (names ms) h k = ap names (item_names g ts ns h.1 ∙ sym (item_names g ts ms k.1))

-- no token is less than `end_of_list`, and one is less than `end_of_list.`
pub none_first : (ts : List Token) → length ts < 1 → ¬ take 1 (lexemes_of ts) ≡ take 1 closing_tokens
none_first [] h e = cc
none_first (t ∷ ts) h e = absurd (omega arith)

pub too_short : (ts : List Token) → length ts < 2 → ¬ take 2 (lexemes_of ts) ≡ closing_tokens
too_short [] h e = cc
too_short (t ∷ []) h e = cc
too_short (t ∷ u ∷ ts) h e = absurd (omega arith)

-- other tokens that begin with it are more
pub third : (ts : List Lexeme) → take 2 ts ≡ closing_tokens → ¬ length ts ≡ 2 → 2 < length ts
third [] e h = cc
third (x ∷ []) e h = cc
third (x ∷ y ∷ []) e h = absurd (h refl)
third (x ∷ y ∷ z ∷ ts) e h = omega arith
