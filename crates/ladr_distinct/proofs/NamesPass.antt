-- A pass over tokens ends behind an item of names just where they are one; where it stops, the token there is the first bad one.
use Rattle.std.proofs.Common.{◌≡◌, ℕ, zero, suc, ◌+◌, ◌≤◌, ◌<◌, Bool, true, false, List, [], ◌∷◌, ◌++◌, Option, Some, None, length, take, drop, get_or, refl, sym, ap, ◌∙◌, subst, append_assoc, append-nil, arith, codes, if◌then◌else◌}
use Rattle.std.proofs.lemmas.List.{take_more, take-append-drop, take_all}
use Rattle.ladr_lex.proofs.OperatorLemmas.{quoted_none}
use Rattle.ladr_lex.specs.Lexeme.{Sort, ordinary, quoted, Lexeme, lexeme, lexeme_of, lexemes_of, open_paren, close_paren, open_square, close_square, comma, full_stop, symbol, unreadable}
use Rattle.ladr_lex.specs.Operators.{OperatorRow, are_lawful}
use Rattle.ladr_lex.specs.declared.token.Token.{Token}
use Rattle.ladr_lex.specs.declared.token.TokenKind.{TokenKind}
use Rattle.ladr_lex.specs.declared.token.TokenKind.TheVariants as kind
use Rattle.ladr_distinct.specs.Names.{may_be_listed, AreNames, one, further, NamesItem, empty, filled, BeginsNames, IsNamesFault}
use Rattle.ladr_distinct.specs.NamesPass.{names_token, place_behind, names_next, names_run, name_in, names_at, names_in}
use Rattle.ladr_reader.specs.Table.{OperatorTable, table_of}
use Rattle.ladr_reader.specs.declared.fault.TermFault.TheVariants.{Bad}
use Rattle.ladr_distinct.specs.declared.bracketed.NamesPlace.{NamesPlace}
use Rattle.ladr_distinct.specs.declared.bracketed.NamesPlace.TheVariants.{AtStart, BehindOpening, BehindName, BehindComma, BehindClosing, BehindStop}
use Rattle.ladr_distinct.specs.declared.bracketed.NamesToken.TheVariants.{Names, Unfit}

abbrev end_tokens : List Lexeme
end_tokens = close_square ∷ full_stop ∷ []

module _ (g : OperatorTable) where
  run_append : (p : Option NamesPlace) (xs ys : List Lexeme) → names_run g p (xs ++ ys) ≡ names_run g (names_run g p xs) ys
  run_append p [] ys = refl
  run_append p (x ∷ xs) ys = run_append (names_next g p x) xs ys

  run_none : (xs : List Lexeme) → names_run g None xs ≡ None
  run_none [] = refl
  run_none (x ∷ xs) = run_none xs

  -- names go on to behind the last of them, from behind the bracket or a comma
  run_names : {ts : List Lexeme} {ns : List (List ℕ)} (p : NamesPlace) (rest : List Lexeme) → place_behind p Names ≡ Some BehindName → AreNames g ts ns
      → names_run g (Some p) (ts ++ rest) ≡ names_run g (Some BehindName) rest
  run_names p rest h (one k s ok) = ap (λ (b : Bool). names_run g (place_behind p (if b then Names else Unfit)) rest) ok ∙ ap (λ q. names_run g q rest) h
  run_names p rest h (further {ts} {ns} k s ok more) =
      ap (λ (b : Bool). names_run g (names_next g (place_behind p (if b then Names else Unfit)) comma) (ts ++ rest)) ok
      ∙ ap (λ q. names_run g (names_next g q comma) (ts ++ rest)) h
      ∙ run_names BehindComma rest refl more

  in_names : {ts : List Lexeme} {ns : List (List ℕ)} (rest : List Lexeme) → AreNames g ts ns → names_in g (ts ++ rest) ≡ ns ++ names_in g rest
  in_names rest (one k s ok) = ap (λ (b : Bool). (if b then s ∷ [] else []) ++ names_in g rest) ok
  in_names rest (further {ts} {ns} k s ok more) =
      ap (λ (b : Bool). (if b then s ∷ [] else []) ++ names_in g (ts ++ rest)) ok ∙ ap (λ (l : List (List ℕ)). s ∷ l) (in_names rest more)

  -- an item is gone through, and its names are those that are met
  pub item_run : (ts : List Lexeme) (ns : List (List ℕ)) → NamesItem g ts ns → names_run g (Some AtStart) ts ≡ Some BehindStop
  item_run _ _ empty = refl
  item_run _ _ (filled names) = run_names BehindOpening end_tokens refl names

  pub item_names : (ts : List Lexeme) (ns : List (List ℕ)) → NamesItem g ts ns → ns ≡ names_in g ts
  item_names _ _ empty = refl
  item_names _ _ (filled {ts} {ns} names) = sym (append-nil ns) ∙ sym (in_names end_tokens names)

  -- nothing goes on from a place where a token may not come
  nowhere : {A : Type 0} (xs : List Lexeme) → names_run g None xs ≡ Some BehindStop → A
  nowhere xs e = let n = run_none xs in absurd (cc)

  -- what is left from each place
  past_stop : (ts : List Lexeme) → names_run g (Some BehindStop) ts ≡ Some BehindStop → ts ≡ []
  past_stop [] e = refl
  past_stop (x ∷ ts) e = nowhere ts e

  stop_left : (ts : List Lexeme) → names_run g (Some BehindClosing) ts ≡ Some BehindStop → ts ≡ full_stop ∷ []
  stop_left [] e = absurd (cc)
  stop_left (full_stop ∷ ts) e = ap (λ (us : List Lexeme). full_stop ∷ us) (past_stop ts e)
  stop_left (open_paren ∷ ts) e = nowhere ts e
  stop_left (close_paren ∷ ts) e = nowhere ts e
  stop_left (open_square ∷ ts) e = nowhere ts e
  stop_left (close_square ∷ ts) e = nowhere ts e
  stop_left (comma ∷ ts) e = nowhere ts e
  stop_left (unreadable ∷ ts) e = nowhere ts e
  stop_left (symbol k s ∷ ts) e = by (may_be_listed g s) e
    where
      by : (b : Bool) → names_run g (place_behind BehindClosing (if b then Names else Unfit)) ts ≡ Some BehindStop → symbol k s ∷ ts ≡ full_stop ∷ []
      by true e = nowhere ts e
      by false e = nowhere ts e

  -- tokens that are names and then the end
  record IsTail (ts : List Lexeme) (ns : List (List ℕ)) : Type 0 where
    names : List Lexeme
    are : AreNames g names ns
    is : ts ≡ names ++ end_tokens

  mutual
    behind_name : (k : Sort) (s : List ℕ) → may_be_listed g s ≡ true → (ts : List Lexeme) → names_run g (Some BehindName) ts ≡ Some BehindStop → IsTail (symbol k s ∷ ts) (s ∷ names_in g ts)
    behind_name k s ok [] e = absurd (cc)
    behind_name k s ok (close_square ∷ ts) e =
        let left = stop_left ts e in
        subst (λ (us : List Lexeme). IsTail (symbol k s ∷ close_square ∷ us) (s ∷ names_in g us)) (sym left) (record { names = symbol k s ∷ []; are = one k s ok; is = refl })
    behind_name k s ok (comma ∷ ts) e =
        let tail = behind_comma ts e in
        record { names = symbol k s ∷ comma ∷ tail.names; are = further k s ok tail.are; is = ap (λ (us : List Lexeme). symbol k s ∷ comma ∷ us) tail.is }
    behind_name k s ok (open_paren ∷ ts) e = nowhere ts e
    behind_name k s ok (close_paren ∷ ts) e = nowhere ts e
    behind_name k s ok (open_square ∷ ts) e = nowhere ts e
    behind_name k s ok (full_stop ∷ ts) e = nowhere ts e
    behind_name k s ok (unreadable ∷ ts) e = nowhere ts e
    behind_name k s ok (symbol j u ∷ ts) e = by (may_be_listed g u) e
      where
        by : (b : Bool) → names_run g (place_behind BehindName (if b then Names else Unfit)) ts ≡ Some BehindStop → IsTail (symbol k s ∷ symbol j u ∷ ts) (s ∷ names_in g (symbol j u ∷ ts))
        by true e = nowhere ts e
        by false e = nowhere ts e

    behind_comma : (ts : List Lexeme) → names_run g (Some BehindComma) ts ≡ Some BehindStop → IsTail ts (names_in g ts)
    behind_comma [] e = absurd (cc)
    behind_comma (symbol k s ∷ ts) e = by (may_be_listed g s) refl (λ h run. behind_name k s h ts run)
      where
        by : (b : Bool) → may_be_listed g s ≡ b → (may_be_listed g s ≡ true → names_run g (Some BehindName) ts ≡ Some BehindStop → IsTail (symbol k s ∷ ts) (s ∷ names_in g ts)) → IsTail (symbol k s ∷ ts) (names_in g (symbol k s ∷ ts))
        by true h rest =
            subst (λ (c : Bool). IsTail (symbol k s ∷ ts) ((if c then s ∷ [] else []) ++ names_in g ts)) (sym h)
            (rest h (ap (λ (c : Bool). names_run g (place_behind BehindComma (if c then Names else Unfit)) ts) (sym h) ∙ e))
        by false h rest = nowhere ts (ap (λ (c : Bool). names_run g (place_behind BehindComma (if c then Names else Unfit)) ts) (sym h) ∙ e)
    behind_comma (open_paren ∷ ts) e = nowhere ts e
    behind_comma (close_paren ∷ ts) e = nowhere ts e
    behind_comma (open_square ∷ ts) e = nowhere ts e
    behind_comma (close_square ∷ ts) e = nowhere ts e
    behind_comma (comma ∷ ts) e = nowhere ts e
    behind_comma (full_stop ∷ ts) e = nowhere ts e
    behind_comma (unreadable ∷ ts) e = nowhere ts e

  behind_opening : (ts : List Lexeme) → names_run g (Some BehindOpening) ts ≡ Some BehindStop → NamesItem g (open_square ∷ ts) (names_in g ts)
  behind_opening [] e = absurd (cc)
  behind_opening (close_square ∷ ts) e = subst (λ (us : List Lexeme). NamesItem g (open_square ∷ close_square ∷ us) (names_in g us)) (sym (stop_left ts e)) empty
  behind_opening (symbol k s ∷ ts) e = by (may_be_listed g s) refl
    where
      by : (b : Bool) → may_be_listed g s ≡ b → NamesItem g (open_square ∷ symbol k s ∷ ts) (names_in g (symbol k s ∷ ts))
      by true h =
          let tail = behind_name k s h ts (ap (λ (c : Bool). names_run g (place_behind BehindOpening (if c then Names else Unfit)) ts) (sym h) ∙ e) in
          subst (λ (c : Bool). NamesItem g (open_square ∷ symbol k s ∷ ts) ((if c then s ∷ [] else []) ++ names_in g ts)) (sym h)
          (subst (λ (us : List Lexeme). NamesItem g (open_square ∷ us) (s ∷ names_in g ts)) (sym tail.is) (filled tail.are))
      by false h = nowhere ts (ap (λ (c : Bool). names_run g (place_behind BehindOpening (if c then Names else Unfit)) ts) (sym h) ∙ e)
  behind_opening (open_paren ∷ ts) e = nowhere ts e
  behind_opening (close_paren ∷ ts) e = nowhere ts e
  behind_opening (open_square ∷ ts) e = nowhere ts e
  behind_opening (comma ∷ ts) e = nowhere ts e
  behind_opening (full_stop ∷ ts) e = nowhere ts e
  behind_opening (unreadable ∷ ts) e = nowhere ts e

  -- tokens that are gone through are an item of the names that are met
  pub run_item : (ts : List Lexeme) → names_run g (Some AtStart) ts ≡ Some BehindStop → NamesItem g ts (names_in g ts)
  run_item [] e = absurd (cc)
  run_item (open_square ∷ ts) e = behind_opening ts e
  run_item (open_paren ∷ ts) e = nowhere ts e
  run_item (close_paren ∷ ts) e = nowhere ts e
  run_item (close_square ∷ ts) e = nowhere ts e
  run_item (comma ∷ ts) e = nowhere ts e
  run_item (full_stop ∷ ts) e = nowhere ts e
  run_item (unreadable ∷ ts) e = nowhere ts e
  run_item (symbol k s ∷ ts) e = by (may_be_listed g s) e
    where
      by : (b : Bool) → names_run g (place_behind AtStart (if b then Names else Unfit)) ts ≡ Some BehindStop → NamesItem g (symbol k s ∷ ts) (names_in g (symbol k s ∷ ts))
      by true e = nowhere ts e
      by false e = nowhere ts e

  -- from each place some tokens go on to the end
  record GoesOn (p : NamesPlace) : Type 0 where
    more : List Lexeme
    run : names_run g (Some p) more ≡ Some BehindStop

  abbrev quoted_name : List ℕ
  quoted_name = codes "\"a\""

  live : may_be_listed g quoted_name ≡ true → (p : NamesPlace) → GoesOn p
  live ok AtStart = record { more = open_square ∷ end_tokens; run = refl }
  live ok BehindOpening = record { more = end_tokens; run = refl }
  live ok BehindName = record { more = end_tokens; run = refl }
  live ok BehindComma = record {
    more = symbol quoted quoted_name ∷ end_tokens;
    run = ap (λ (b : Bool). names_run g (place_behind BehindComma (if b then Names else Unfit)) end_tokens) ok;
  }
  live ok BehindClosing = record { more = full_stop ∷ []; run = refl }
  live ok BehindStop = record { more = []; run = refl }

  begins : may_be_listed g quoted_name ≡ true → (p : NamesPlace) (ts : List Lexeme) → names_run g (Some AtStart) ts ≡ Some p → BeginsNames g ts
  begins ok p ts e =
      let on = live ok p in
      record {
        more = on.more;
        names = names_in g (ts ++ on.more);
        item = run_item (ts ++ on.more) (run_append (Some AtStart) ts on.more ∙ ap (λ q. names_run g q on.more) e ∙ on.run);
      }

  not_begun : (ts : List Lexeme) → names_run g (Some AtStart) ts ≡ None → ¬ BeginsNames g ts
  not_begun ts e b =
      nowhere b.more (ap (λ q. names_run g q b.more) (sym e) ∙ sym (run_append (Some AtStart) ts b.more) ∙ item_run (ts ++ b.more) b.names b.item)

  pub names_bad : may_be_listed g quoted_name ≡ true → (ts : List Lexeme) (i : ℕ) (p : NamesPlace) → i ≤ length ts → names_run g (Some AtStart) (take i ts) ≡ Some p
      → names_run g (Some AtStart) (take (i + 1) ts) ≡ None → IsNamesFault g ts (Bad i)
  names_bad ok ts i p h e stuck = (
    record { within = h; before = begins ok p (take i ts) e; here = λ _. not_begun (take (i + 1) ts) stuck },
    λ ns item. not_begun (take (i + 1) ts) stuck (record { more = drop (i + 1) ts; names = ns; item = rw (take-append-drop (i + 1) ts) item }),
  )

  pub names_end : may_be_listed g quoted_name ≡ true → (ts : List Lexeme) (k : ℕ) (p : NamesPlace) → length ts ≡ k → names_run g (Some AtStart) (take k ts) ≡ Some p
      → (p ≡ BehindStop → ⊥) → IsNamesFault g ts (Bad k)
  names_end ok ts k p l e other =
      let whole : take k ts ≡ ts = take_all k ts (omega arith) in (
        record { within = omega arith; before = begins ok p (take k ts) e; here = λ h. absurd (omega arith) },
        λ ns item. other (same_place p BehindStop (sym e ∙ ap (λ (us : List Lexeme). names_run g (Some AtStart) us) whole ∙ item_run ts ns item)),
      )
    where
      same_place : (a b : NamesPlace) → Some a ≡ Some b → a ≡ b
      same_place a b e = cc

  -- one token more
  pub names_run_more : (ts : List Lexeme) (i : ℕ) (x : Lexeme) (p : NamesPlace) → i < length ts → x ≡ get_or ts i unreadable → names_run g (Some AtStart) (take i ts) ≡ Some p
      → names_run g (Some AtStart) (take (i + 1) ts) ≡ place_behind p (names_token g x)
  names_run_more ts i x p h is e =
      ap (λ (us : List Lexeme). names_run g (Some AtStart) us) (take_more ts i unreadable h)
      ∙ run_append (Some AtStart) (take i ts) (get_or ts i unreadable ∷ [])
      ∙ ap (λ q. names_next g q (get_or ts i unreadable)) e
      ∙ ap (λ (l : Lexeme). place_behind p (names_token g l)) (sym is)

  in_append : (xs ys : List Lexeme) → names_in g (xs ++ ys) ≡ names_in g xs ++ names_in g ys
  in_append [] ys = refl
  in_append (x ∷ xs) ys = ap (λ (l : List (List ℕ)). names_at g x ++ l) (in_append xs ys) ∙ sym (append_assoc (names_at g x) (names_in g xs) (names_in g ys))

  pub names_in_more : (ts : List Lexeme) (i : ℕ) (x : Lexeme) → i < length ts → x ≡ get_or ts i unreadable
      → names_in g (take (i + 1) ts) ≡ names_in g (take i ts) ++ names_at g x
  names_in_more ts i x h is =
      ap (λ (us : List Lexeme). names_in g us) (take_more ts i unreadable h)
      ∙ in_append (take i ts) (get_or ts i unreadable ∷ [])
      ∙ ap (λ (l : Lexeme). names_in g (take i ts) ++ (names_at g l ++ [])) (sym is)
      ∙ ap (λ (l : List (List ℕ)). names_in g (take i ts) ++ l) (append-nil (names_at g x))

  kept : (text : List ℕ) → names_at g (symbol ordinary text) ≡ name_in (if may_be_listed g text then Names else Unfit) text
  kept text = by (may_be_listed g text)
    where
      by : (b : Bool) → (if b then text ∷ [] else []) ≡ name_in (if b then Names else Unfit) text
      by true = refl
      by false = refl

  -- the name that a token of the code is
  pub name_kept : (k : TokenKind) (text : List ℕ) → names_at g (lexeme k text) ≡ name_in (names_token g (lexeme k text)) text
  name_kept kind.Open text = refl
  name_kept kind.Close text = refl
  name_kept kind.LeftSquare text = refl
  name_kept kind.RightSquare text = refl
  name_kept kind.Comma text = refl
  name_kept kind.Stop text = refl
  name_kept kind.Ordinary text = kept text
  name_kept kind.Quoted text = kept text
  name_kept kind.Special text = kept text
  name_kept kind.Unreadable text = refl

-- a quoted name may always be listed
pub quoted_listed : (rows : List OperatorRow) → are_lawful rows ≡ true → may_be_listed (table_of rows) (codes "\"a\"") ≡ true
quoted_listed rows h = let none = quoted_none rows (codes "\"a\"") h refl in rw none refl

-- the token of the code at a place
pub lexeme_at : (tokens : List Token) (i : ℕ) (x : Token) → i < length tokens → x ≡ get_or tokens i x → lexeme_of x ≡ get_or (lexemes_of tokens) i unreadable
lexeme_at [] i x h is = absurd (omega arith)
lexeme_at (t ∷ ts) zero x h is = ap lexeme_of is
lexeme_at (t ∷ ts) (suc i) x h is = lexeme_at ts i x (omega arith) is
