-- What the tokens of a term are, by how they split.
use Rattle.std.specs.Prelude.{◌≡◌, ℕ, ◌+◌, ◌≤◌, ◌<◌, IsTrue, List, [], ◌∷◌, ◌++◌, Some, None, length, take}
use Rattle.fol_core.specs.RawTree.{RawTree, named, quantified, no_raws, raws_of}
use Rattle.fol_core.specs.declared.raw.Quantifier.{Quantifier}
use Rattle.ladr_lex.specs.Lexeme.{Sort, Lexeme, open_paren, close_paren, comma, full_stop, symbol}
use Rattle.ladr_lex.specs.Operators.{if_prefix, if_after}
use Rattle.ladr_lex.specs.declared.operators.Operator.{Operator}
use Rattle.ladr_reader.specs.Table.{OperatorTable, left, right, takes, ends, tree_grows}
use Rattle.ladr_reader.specs.declared.sides.Side.TheVariants.{Nothing, UpTo}

mutual
  -- the tokens are this term, and this is its precedence
  pub data Reads (g : OperatorTable) : List Lexeme → RawTree → ℕ → Type 0 where
    -- a symbol that is no word and no prefix operator
    atom :
        (k : Sort) (s : List ℕ) → g.word s ≡ None → if_prefix (g.op s) ≡ None →
        Reads g (symbol k s ∷ []) (named s no_raws) 0
    -- such a symbol with arguments in parentheses
    applied :
        {ts : List Lexeme} {us : List RawTree} (k : Sort) (s : List ℕ) → g.word s ≡ None →
        if_prefix (g.op s) ≡ None →
        ReadsAll g ts us →
        Reads g (symbol k s ∷ open_paren ∷ (ts ++ close_paren ∷ [])) (named s (raws_of us)) 0
    -- a term in parentheses
    group :
        {ts : List Lexeme} {t : RawTree} {p : ℕ} →
        Reads g ts t p → Reads g (open_paren ∷ (ts ++ close_paren ∷ [])) t 0
    -- a word, a variable and a body
    bound :
        {ts : List Lexeme} {t : RawTree} {p : ℕ} (k j : Sort) (w : Quantifier) (s x : List ℕ) →
        g.word s ≡ Some w →
        IsTrue (g.variable j x) → Reads g ts t p → IsTrue (ends UpTo 750 p (tree_grows g t)) →
        Reads g (symbol k s ∷ symbol j x ∷ ts) (quantified w x t) 750
    -- an operator before its argument
    prefixed :
        {ts : List Lexeme} {t : RawTree} {p : ℕ} (k : Sort) (s : List ℕ) (o : Operator) →
        g.word s ≡ None →
        if_prefix (g.op s) ≡ Some o → Reads g ts t p →
        IsTrue (ends (right o.kind) o.precedence p (tree_grows g t)) →
        Reads g (symbol k s ∷ ts) (named s (raws_of (t ∷ []))) o.precedence
    -- an operator behind its argument
    postfixed :
        {ts : List Lexeme} {t : RawTree} {p : ℕ} (k : Sort) (s : List ℕ) (o : Operator) →
        if_after (g.op s) ≡ Some o →
        right o.kind ≡ Nothing → Reads g ts t p → IsTrue (takes (left o.kind) o.precedence p) →
        Reads g (ts ++ symbol k s ∷ []) (named s (raws_of (t ∷ []))) o.precedence
    -- an operator between its arguments
    infixed :
        {ts us : List Lexeme} {t u : RawTree} {p q : ℕ} (k : Sort) (s : List ℕ) (o : Operator) →
        if_after (g.op s) ≡ Some o → Reads g ts t p → IsTrue (takes (left o.kind) o.precedence p) →
        Reads g us u q →
        IsTrue (ends (right o.kind) o.precedence q (tree_grows g u)) →
        Reads g (ts ++ symbol k s ∷ us) (named s (raws_of (t ∷ u ∷ []))) o.precedence

  -- the tokens are these terms, each of precedence at most 999, between commas
  pub data ReadsAll (g : OperatorTable) : List Lexeme → List RawTree → Type 0 where
    single :
        {ts : List Lexeme} {t : RawTree} {p : ℕ} → Reads g ts t p → p ≤ 999 → ReadsAll g ts (t ∷ [])
    further :
        {ts us : List Lexeme} {ks : List RawTree} {t : RawTree} {p : ℕ} → ReadsAll g ts ks →
        Reads g us t p →
        p ≤ 999 → ReadsAll g (ts ++ comma ∷ us) (ks ++ t ∷ [])

-- the tokens are this term, of precedence at most 999, and then a full stop
pub record Item (g : OperatorTable) (item : List Lexeme) (tree : RawTree) : Type 0 where
  pub tokens : List Lexeme
  pub precedence : ℕ
  pub reads : Reads g tokens tree precedence
  pub bounded : precedence ≤ 999
  pub stops : item ≡ tokens ++ full_stop ∷ []

-- some readable item begins with these tokens
pub record BeginsItem (g : OperatorTable) (ts : List Lexeme) : Type 0 where
  pub more : List Lexeme
  pub tree : RawTree
  pub item : Item g (ts ++ more) tree

-- Token k is the first that goes on with no readable item, or the tokens end there too early: some
-- item begins with the k tokens before it, and none with it as well.
pub record IsBadToken (g : OperatorTable) (ts : List Lexeme) (k : ℕ) : Type 0 where
  pub within : k ≤ length ts
  pub before : BeginsItem g (take k ts)
  pub here : k < length ts → ¬ BeginsItem g (take (k + 1) ts)
