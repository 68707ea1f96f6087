-- How deep an item is nested.
use Rattle.std.specs.Prelude.{ℕ, ◌+◌, ◌-◌, max, List, [], ◌∷◌}
use Rattle.fol_core.specs.RawTree.{RawTree, depth}
use Rattle.ladr_lex.specs.Lexeme.{Lexeme, open_paren, close_paren}

-- the most parentheses that are open at once in the tokens, behind n that are open
abbrev pub most_open : ℕ → List Lexeme → ℕ
most_open n [] = n
most_open n (open_paren ∷ ts) = most_open (n + 1) ts
most_open n (close_paren ∷ ts) = max n (most_open (n - 1) ts)
most_open n (_ ∷ ts) = most_open n ts

-- the levels of its tree, or the parentheses that are open at once in its tokens
abbrev pub nesting : List Lexeme → RawTree → ℕ
nesting item tree = max (depth tree) (most_open 0 item)
