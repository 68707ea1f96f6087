-- The plain forms of lines of the code.
use Rattle.std.specs.Prelude.{List, [], ◌∷◌, map}
use Rattle.fol_core.specs.FormulaView.{fol_of}
use Rattle.derivation.specs.Later.{LaterWord, flipped, merged, reflexive, unit_deleted, rewritten}
use Rattle.derivation.specs.Lines.{FirstWord, assumed, wanted, clausified, denied, copied, resolved, factored, paramodulated, xx_resolved, instantiated, ContentTree, formula, clause, LineTree}
use Rattle.derivation.specs.declared.line.Content.{Content}
use Rattle.derivation.specs.declared.line.Content.TheVariants.{Formula, Clause}
use Rattle.derivation.specs.declared.line.Line.{Line}
use Rattle.derivation.specs.declared.words.First.{First}
use Rattle.derivation.specs.declared.words.First.TheVariants.{Assumption, Goal, Clausify, Deny, Copy, BackRewrite, BackUnitDel, Resolve, Hyper, Ur, Factor, Para, XxRes, Instantiate}
use Rattle.derivation.specs.declared.words.Later.{Later}
use Rattle.derivation.specs.declared.words.Later.TheVariants.{Rewrite, Flip, Merge, Xx, UnitDel}

-- one rule stands behind copies of all kinds, and one behind resolution with one satellite or more
abbrev pub first_word_of : First → FirstWord
first_word_of Assumption = assumed
first_word_of Goal = wanted
first_word_of (Clausify n) = clausified n
first_word_of (Deny n) = denied n
first_word_of (Copy n) = copied n
first_word_of (BackRewrite n) = copied n
first_word_of (BackUnitDel n) = copied n
first_word_of (Resolve n s) = resolved n (s ∷ [])
first_word_of (Hyper n ss) = resolved n ss.items
first_word_of (Ur n ss) = resolved n ss.items
first_word_of (Factor n a b) = factored n a b
first_word_of (Para p) = paramodulated p.from p.equation p.side p.into p.literal p.path.items
first_word_of (XxRes n a) = xx_resolved n a
first_word_of (Instantiate n s) = instantiated n s

abbrev pub later_of : Later → LaterWord
later_of (Rewrite r) = rewritten r.rule r.literal r.path.items
later_of (Flip a) = flipped a
later_of (Merge a) = merged a
later_of (Xx a) = reflexive a
later_of (UnitDel a n) = unit_deleted a n

abbrev pub content_of : Content → ContentTree
content_of (Formula f label) = formula (fol_of f.shape)
content_of (Clause c) = clause c

abbrev pub line_tree : Line → LineTree
line_tree l =
    record {
      number = l.number;
      content = content_of l.content;
      first = first_word_of l.just.first;
      later = map later_of l.just.steps.items;
    }

abbrev pub lines_of : List Line → List LineTree
lines_of ls = map line_tree ls
