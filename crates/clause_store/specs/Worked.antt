-- Parents and ancestors worked out.
use Rattle.std.specs.Prelude.{ℕ, ◌≡◌, List, [], ◌∷◌, true, false}
use Rattle.fol_core.specs.Fol.{verum}
use Rattle.fol_core.specs.Literals.{literal}
use Rattle.fol_core.specs.Tree.{Tree, app, none}
use Rattle.derivation.specs.Later.{LaterWord, unit_deleted}
use Rattle.derivation.specs.Lines.{FirstWord, assumed, wanted, clausified, denied, copied, ContentTree, formula, clause, LineTree}
use Rattle.clause_store.specs.Ancestors.{parents_in, RestsOn}

abbrev line : ℕ → ContentTree → FirstWord → List LaterWord → LineTree
line n content first later =
    record { number = n; content = content; first = first; later = later }

abbrev p : Tree
p = app 0 none

abbrev q : Tree
q = app 1 none

-- p is assumed and wanted, q is assumed; clause 7 is a copy of 4 with the unit 6 put to it
abbrev seven : List LineTree
seven =
    line 1 (formula verum) assumed [] ∷ line 2 (formula verum) assumed []
    ∷ line 3 (formula verum) wanted [] ∷ line 4 (clause (literal true p ∷ [])) (clausified 1) []
    ∷ line 5 (clause (literal true q ∷ [])) (clausified 2) []
    ∷ line 6 (clause (literal false p ∷ [])) (denied 3) []
    ∷ line 7 (clause []) (copied 4) (unit_deleted 0 6 ∷ []) ∷ []

-- a unit that a word behind the first one takes is a parent too
abbrev pub WorkedParents : Type 0
WorkedParents =
    (parents_in seven 7 ≡ 4 ∷ 6 ∷ []) × (parents_in seven 6 ≡ 3 ∷ [])
    × (parents_in seven 1 ≡ []) × (parents_in seven 8 ≡ [])

-- so line 7 rests on line 3, by way of line 6
abbrev pub WorkedAncestors : Type 0
WorkedAncestors = RestsOn (parents_in seven) 7 7 × RestsOn (parents_in seven) 7 3
