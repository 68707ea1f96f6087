-- A frame and blocks worked out.
use Rattle.std.specs.Prelude.{◌≡◌, ℕ, true, false, List, [], ◌∷◌, ◌++◌, Some, None, codes}
use Rattle.proof_text.specs.Blocks.{block, HasBlocks, lines_in, bare}
use Rattle.proof_text.specs.Frame.{count_told, IsFramed, IsUnframed}

-- a problem of three bytes, and one byte behind it
abbrev pub WorkedFrame : Type 0
WorkedFrame = IsFramed (codes "% Input 3\np.\n\nq") (codes "p.\n") (codes "q")

-- a number with a zero in front is none; two bytes are lacking; another byte than the end of a line
abbrev pub WorkedNoFrame : Type 0
WorkedNoFrame =
    (count_told (codes "% Input 0") ≡ Some 0) × (count_told (codes "% Input 03") ≡ None)
    × (count_told (codes "% Input 3 ") ≡ None) × IsUnframed (codes "% Input 03\np.\n\n") 0
    × IsUnframed (codes "% Input 3\np") 11 × IsUnframed (codes "% Input 1\npq") 11

abbrev pub banner : List ℕ
banner = codes "============================== PROOF =================================\n"

abbrev pub end : List ℕ
end = codes "============================== end of proof ==========================\n"

-- a line outside, a block with a line that is passed over, and a block that has no end
abbrev pub WorkedBlocks : Type 0
WorkedBlocks =
    HasBlocks 0 (lines_in (codes "p\n" ++ (banner ++ (codes "% q\n1 p.\n" ++ (end ++ banner)))))
    (block 73 (codes "% q\n" ∷ codes "1 p.\n" ∷ []) true ∷ block 224 [] false ∷ [])
    × (bare (block 73 (codes "% q\n" ∷ codes "1 p.\n" ∷ []) true) ≡ codes "   \n1 p.\n")
