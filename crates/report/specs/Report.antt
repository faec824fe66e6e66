-- The merge program's report: lines of a key and a value, each ended by a line feed.
use Prim.Native.String.{String}
use Rattle.std.specs.Prelude.{ℕ, max, List, [], ◌∷◌, ◌++◌, map, get_or}
use Rattle.model.specs.Pick.{pick}
use Rattle.model.specs.Answers.{placed}
use Rattle.model.specs.Registers.{count_of}
use Rattle.model.specs.Sums.{scaled}
use Rattle.text.specs.Text.{text, decimal, line}

-- the names in the table of refusals, 0 to 16; 13 is not used
abbrev pub table_names : List String
table_names = "OK" ∷ "KIND" ∷ "LGK" ∷ "SIZE" ∷ "DAMAGED" ∷ "FINER" ∷ "NO_ROOM" ∷ "SHORT" ∷ "HEADER" ∷ "MODE" ∷ "COUNTS" ∷ "LGARR" ∷ "VALUE" ∷ "" ∷ "SPARE" ∷ "TALLY" ∷ "OUT" ∷ []

-- those that the program adds, 17 to 20
abbrev pub program_names : List String
program_names = "LONG" ∷ "JOB" ∷ "IO" ∷ "LARGE" ∷ []

-- those about exception words, 21 to 25
abbrev pub word_names : List String
word_names = "AUX_EMPTY" ∷ "AUX_TWICE" ∷ "AUX_LOW" ∷ "AUX_COUNT" ∷ "AUX_MATCH" ∷ []

-- all of them, each at its number
abbrev pub names : List (List ℕ)
names = map text (table_names ++ program_names ++ word_names)

-- an answer's name; no other number has one
unfoldable pub name_of : ℕ → List ℕ
name_of code = get_or names code []

-- the largest register, or 0
unfoldable pub most : List ℕ → ℕ
most [] = 0
most (v ∷ vs) = max v (most vs)

-- the fourth line of a refusal, for 21 to 25 alone
unfoldable pub place_text : ℕ → ℕ → List ℕ
place_text code place = pick (placed code) (line (text "place=") (decimal place)) []

-- a refusal: its name, its number, the position of the file from 1, or 0 for job and output, and the place
unfoldable pub refused_text : ℕ → ℕ → ℕ → List ℕ
refused_text code place file = line (text "answer=") (name_of code) ++ line (text "code=") (decimal code) ++ line (text "file=") (decimal file) ++ place_text code place

-- so many files merged into the registers R
unfoldable pub merged_text : ℕ → ℕ → List ℕ → List ℕ
merged_text files lgk R =
    line (text "answer=") (name_of 0) ++ line (text "files=") (decimal files) ++ line (text "lgk=") (decimal lgk)
    ++ line (text "zeros=") (decimal (count_of 0 R))
    ++ line (text "max=") (decimal (most R))
    ++ line (text "kxq0n=") (decimal (scaled 0 R))
    ++ line (text "kxq1n=") (decimal (scaled 32 R))
