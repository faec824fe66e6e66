-- The merge program's job: what it says, its text, and the reading of any text. A text is read as a job exactly if it is the text of one
-- (`job_text`, `text_job`, in proofs/).
use Rattle.std.specs.Prelude.{◌≡◌, Bool, List, [], ◌∷◌, ◌++◌, ℕ, zero, suc, ◌+◌, ◌≤◌, ◌<◌, eqb, leb, ltb, length, get_or, take, drop}
use Rattle.model.specs.Pick.{pick, both, first}
use Rattle.text.specs.Text.{text, decimal, line, stands_at}
use Rattle.job.specs.declared.Places.{Places}

-- what a job says: the lg_k asked for, the images' paths, the output's path
pub record Job : Type 0 where
  pub lgk : ℕ
  pub ins : List (List ℕ)
  pub out : List ℕ

-- one, by its parts
abbrev pub job : ℕ → List (List ℕ) → List ℕ → Job
job n ps p = record { lgk = n; ins = ps; out = p }

-- what a text says that is no job
abbrev pub no_job : Job
no_job = job 0 [] []

-- ---- its text
-- the first line
abbrev pub size_line : ℕ → List ℕ
size_line n = line (text "lgk=") (decimal n)

-- an `in=` line for each path
unfoldable pub in_lines : List (List ℕ) → List ℕ
in_lines [] = []
in_lines (p ∷ ps) = line (text "in=") p ++ in_lines ps

-- the whole
unfoldable pub text_of : Job → List ℕ
text_of j = size_line j.lgk ++ (in_lines j.ins ++ line (text "out=") j.out)

-- ---- the reading
-- a byte that a path may have
abbrev pub graphic : ℕ → Bool
graphic b = both (leb 33 b) (leb b 126)

-- how many such bytes stand at the front
unfoldable pub span : List ℕ → ℕ
span [] = 0
span (b ∷ l) = let n = span l in pick (graphic b) (suc n) 0

-- a line of this key with a path stands at the front: the path's length, 1 to 200; else 0
unfoldable pub path_in : List ℕ → List ℕ → ℕ
path_in key l =
    let rest = drop (length key) l in
    let n = span rest in
    pick (both (stands_at key l) (both (leb n 200) (eqb (get_or rest n 0) 10))) n 0

-- the first line's lg_k, 4 to 12; else 0
unfoldable pub size_in : List ℕ → ℕ
size_in l = let i = first (λ n. stands_at (size_line (4 + n)) l) 9 in pick (ltb i 9) (4 + i) 0

-- the paths of the `in=` lines at the front, at most f
unfoldable pub ins_in : ℕ → List ℕ → List (List ℕ)
ins_in zero l = []
ins_in (suc f) l = let n = path_in (text "in=") l in pick (eqb n 0) [] (take n (drop 3 l) ∷ ins_in f (drop (n + 4) l))

-- at most 4,096 bytes: the size, 1 to 64 images, the output, and nothing behind it
unfoldable pub job_of : List ℕ → Job
job_of l =
    let n = size_in l in
    let after = drop (length (size_line n)) l in
    let ps = ins_in 64 after in
    let last = drop (length (in_lines ps)) after in
    let m = path_in (text "out=") last in
    let tests = both (leb (length l) 4096) (both (ltb 0 n) (both (ltb 0 (length ps)) (both (ltb 0 m) (eqb (length last) (m + 5))))) in
    pick tests (job n ps (take m (drop 4 last))) no_job

-- ---- where the code finds it
-- the number of images, the place of the first `in=` line and of the `out=` line; zeros for no job
unfoldable pub places_of : Job → Places
places_of j =
    let first = length (size_line j.lgk) in
    pick (eqb j.lgk 0)
    (record { lg_k = 0; files = 0; first = 0; last = 0 })
    (record { lg_k = j.lgk; files = length j.ins; first = first; last = first + length (in_lines j.ins) })

-- ---- what the code hands out
-- these bytes are the path in the line of this key at the front
pub record PathIn (key l path : List ℕ) : Type 0 where
  pub some : 0 < length path
  pub long : length path ≡ path_in key l
  pub bytes : path ≡ take (path_in key l) (drop (length key) l)

-- ---- what may be said
-- a path: 1 to 200 bytes, each 33 to 126
pub record Path (p : List ℕ) : Type 0 where
  pub some : 1 ≤ length p
  pub few : length p ≤ 200
  pub bytes : (i : ℕ) → i < length p → (33 ≤ get_or p i 0) × (get_or p i 0 ≤ 126)

-- each is one
abbrev pub Paths : List (List ℕ) → Type 0
Paths [] = Unit {0}
Paths (p ∷ ps) = Path p × Paths ps

-- a job that may be asked for
pub record Fit (j : Job) : Type 0 where
  pub lgk_low : 4 ≤ j.lgk
  pub lgk_high : j.lgk ≤ 12
  pub some : 1 ≤ length j.ins
  pub few : length j.ins ≤ 64
  pub ins_fit : Paths j.ins
  pub out_fits : Path j.out
  pub short : length (text_of j) ≤ 4096
