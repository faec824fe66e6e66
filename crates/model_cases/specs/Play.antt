-- Cases of the oracle's and what it means that the book agrees with one.
use Rattle.std.specs.Prelude.{Bool, true, false, List, [], ◌∷◌, ◌++◌, ℕ, ◌^◌, eqb, take, drop, replicate}
use Rattle.model.specs.Pick.{pick, both}
use Rattle.model.specs.Packed.{digits}
use Rattle.model.specs.Sketch.{bytes_of}
use Rattle.model.specs.Calls.{Out, merge_of, feed_of}
use Rattle.model.specs.Image.{open_of, sketch_in}
use Rattle.model.specs.Lists.{feed_image_of}
use Rattle.model.specs.Specimens.{fed_with, image_from}

-- a list of words, written as one number
abbrev pub words : ℕ → ℕ → List ℕ
words n x = digits (2 ^ 32) n x

-- and of bytes
abbrev pub bytes : ℕ → ℕ → List ℕ
bytes n x = digits 256 n x

-- a sketch from the start: kind, lg_k and coupons
pub record Source : Type 0 where
  pub kind : ℕ
  pub lgk : ℕ
  pub coupons : List ℕ

-- one, by its parts
abbrev pub source : ℕ → ℕ → List ℕ → Source
source kind lgk cs = record { kind = kind; lgk = lgk; coupons = cs }

-- the image of a history; of a target into which sources were merged; of an opened image that was fed on; an image that the Rust refuses too;
-- the image of a history that was fed a list or a set; and the number and place that opening an image has
pub data Case : Type 0 where
  history : Source → List ℕ → Case
  merged : Source → List Source → List ℕ → Case
  opened : List ℕ → List ℕ → List ℕ → Case
  refused : List ℕ → Case
  fed : Source → List ℕ → List ℕ → Case
  answered : ℕ → ℕ → List ℕ → Case

-- two lists are the same
unfoldable pub same : List ℕ → List ℕ → Bool
same [] [] = true
same [] (y ∷ ys) = false
same (x ∷ xs) [] = false
same (x ∷ xs) (y ∷ ys) = both (eqb x y) (same xs ys)

-- what is compared of an image: all bytes but 5 and those from 8 up to a place
abbrev pub compared : ℕ → List ℕ → List ℕ
compared from l = take 5 l ++ (take 2 (drop 6 l) ++ drop from l)

-- 64 words of exception area hold any table of these sizes
abbrev pub made : Source → Out
made s = fed_with s.kind s.lgk 64 s.coupons

-- sources merged in turn
unfoldable pub merged_all : Out → List Source → Out
merged_all t [] = t
merged_all t (s ∷ ss) = let o = made s in merged_all (merge_of t.sketch t.regs o.sketch o.regs o.aux) ss

-- an image opened into memory that held something else, and fed on
unfoldable pub opened_out : List ℕ → List ℕ → Out
opened_out l cs =
    let s = sketch_in l in
    let o = open_of l (replicate (bytes_of s.kind s.lg_k) 7) (replicate 64 9) (replicate 64 5) in
    pick (eqb o.no 0) (feed_of o.sketch o.regs o.aux (replicate 64 5) cs) o

-- a sketch fed the coupons of an image
unfoldable pub fed_on : Out → List ℕ → Out
fed_on o l = feed_image_of o.sketch o.regs o.aux (replicate 64 5) l

-- the book agrees
unfoldable pub agrees : Case → Bool
agrees (history s image) = same (compared 16 (image_from (made s))) (compared 16 image)
agrees (merged t ss image) = same (compared 16 (image_from (merged_all (made t) ss))) (compared 16 image)
agrees (opened l cs image) = same (compared 32 (image_from (opened_out l cs))) (compared 32 image)
agrees (refused l) = pick (eqb (opened_out l []).no 0) false true
agrees (fed s l image) = same (compared 16 (image_from (fed_on (made s) l))) (compared 16 image)
agrees (answered n p l) = let o = opened_out l [] in both (eqb o.no n) (eqb o.place p)

-- on each case
unfoldable pub agrees_all : List Case → Bool
agrees_all [] = true
agrees_all (c ∷ cs) = both (agrees c) (agrees_all cs)
