-- Document 01's specimens marked P, two exception tables as the Rust makes them, and document 02's faults of exception words and images of coupons: one table, one claim, proved by computing.
use Rattle.std.specs.Prelude.{◌≡◌, Bool, true, false, List, [], ◌∷◌, ◌++◌, map, ℕ, zero, suc, ◌*◌, length, take, replicate}
use Rattle.model.specs.Coupon.{word}
use Rattle.model.specs.Packed.{packed}
use Rattle.model.specs.Table.{filled}
use Rattle.model.specs.Sketch.{bytes_of}
use Rattle.model.specs.Sums.{scaled}
use Rattle.model.specs.Calls.{Out, start_of, feed_of, merge_of}
use Rattle.model.specs.Faults.{aux_fault}
use Rattle.model.specs.Image.{write_of}
use Rattle.model.specs.Lists.{feed_image_of}

-- slots s, s + 1, .., n of them, at v
unfoldable pub at : ℕ → ℕ → ℕ → List ℕ
at s zero v = []
at s (suc n) v = word s v ∷ at (suc s) n v

-- a sketch made in memory that held something else, with an area of so many words
unfoldable pub begun : ℕ → ℕ → ℕ → Out
begun kind lgk room = start_of kind lgk (replicate (bytes_of kind lgk) 7) (replicate room 9)

-- and fed
unfoldable pub fed_with : ℕ → ℕ → ℕ → List ℕ → Out
fed_with kind lgk room cs = let o = begun kind lgk room in feed_of o.sketch o.regs o.aux (replicate room 5) cs

-- the same, fed an image
unfoldable pub image_with : ℕ → ℕ → ℕ → List ℕ → Out
image_with kind lgk room l = let o = begun kind lgk room in feed_image_of o.sketch o.regs o.aux (replicate room 5) l

-- its image
unfoldable pub image_from : Out → List ℕ
image_from o = let w = write_of o.sketch o.regs o.aux (replicate 200 3) in take w.len w.out

-- its record: cur_min, num_at_cur_min, exception count
unfoldable pub record_from : Out → List ℕ
record_from o = o.sketch.cur_min ∷ o.sketch.num_at_cur_min ∷ o.sketch.aux_count ∷ []

-- what is wrong with exception words of a kind 4 image, lg_k 4 and cur_min 0, in which the nibbles of slots 0 and 1 are 15: number and place
unfoldable pub fault_with : Bool → ℕ → List ℕ → List ℕ
fault_with compact count ws = let f = aux_fault compact 16 0 count ws (15 ∷ 15 ∷ replicate 14 0) in f.no ∷ f.place ∷ []

-- a coupon list with this lg_k, these flags and this mode
unfoldable pub list_with : ℕ → ℕ → ℕ → List ℕ → List ℕ
list_with lgk flags mode ws = (2 ∷ 1 ∷ 7 ∷ lgk ∷ 3 ∷ flags ∷ length ws ∷ mode ∷ []) ++ packed 32 (4 * length ws) ws

-- a coupon set
unfoldable pub set_with : ℕ → ℕ → ℕ → List ℕ → List ℕ
set_with lgk flags mode ws = (3 ∷ 1 ∷ 7 ∷ lgk ∷ 5 ∷ flags ∷ 9 ∷ mode ∷ []) ++ (packed 32 4 (length ws ∷ []) ++ packed 32 (4 * length ws) ws)

-- number, place, and how many coupons were taken
unfoldable pub said_from : Out → List ℕ
said_from o = o.no ∷ o.place ∷ o.count ∷ []

-- what is asked, and what the documents say
pub record Specimen : Type 0 where
  pub found : List ℕ
  pub should : List ℕ

-- one, by its parts
infixl 1 ◌is◌
abbrev pub ◌is◌ : List ℕ → List ℕ → Specimen
found is should = record { found = found; should = should }

-- the specimens
unfoldable pub table : List Specimen
table =
    -- 1: the empty kind 8 image, lg_k 4
    (image_from (fed_with 8 4 0 []) is ((10 ∷ 1 ∷ 7 ∷ 4 ∷ 0 ∷ 16 ∷ 0 ∷ 10 ∷ []) ++ replicate 8 0 ++ (0 ∷ 0 ∷ 0 ∷ 0 ∷ 0 ∷ 0 ∷ 0x30 ∷ 0x40 ∷ []) ++ replicate 8 0 ++ (16 ∷ 0 ∷ 0 ∷ 0 ∷ []) ++ replicate 20 0))
    -- 2: slot 0 at 14 is no exception; at 15 it is: nibble 15, word 1006632960, image of 52 bytes
    ∷ (record_from (fed_with 4 4 8 (word 0 14 ∷ [])) is (0 ∷ 15 ∷ 0 ∷ []))
    ∷ ((fed_with 4 4 8 (word 0 15 ∷ [])).regs is (15 ∷ replicate 7 0))
    ∷ ((fed_with 4 4 8 (word 0 15 ∷ [])).aux is (1006632960 ∷ replicate 7 0))
    ∷ (length (image_from (fed_with 4 4 8 (word 0 15 ∷ []))) ∷ [] is (52 ∷ []))
    -- 3: then 1 to slots 1 to 15
    ∷ (record_from (fed_with 4 4 8 (word 0 15 ∷ at 1 15 1)) is (1 ∷ 15 ∷ 0 ∷ []))
    ∷ ((fed_with 4 4 8 (word 0 15 ∷ at 1 15 1)).regs is (14 ∷ replicate 7 0))
    ∷ ((fed_with 4 4 8 (word 0 15 ∷ at 1 15 1)).aux is replicate 8 0)
    -- 4: kind 6, slot 1 at 63, and slot 15
    ∷ ((fed_with 6 4 0 (word 1 63 ∷ [])).regs is (192 ∷ 15 ∷ replicate 11 0))
    ∷ ((fed_with 6 4 0 (word 15 63 ∷ [])).regs is (replicate 11 0 ++ 252 ∷ 0 ∷ []))
    -- 5: source lg_k 5, slots 3 at 2 and 19 at 9; target lg_k 4
    ∷ (let t = fed_with 8 4 0 [] in let s = fed_with 8 5 0 (word 3 2 ∷ word 19 9 ∷ []) in (merge_of t.sketch t.regs s.sketch s.regs []).regs is (replicate 3 0 ++ 9 ∷ replicate 12 0))
    -- 6: with 16 words twelve exceptions are taken and the 13th is NO_ROOM; with 32 all slots reach 63
    ∷ (let o = fed_with 4 4 16 (at 0 13 63) in o.no ∷ o.count ∷ o.sketch.aux_count ∷ [] is (6 ∷ 12 ∷ 12 ∷ []))
    ∷ (let o = fed_with 4 4 32 (at 0 16 63) in o.no ∷ o.count ∷ record_from o is (0 ∷ 16 ∷ 63 ∷ 16 ∷ 0 ∷ []))
    ∷ ((fed_with 4 4 32 (at 0 16 63)).aux is replicate 32 0)
    -- 7: 31 counts 1 in kxq0 * 2 ^ 31, and 63 in kxq1 * 2 ^ 63
    ∷ (scaled 0 (31 ∷ []) ∷ scaled 32 (31 ∷ []) ∷ scaled 0 (63 ∷ []) ∷ scaled 32 (63 ∷ []) ∷ [] is (1 ∷ 0 ∷ 0 ∷ 1 ∷ []))
    -- the new word goes in before the table grows
    ∷ (take 8 (fed_with 4 4 16 (word 0 15 ∷ word 1 15 ∷ word 3 15 ∷ word 11 15 ∷ [])).aux is (0x3c000000 ∷ 0x3c000001 ∷ 0 ∷ 0x3c00000b ∷ 0x3c000003 ∷ 0 ∷ 0 ∷ 0 ∷ []))
    -- a rise that frees nothing reorders
    ∷ ((fed_with 4 4 4 (word 7 40 ∷ word 3 40 ∷ [])).aux is (0xa0000003 ∷ 0 ∷ 0 ∷ 0xa0000007 ∷ []))
    ∷ ((fed_with 4 4 4 (word 7 40 ∷ word 3 40 ∷ at 0 3 1 ++ at 4 3 1 ++ at 8 8 1)).aux is (0xa0000007 ∷ 0 ∷ 0 ∷ 0xa0000003 ∷ []))
    -- document 02, request 1: good words in both forms; each of the five; the later of two, the earlier of two faults, words passed over, an entry behind the last that is counted
    ∷ (fault_with true 2 (word 0 15 ∷ word 1 15 ∷ []) is (0 ∷ 0 ∷ []))
    ∷ (fault_with false 2 (0 ∷ word 17 15 ∷ 0 ∷ word 0 15 ∷ []) is (0 ∷ 0 ∷ []))
    ∷ (fault_with true 2 (word 0 15 ∷ 0 ∷ []) is (21 ∷ 1 ∷ []))
    ∷ (fault_with true 2 (word 0 15 ∷ word 16 14 ∷ []) is (22 ∷ 1 ∷ []))
    ∷ (fault_with false 2 (0 ∷ word 0 14 ∷ word 0 15 ∷ []) is (23 ∷ 1 ∷ []))
    ∷ (fault_with false 1 (word 0 15 ∷ word 1 15 ∷ word 0 15 ∷ []) is (22 ∷ 2 ∷ []))
    ∷ (fault_with false 1 (word 0 15 ∷ 0 ∷ word 1 15 ∷ []) is (24 ∷ 0 ∷ []))
    ∷ (fault_with true 2 (word 0 15 ∷ word 2 15 ∷ []) is (25 ∷ 1 ∷ []))
    -- request 2: a list; a set with other flags and mode bits and bytes behind; no coupons; the coupons before NO_ROOM; each refusal, FINER last
    ∷ ((image_with 8 4 0 (list_with 4 8 0 (word 3 5 ∷ word 19 7 ∷ []))).regs is (replicate 3 0 ++ 7 ∷ replicate 12 0))
    ∷ (said_from (image_with 6 4 0 (set_with 12 255 253 (word 3 5 ∷ word 3 5 ∷ word 7 0 ∷ []) ++ 1 ∷ 2 ∷ [])) is (0 ∷ 0 ∷ 3 ∷ []))
    ∷ (said_from (image_with 4 4 8 (list_with 21 8 0 [])) is (0 ∷ 0 ∷ 0 ∷ []))
    ∷ (said_from (image_with 4 4 16 (set_with 4 8 1 (at 0 13 63))) is (6 ∷ 0 ∷ 12 ∷ []))
    ∷ (said_from (image_with 8 4 0 (take 7 (list_with 4 8 0 []))) is (7 ∷ 0 ∷ 0 ∷ []))
    ∷ (said_from (image_with 8 4 0 (10 ∷ 1 ∷ 7 ∷ replicate 37 0)) is (8 ∷ 0 ∷ 0 ∷ []))
    ∷ (said_from (image_with 8 4 0 (take 11 (set_with 4 8 0 []))) is (7 ∷ 0 ∷ 0 ∷ []))
    ∷ (said_from (image_with 8 4 0 (set_with 3 8 0 [])) is (9 ∷ 0 ∷ 0 ∷ []))
    ∷ (said_from (image_with 8 4 0 (list_with 3 0 0 [])) is (2 ∷ 0 ∷ 0 ∷ []))
    ∷ (said_from (image_with 8 4 0 (take 15 (list_with 4 0 0 (word 3 5 ∷ 0 ∷ [])))) is (26 ∷ 0 ∷ 0 ∷ []))
    ∷ (said_from (image_with 8 4 0 (take 15 (list_with 4 8 0 (word 3 5 ∷ 0 ∷ [])))) is (7 ∷ 0 ∷ 0 ∷ []))
    ∷ (said_from (image_with 8 5 0 (set_with 4 8 1 (word 3 5 ∷ 0 ∷ 0 ∷ []))) is (27 ∷ 1 ∷ 0 ∷ []))
    ∷ (said_from (image_with 8 5 0 (set_with 4 8 1 (word 3 5 ∷ []))) is (5 ∷ 0 ∷ 0 ∷ []))
    -- request 3: a word with a slot and no value is an entry in both forms, too low or twice, beside the zero word, which is none; 0x10 is for slot 0 too
    ∷ (filled (word 0 15 ∷ 0x00000001 ∷ 0 ∷ []) is (word 0 15 ∷ 0x00000001 ∷ []))
    ∷ (fault_with true 2 (word 0 15 ∷ word 1 0 ∷ []) is (23 ∷ 1 ∷ []))
    ∷ (fault_with true 1 (0x00000010 ∷ []) is (23 ∷ 0 ∷ []))
    ∷ (fault_with true 2 (word 0 15 ∷ 0x00000010 ∷ []) is (22 ∷ 1 ∷ []))
    ∷ (fault_with false 2 (word 0 15 ∷ 0x00000001 ∷ 0 ∷ word 1 15 ∷ []) is (23 ∷ 1 ∷ []))
    ∷ (fault_with false 3 (word 0 15 ∷ word 1 15 ∷ 0x00000001 ∷ 0 ∷ []) is (22 ∷ 2 ∷ []))
    ∷ []

-- the claim: each is as it should be
abbrev pub Specimens : Type 0
Specimens = map (λ (s : Specimen). s.found) table ≡ map (λ (s : Specimen). s.should) table
