-- Good order as the tests that a program makes, and the first four refusals. Opening an image makes most of these tests too.
use Rattle.std.specs.Prelude.{Bool, true, List, [], ◌∷◌, ℕ, ◌+◌, ◌-◌, ◌^◌, eqb, leb, ltb, length, get_or, drop}
use Rattle.model.specs.Pick.{pick, both, all, first_of}
use Rattle.model.specs.Coupon.{value, slot, is_empty}
use Rattle.model.specs.Registers.{count_of}
use Rattle.model.specs.Table.{base_for, table_size, place, used}
use Rattle.model.specs.Sketch.{is_kind, bytes_of, cells, table_in}
use Rattle.model.specs.declared.Sketch.{Sketch}

-- the counts are at most k and cur_min at most 63; for kinds 6 and 8 cur_min and the exception count are 0
unfoldable pub counts_fit : Sketch → Bool
counts_fit s =
    both (leb s.num_at_cur_min (2 ^ s.lg_k))
    (both (leb s.aux_count (2 ^ s.lg_k))
    (pick (eqb s.kind 4) (leb s.cur_min 63) (both (eqb s.cur_min 0) (eqb s.aux_count 0))))

-- no register above 63: each cell, but a nibble of 15, is one above cur_min
unfoldable pub values_fit : Sketch → List ℕ → Bool
values_fit s regs =
    let ns = cells s regs in
    all (λ i. let n = get_or ns i 0 in pick (both (eqb s.kind 4) (eqb n 15)) true (leb (s.cur_min + n) 63)) (length ns)

-- kind 6's last byte is zero
unfoldable pub spare_fits : Sketch → List ℕ → Bool
spare_fits s regs = pick (eqb s.kind 6) (eqb (get_or regs (length regs - 1) 0) 0) true

-- num_at_cur_min is the number of cells that are 0, and for kind 4 there is one
unfoldable pub tally_fits : Sketch → List ℕ → Bool
tally_fits s regs = both (eqb s.num_at_cur_min (count_of 0 (cells s regs))) (pick (eqb s.kind 4) (ltb 0 s.num_at_cur_min) true)

-- a word of the table is an exception's: its slot is below k and has nibble 15, its value is high enough
unfoldable pub word_fits : Sketch → List ℕ → ℕ → Bool
word_fits s regs w =
    both (ltb (slot w) (2 ^ s.lg_k))
    (both (eqb (get_or (cells s regs) (slot w) 0) 15)
    (both (leb (s.cur_min + 15) (value w))
    (ltb w (2 ^ 32))))

-- the area has room for the table of so many words; there are so many, and so many nibbles of 15; zeros behind it; each word fits, where its search ends
unfoldable pub table_fits : Sketch → List ℕ → List ℕ → Bool
table_fits s regs aux =
    let t = table_in s aux in
    let size = table_size (base_for s.lg_k) s.aux_count in
    both (leb size (length aux))
    (both (eqb (used t) s.aux_count)
    (both (eqb (count_of 15 (cells s regs)) s.aux_count)
    (both (eqb (used (drop size aux)) 0)
    (all (λ p. let w = get_or t p 0 in pick (is_empty w) true (both (word_fits s regs w) (eqb (place t (slot w)) p))) (length t)))))

-- good order of a sketch whose shape is right
unfoldable pub good_of : Sketch → List ℕ → List ℕ → Bool
good_of s regs aux =
    both (counts_fit s)
    (both (values_fit s regs)
    (both (spare_fits s regs)
    (both (tally_fits s regs)
    (pick (eqb s.kind 4) (table_fits s regs aux) true))))

-- ---- the refusals that all calls share
-- 2, LGK
unfoldable pub lgk_no : ℕ → ℕ
lgk_no lgk = pick (both (leb 4 lgk) (leb lgk 21)) 0 2

-- 3, SIZE, of the register buffer
unfoldable pub size_no : ℕ → ℕ → ℕ → ℕ
size_no kind lgk len = pick (eqb len (bytes_of kind lgk)) 0 3

-- 1, 2, 3: KIND, LGK, SIZE
unfoldable pub shape_no : ℕ → ℕ → ℕ → ℕ
shape_no kind lgk len = first_of (pick (is_kind kind) 0 1 ∷ lgk_no lgk ∷ size_no kind lgk len ∷ [])

-- kind 4's scratch is no shorter than the exception area
unfoldable pub scratch_fits : ℕ → ℕ → ℕ → Bool
scratch_fits kind aux scratch = pick (eqb kind 4) (leb aux scratch) true

-- 1, 2, 3, 4 of a sketch handed in: KIND, LGK, SIZE (of the registers, and of what else the call is lent), DAMAGED
unfoldable pub check_no : Bool → Sketch → List ℕ → List ℕ → ℕ
check_no lent s regs aux = first_of (shape_no s.kind s.lg_k (length regs) ∷ pick lent 0 3 ∷ pick (good_of s regs aux) 0 4 ∷ [])
