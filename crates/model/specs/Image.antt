-- The image of a sketch, and what write and open do for every input. Little-endian throughout: fields of 32 and 64 bits are packed cells.
use Rattle.std.specs.Prelude.{ℕ, ◌+◌, ◌*◌, ◌/◌, ◌%◌, ◌^◌, Bool, true, List, [], ◌∷◌, ◌++◌, map, eqb, leb, length, get_or, take, drop, Result, Ok, Err}
use Rattle.std.specs.Float.{binary64}
use Rattle.std.specs.Float.Ieee.{to_bits}
use Rattle.model.specs.Pick.{pick, both, first_of}
use Rattle.model.specs.Answers.{refusal_no, Said, said, placed}
use Rattle.model.specs.Coupon.{value, home, word}
use Rattle.model.specs.Packed.{slot_at, unpacked, packed}
use Rattle.model.specs.Table.{base_for, table_size, filled, made}
use Rattle.model.specs.Faults.{aux_fault}
use Rattle.model.specs.Sketch.{sketch_of, is_kind, bytes_of, record_of, stored, area_of, cells, table_in, registers}
use Rattle.model.specs.Check.{counts_fit, values_fit, spare_fits, tally_fits, lgk_no, size_no, scratch_fits, check_no}
use Rattle.model.specs.Sums.{kxq0, kxq1}
use Rattle.model.specs.Calls.{Out, out, refused_at, nothing}
use Rattle.model.specs.declared.Sketch.{Sketch}
use Rattle.model.specs.declared.Refusal.{Refusal}

-- ---- the layout
-- byte 7: 2, 6 or 10
abbrev pub mode_of : ℕ → ℕ
mode_of kind = pick (eqb kind 8) 10 (pick (eqb kind 6) 6 2)

-- byte 5: out of order, and compact for kind 4
abbrev pub flags_of : ℕ → ℕ
flags_of kind = pick (eqb kind 4) 24 16

-- the three bytes that every image begins with
abbrev pub magic : List ℕ
magic = 10 ∷ 1 ∷ 7 ∷ []

-- bytes 0 to 7, the three doubles, the two counts
unfoldable pub header : Sketch → List ℕ → List ℕ
header s R =
    magic ++ ((s.lg_k ∷ 0 ∷ flags_of s.kind ∷ s.cur_min ∷ mode_of s.kind ∷ [])
    ++ (packed 64 24 (0 ∷ to_bits binary64 (kxq0 R) ∷ to_bits binary64 (kxq1 R) ∷ [])
    ++ packed 32 8 (s.num_at_cur_min ∷ s.aux_count ∷ [])))

-- the image of registers and exception words
unfoldable pub image_of : ℕ → ℕ → List ℕ → List ℕ → List ℕ
image_of kind lgk R words = header (record_of kind lgk R) R ++ (stored kind lgk R ++ packed 32 (4 * length words) words)

-- ---- write
-- the image of a sketch in good order: the exception words that are not empty, in table order
unfoldable pub image_in : Sketch → List ℕ → List ℕ → List ℕ
image_in s regs aux = image_of s.kind s.lg_k (registers s regs aux) (filled (table_in s aux))

-- the number, the length, and what the buffer then holds
pub record Written : Type 0 where
  pub no : ℕ
  pub len : ℕ
  pub out : List ℕ

-- one, by its parts
abbrev pub wrote : ℕ → ℕ → List ℕ → Written
wrote n len l = record { no = n; len = len; out = l }

-- what write gives, the length or a refusal, and what the buffer then holds
abbrev pub wrote_out : Result ℕ Refusal → List ℕ → Written
wrote_out (Ok len) l = wrote 0 len l
wrote_out (Err e) l = wrote (refusal_no e) 0 l

-- the sketch's checks, then OUT
unfoldable pub write_no : Sketch → List ℕ → List ℕ → List ℕ → ℕ
write_no s regs aux buf = first_of (check_no true s regs aux ∷ pick (leb (length (image_in s regs aux)) (length buf)) 0 16 ∷ [])

-- write: the image over the buffer's front; bytes past it stay
unfoldable pub write_of : Sketch → List ℕ → List ℕ → List ℕ → Written
write_of s regs aux buf =
    let n = write_no s regs aux buf in
    let image = image_in s regs aux in
    pick (eqb n 0) (wrote 0 (length image) (image ++ drop (length image) buf)) (wrote n 0 buf)

-- ---- open: the fields of any list of bytes
-- the kind of a mode, or 0
unfoldable pub kind_of : ℕ → ℕ
kind_of mode = pick (eqb mode 10) 8 (pick (eqb mode 6) 6 (pick (eqb mode 2) 4 0))

-- the record that an image has: num_at_cur_min at 32, exception count at 36
unfoldable pub sketch_in : List ℕ → Sketch
sketch_in l = sketch_of (kind_of (get_or l 7 0)) (get_or l 3 0) (get_or l 6 0) (slot_at 32 l 8) (slot_at 32 l 9)

-- the register bytes, from byte 40 on
unfoldable pub regs_in : List ℕ → List ℕ
regs_in l = take (bytes_of (sketch_in l).kind (sketch_in l).lg_k) (drop 40 l)

-- flag 8
unfoldable pub compact_in : List ℕ → Bool
compact_in l = eqb (get_or l 5 0 / 8 % 2) 1

-- how many exception words an image has: count of them in the compact form; else 2 ^ lg_arr, if count is not zero
unfoldable pub word_count : List ℕ → ℕ
word_count l = let count = (sketch_in l).aux_count in pick (compact_in l) count (pick (eqb count 0) 0 (2 ^ get_or l 4 0))

-- the words as they stand there, the empty ones too
abbrev pub words_in : List ℕ → List ℕ
words_in l = unpacked 32 (word_count l) (drop (40 + bytes_of (sketch_in l).kind (sketch_in l).lg_k) l)

-- the entries among them
unfoldable pub entries_in : List ℕ → List ℕ
entries_in l = filled (words_in l)

-- an entry as the table has it: its slot modulo k
abbrev pub homed : ℕ → ℕ → ℕ
homed k w = word (home k w) (value w)

-- what is wrong with the exception words of kind 4, if anything, and where
unfoldable pub aux_in : List ℕ → Said
aux_in l =
    let s = sketch_in l in
    pick (eqb s.kind 4) (aux_fault (compact_in l) (2 ^ s.lg_k) s.cur_min s.aux_count (words_in l) (cells s (regs_in l))) (said 0 0)

-- ---- opening's refusals, in document 01's order
-- 7, 8: a header is there, and begins as every image does
unfoldable pub header_no : List ℕ → ℕ
header_no l =
    first_of (pick (leb 40 (length l)) 0 7 ∷ pick (both (eqb (get_or l 0 0) 10) (both (eqb (get_or l 1 0) 1) (eqb (get_or l 2 0) 7))) 0 8 ∷ [])

-- 9, 2: a kind and a size that there are
unfoldable pub form_no : ℕ → ℕ → ℕ
form_no kind lgk = first_of (pick (is_kind kind) 0 9 ∷ lgk_no lgk ∷ [])

-- 3: what is lent has the right size
unfoldable pub memory_no : ℕ → ℕ → ℕ → ℕ → ℕ → ℕ
memory_no kind lgk regs aux scratch = first_of (size_no kind lgk regs ∷ pick (scratch_fits kind aux scratch) 0 3 ∷ [])

-- lg_arr is looked at in the second form alone, where it has words
unfoldable pub lg_arr_fits : List ℕ → Bool
lg_arr_fits l = pick (compact_in l) true (pick (eqb (sketch_in l).aux_count 0) true (leb (get_or l 4 0) 22))

-- 10, 11, 7: the counts, lg_arr, and all of the payload. (Kinds 6 and 8 have no words once 10 has passed.)
unfoldable pub counts_no : List ℕ → ℕ
counts_no l =
    let s = sketch_in l in
    first_of (pick (counts_fit s) 0 10 ∷ pick (lg_arr_fits l) 0 11 ∷ pick (leb (40 + bytes_of s.kind s.lg_k + 4 * word_count l) (length l)) 0 7 ∷ [])

-- 6: the area has room for the table of the exceptions
unfoldable pub room_no : ℕ → ℕ → ℕ → ℕ
room_no lgk count aux = pick (leb (table_size (base_for lgk) count) aux) 0 6

-- 12, 21 to 25, 14, 15: the registers and the exceptions
unfoldable pub body_no : List ℕ → ℕ
body_no l =
    let s = sketch_in l in
    first_of (
    pick (values_fit s (regs_in l)) 0 12
    ∷ (aux_in l).no
    ∷ pick (spare_fits s (regs_in l)) 0 14
    ∷ pick (tally_fits s (regs_in l)) 0 15
    ∷ []
    )

-- all of them, for memory of these lengths
unfoldable pub open_no : List ℕ → ℕ → ℕ → ℕ → ℕ
open_no l regs aux scratch =
    let s = sketch_in l in
    first_of (
    header_no l
    ∷ form_no s.kind s.lg_k
    ∷ memory_no s.kind s.lg_k regs aux scratch
    ∷ counts_no l
    ∷ room_no s.lg_k s.aux_count aux
    ∷ body_no l
    ∷ []
    )

-- the place of an answer: that of the exception words for 21 to 25
unfoldable pub place_in : List ℕ → ℕ → ℕ
place_in l n = pick (placed n) (aux_in l).place 0

-- both
abbrev pub said_in : List ℕ → ℕ → Said
said_in l n = said n (place_in l n)

-- open: the record and the register bytes of the image, and for kind 4 the table of its entries, inserted in the order listed
unfoldable pub open_of : List ℕ → List ℕ → List ℕ → List ℕ → Out
open_of l regs aux scratch =
    let s = sketch_in l in
    let n = open_no l (length regs) (length aux) (length scratch) in
    pick (eqb n 0)
    (out 0 0 s 0 (regs_in l) (area_of s.kind (made (base_for s.lg_k) (map (homed (2 ^ s.lg_k)) (entries_in l))) aux))
    (refused_at n (place_in l n) nothing regs aux)
