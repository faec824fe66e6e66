-- Opening's ladder, part by part: what is so exactly where a part does not refuse. Assumes nothing.
use mathlib.Core.Path.{◌≡◌}
use mathlib.Core.Bool.{true}
use mathlib.Core.List.{List}
use Prim.Native.Nat.{ℕ, ◌+◌, ◌*◌, ◌≤◌}
use lib.ListN.{length, get_or}
use Rattle.model.specs.Table.{base_for, table_size}
use Rattle.model.specs.Sketch.{is_kind, bytes_of}
use Rattle.model.specs.Check.{counts_fit, values_fit, spare_fits, tally_fits, scratch_fits}
use Rattle.model.specs.Image.{sketch_in, regs_in, compact_in, word_count, aux_in, header_no, form_no, memory_no, lg_arr_fits, counts_no, room_no, body_no, open_no}
use Rattle.model.specs.Pick.{Tells}
use Rattle.model.proofs.order.Tells.{tells_pass, tells_both, tells_le, tells_eq, tells_unless}
use Rattle.model.proofs.calls.Ladder.{Says, says_as, says_pass, says_self, says_last, says_next, lgk_says, size_says}

-- ---- part by part
pub header_says : (l : List ℕ) → Says (header_no l) ((40 ≤ length l) × ((get_or l 0 0 ≡ 10) × ((get_or l 1 0 ≡ 1) × (get_or l 2 0 ≡ 7))))
unfolding header_no
header_says l =
    says_as _
    (says_next _ _ (says_pass _ 6 (tells_le 40 (length l)))
    (says_next _ _ (says_pass _ 7 (tells_both _ _ (tells_eq (get_or l 0 0) 10) (tells_both _ _ (tells_eq (get_or l 1 0) 1) (tells_eq (get_or l 2 0) 7)))) says_last))
    (λ p. search) (λ p. search)

pub form_says : (kind lgk : ℕ) → Says (form_no kind lgk) ((is_kind kind ≡ true) × ((4 ≤ lgk) × (lgk ≤ 21)))
unfolding form_no
form_says kind lgk = says_as _ (says_next _ _ (says_pass _ 8 (tells_pass (is_kind kind))) (says_next _ _ (lgk_says lgk) says_last)) (λ p. search) (λ p. search)

pub memory_says : (kind lgk regs aux scratch : ℕ) → Says (memory_no kind lgk regs aux scratch) ((regs ≡ bytes_of kind lgk) × (scratch_fits kind aux scratch ≡ true))
unfolding memory_no
memory_says kind lgk regs aux scratch =
    says_as _ (says_next _ _ (size_says kind lgk regs) (says_next _ _ (says_pass _ 2 (tells_pass (scratch_fits kind aux scratch))) says_last)) (λ p. search) (λ p. search)

pub lg_arr_tells : (l : List ℕ) → Tells (lg_arr_fits l) ((compact_in l ≡ true → ⊥) → ((sketch_in l).aux_count ≡ 0 → ⊥) → get_or l 4 0 ≤ 22)
unfolding lg_arr_fits
lg_arr_tells l = tells_unless _ _ (tells_pass (compact_in l)) (tells_unless _ _ (tells_eq (sketch_in l).aux_count 0) (tells_le (get_or l 4 0) 22))

-- the counts of a header, and all of its payload
pub record Counted (l : List ℕ) : Type 0 where
  pub counts : counts_fit (sketch_in l) ≡ true
  pub lg_arr : lg_arr_fits l ≡ true
  pub payload : 40 + bytes_of (sketch_in l).kind (sketch_in l).lg_k + 4 * word_count l ≤ length l

pub counts_says : (l : List ℕ) → Says (counts_no l) (Counted l)
unfolding counts_no
counts_says l =
    says_as _
    (says_next _ _ (says_pass _ 9 (tells_pass (counts_fit (sketch_in l))))
    (says_next _ _ (says_pass _ 10 (tells_pass (lg_arr_fits l)))
    (says_next _ _ (says_pass _ 6 (tells_le _ (length l))) says_last)))
    (λ p. search) (λ c. search)

pub room_says : (lgk count aux : ℕ) → Says (room_no lgk count aux) (table_size (base_for lgk) count ≤ aux)
unfolding room_no
room_says lgk count aux = says_pass _ 5 (tells_le (table_size (base_for lgk) count) aux)

-- the registers and the exceptions
pub record Bodied (l : List ℕ) : Type 0 where
  pub values : values_fit (sketch_in l) (regs_in l) ≡ true
  pub entries : (aux_in l).no ≡ 0
  pub spare : spare_fits (sketch_in l) (regs_in l) ≡ true
  pub tally : tally_fits (sketch_in l) (regs_in l) ≡ true

pub body_says : (l : List ℕ) → Says (body_no l) (Bodied l)
unfolding body_no
body_says l =
    let s = sketch_in l in
    says_as _
    (says_next _ _ (says_pass _ 11 (tells_pass (values_fit s (regs_in l))))
    (says_next _ _ (says_self (aux_in l).no)
    (says_next _ _ (says_pass _ 13 (tells_pass (spare_fits s (regs_in l))))
    (says_next _ _ (says_pass _ 14 (tells_pass (tally_fits s (regs_in l)))) says_last))))
    (λ p. search) (λ b. search)

-- ---- all of them, for memory of these lengths
pub record Opens (l : List ℕ) (regs aux scratch : ℕ) : Type 0 where
  pub long : 40 ≤ length l
  pub begins : (get_or l 0 0 ≡ 10) × ((get_or l 1 0 ≡ 1) × (get_or l 2 0 ≡ 7))
  pub known : is_kind (sketch_in l).kind ≡ true
  pub sized : (4 ≤ (sketch_in l).lg_k) × ((sketch_in l).lg_k ≤ 21)
  pub lent : regs ≡ bytes_of (sketch_in l).kind (sketch_in l).lg_k
  pub scratched : scratch_fits (sketch_in l).kind aux scratch ≡ true
  pub counted : Counted l
  pub room : table_size (base_for (sketch_in l).lg_k) (sketch_in l).aux_count ≤ aux
  pub bodied : Bodied l

pub open_says : (l : List ℕ) (regs aux scratch : ℕ) → Says (open_no l regs aux scratch) (Opens l regs aux scratch)
unfolding open_no
open_says l regs aux scratch =
    says_as _
    (says_next _ _ (header_says l)
    (says_next _ _ (form_says _ _)
    (says_next _ _ (memory_says _ _ regs aux scratch)
    (says_next _ _ (counts_says l)
    (says_next _ _ (room_says _ _ aux)
    (says_next _ _ (body_says l) says_last))))))
    (λ p. search) (λ o. search)
