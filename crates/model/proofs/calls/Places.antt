-- The answers and the calls that name no place. Assumes nothing.
use mathlib.Core.Path.{◌≡◌, refl}
use mathlib.Core.Bool.{Bool, true, false}
use mathlib.Core.List.{List, []}
use Prim.Native.Nat.{ℕ, ◌+◌, ◌*◌, ◌<◌}
use native.Mathlib.Omega.{arith}
use lib.Dec.{eqb, leb}
use lib.ListN.{length}
use Rattle.model.specs.Pick.{pick}
use Rattle.std.specs.Prelude.{Result, Ok, Err}
use Rattle.model.specs.Answers.{refusal_no, refusal_place, number_of, place_of}
use Rattle.model.specs.Table.{base_for, table_size}
use Rattle.model.specs.Sketch.{is_kind, bytes_of}
use Rattle.model.specs.Check.{good_of, counts_fit, size_no, shape_no, scratch_fits, check_no}
use Rattle.model.specs.Calls.{Out, kept_out, start_of, batch_of, feed_of, eight_no, merge_no, merge_of}
use Rattle.model.specs.Image.{sketch_in, word_count, lg_arr_fits, header_no, form_no, memory_no, counts_no, room_no}
use Rattle.model.specs.declared.Sketch.{Sketch}
use Rattle.model.specs.declared.Refusal.{Refusal}
use Rattle.model.specs.declared.Refusal.TheVariants as v
use Rattle.model.proofs.calls.Rungs.{first_either, pick_either, first_none, lgk_either, header_either, form_either}

-- a refusal of the first twenty numbers names no place
low_refusal : (e : Refusal) → refusal_no e < 21 → refusal_place e ≡ 0
low_refusal v.Kind h = refl
low_refusal v.LgK h = refl
low_refusal v.Size h = refl
low_refusal v.Damaged h = refl
low_refusal v.Finer h = refl
low_refusal v.NoRoom h = refl
low_refusal v.Short h = refl
low_refusal v.Header h = refl
low_refusal v.Mode h = refl
low_refusal v.Counts h = refl
low_refusal v.LgArr h = refl
low_refusal v.Value h = refl
low_refusal v.Spare h = refl
low_refusal v.Tally h = refl
low_refusal v.Out h = refl
low_refusal (v.AuxEmpty i) h = absurd (omega arith)
low_refusal (v.AuxTwice i) h = absurd (omega arith)
low_refusal (v.AuxLow i) h = absurd (omega arith)
low_refusal v.AuxCount h = refl
low_refusal (v.AuxMatch s) h = absurd (omega arith)
low_refusal v.Form h = refl
low_refusal (v.ListEmpty i) h = absurd (omega arith)

-- nor does an answer of them
pub low_place : {A : Type 0} (a : Result A Refusal) → number_of a < 21 → place_of a ≡ 0
low_place (Ok x) h = refl
low_place (Err e) h = low_refusal e h

-- ---- the numbers of these
abbrev Low : ℕ → Type 0
Low n = n < 21

pub shape_either : (P : ℕ → Type 0) (kind lgk len : ℕ) → P 0 → P 1 → P 2 → P 3 → P (shape_no kind lgk len)
unfolding shape_no size_no
shape_either P kind lgk len a b c d =
    first_either P _ _ (pick_either P (is_kind kind) a b) (first_either P _ _ (lgk_either P lgk a c) (first_either P _ _ (pick_either P (eqb len (bytes_of kind lgk)) a d) (first_none P a)))

pub check_either : (P : ℕ → Type 0) (lent : Bool) (s : Sketch) (regs aux : List ℕ) → P 0 → P 1 → P 2 → P 3 → P 4 → P (check_no lent s regs aux)
unfolding check_no
check_either P lent s regs aux a b c d e =
    first_either P _ _ (shape_either P s.kind s.lg_k (length regs) a b c d) (first_either P _ _ (pick_either P lent a d) (first_either P _ _ (pick_either P (good_of s regs aux) a e) (first_none P a)))

pub shape_low : (kind lgk len : ℕ) → shape_no kind lgk len < 21
shape_low kind lgk len = shape_either Low kind lgk len (omega arith) (omega arith) (omega arith) (omega arith)

pub check_low : (lent : Bool) (s : Sketch) (regs aux : List ℕ) → check_no lent s regs aux < 21
check_low lent s regs aux = check_either Low lent s regs aux (omega arith) (omega arith) (omega arith) (omega arith) (omega arith)

eight_low : (s : Sketch) (regs : List ℕ) → eight_no s regs < 21
unfolding eight_no
eight_low s regs = first_either Low _ _ (pick_either Low (eqb s.kind 8) (omega arith) (omega arith)) (first_either Low _ _ (check_low true s regs []) (first_none Low (omega arith)))

pub header_low : (l : List ℕ) → header_no l < 21
header_low l = header_either Low l (omega arith) (omega arith) (omega arith)

pub form_low : (kind lgk : ℕ) → form_no kind lgk < 21
form_low kind lgk = form_either Low kind lgk (omega arith) (omega arith) (omega arith)

pub memory_low : (kind lgk regs aux scratch : ℕ) → memory_no kind lgk regs aux scratch < 21
unfolding memory_no size_no
memory_low kind lgk regs aux scratch =
    first_either Low _ _ (pick_either Low (eqb regs (bytes_of kind lgk)) (omega arith) (omega arith))
    (first_either Low _ _ (pick_either Low (scratch_fits kind aux scratch) (omega arith) (omega arith)) (first_none Low (omega arith)))

pub counts_low : (l : List ℕ) → counts_no l < 21
unfolding counts_no
counts_low l =
    first_either Low _ _ (pick_either Low (counts_fit (sketch_in l)) (omega arith) (omega arith))
    (first_either Low _ _ (pick_either Low (lg_arr_fits l) (omega arith) (omega arith))
    (first_either Low _ _ (pick_either Low (leb (40 + bytes_of (sketch_in l).kind (sketch_in l).lg_k + 4 * word_count l) (length l)) (omega arith) (omega arith)) (first_none Low (omega arith))))

pub room_low : (lgk count aux : ℕ) → room_no lgk count aux < 21
unfolding room_no
room_low lgk count aux = pick_either Low (leb (table_size (base_for lgk) count) aux) (omega arith) (omega arith)

-- ---- so a refusal of such a number names none
pub shape_place : (e : Refusal) (kind lgk len : ℕ) → refusal_no e ≡ shape_no kind lgk len → refusal_place e ≡ 0
shape_place e kind lgk len h = low_refusal e (rw h (shape_low kind lgk len))

pub check_place : (e : Refusal) (lent : Bool) (s : Sketch) (regs aux : List ℕ) → refusal_no e ≡ check_no lent s regs aux → refusal_place e ≡ 0
check_place e lent s regs aux h = low_refusal e (rw h (check_low lent s regs aux))

pub eight_place : (e : Refusal) (s : Sketch) (regs : List ℕ) → refusal_no e ≡ eight_no s regs → refusal_place e ≡ 0
eight_place e s regs h = low_refusal e (rw h (eight_low s regs))

-- ---- nor do these calls
-- neither of two results names one
no_place : (b : Bool) (done back : Out) → done.place ≡ 0 → back.place ≡ 0 → (pick b done back).place ≡ 0
no_place true done back d r = d
no_place false done back d r = r

pub start_place : (kind lgk : ℕ) (regs aux : List ℕ) → (start_of kind lgk regs aux).place ≡ 0
unfolding start_of kept_out
start_place kind lgk regs aux = no_place (eqb (shape_no kind lgk (length regs)) 0) _ _ refl refl

pub feed_place : (s : Sketch) (regs aux scratch cs : List ℕ) → (feed_of s regs aux scratch cs).place ≡ 0
unfolding feed_of batch_of kept_out
feed_place s regs aux scratch cs = no_place (eqb (check_no (scratch_fits s.kind (length aux) (length scratch)) s regs aux) 0) _ _ refl refl

pub merge_place : (t : Sketch) (tregs : List ℕ) (s : Sketch) (sregs saux : List ℕ) → (merge_of t tregs s sregs saux).place ≡ 0
unfolding merge_of kept_out
merge_place t tregs s sregs saux = no_place (eqb (merge_no t tregs s sregs saux) 0) _ _ refl refl
