-- What a history needs of the calls, whatever the kind: after a call that is not refused the sketch is in good order, of the same
-- kind and size, and its registers are the model's. Assumes nothing.
use mathlib.Core.Path.{◌≡◌, refl, sym, ◌∙◌, subst}
use mathlib.Core.Bool.{Bool, true, false}
use mathlib.Core.List.{List, [], map}
use mathlib.Core.Logic.{inl}
use Prim.Native.Nat.{ℕ, ◌/◌, ◌^◌, ◌≤◌, ◌<◌, zero-le}
use native.Mathlib.Omega.{arith}
use native.Mathlib.Nat.{not-suc-le-zero}
use lib.Dec.{eqb}
use lib.ListN.{length, get_or, take, replicate, length-replicate, get_or-replicate}
use borrow.Author.Tests.{eq-eqb, ne_eqb}
use Rattle.model.specs.Pick.{pick}
use Rattle.model.specs.Coupon.{value, home}
use Rattle.model.specs.Registers.{raise, fed, joined, least}
use Rattle.model.specs.Packed.{Bytes, packed}
use Rattle.model.specs.Table.{base_for}
use Rattle.model.specs.Steps.{Step, went, Ran, ran}
use Rattle.model.specs.Four.{State, state, nibble, stored_at, TableAt, NoRoom}
use Rattle.model.specs.Sketch.{bytes_of, stored, area_of, registers, Good}
use Rattle.model.specs.Check.{shape_no, scratch_fits, check_no}
use Rattle.model.specs.Calls.{kept_out, start_of, state_of, step_of, batch_of, feed_of, eight_no, merge_no, merge_of}
use Rattle.model.specs.declared.Sketch.{Sketch}
use Rattle.model.specs.declared.Checked.{Checked}
use Rattle.model.proofs.order.Tells.{tells_le, tells_eq, tells_true}
use Rattle.model.proofs.calls.Ladder.{Says, says_as, says_self, says_pass, says_last, says_next, shape_says, check_says}
use Rattle.model.proofs.registers.Raising.{length_poured, poured_small}
use Rattle.model.specs.Claims.{FeedLine}
use Rattle.model.proofs.packing.Packing.{packed_bytes}
use Rattle.model.proofs.packing.Lengths.{is_eight}
use Rattle.model.proofs.calls.Steps.{ran_keeps}
use Rattle.model.proofs.calls.Stopping.{ran_line}
use Rattle.model.proofs.order.Sound.{Sound, Has, Lawful}
use Rattle.model.proofs.order.Lawful.{lawful}

-- register bytes of a sketch in good order are bytes
pub stored_bytes : (kind lgk : ℕ) (R : List ℕ) → Bytes (stored kind lgk R)
unfolding stored stored_at
stored_bytes kind lgk R = go (eqb kind 4)
  where
    go : (b : Bool) → Bytes (pick b (packed 4 (length R / 2) (map (nibble (least R)) R)) (packed kind (bytes_of kind lgk) R))
    go true = packed_bytes 4 _ _
    go false = packed_bytes kind _ _

pub good_bytes : {s : Sketch} {regs aux : List ℕ} → Good s regs aux → Bytes regs
good_bytes {s} {regs} {aux} g = subst Bytes (sym g.bytes_are) (stored_bytes s.kind s.lg_k (registers s regs aux))

-- the empty table of registers that are all zero
empty_table : (base k : ℕ) → TableAt base (least (replicate k 0)) (replicate k 0) []
empty_table base k = record {
  shape = inl refl;
  from = λ x hx m. absurd (not-suc-le-zero m.1);
  to = λ s l h.
      let z : get_or (replicate {A = ℕ} k 0) s 0 ≡ 0 = get_or-replicate k s 0 0 (subst (λ (n : ℕ). s < n) (length-replicate {A = ℕ} k 0) l) in
      absurd (omega (arith, h));
}

-- ---- the checks
pub check_ok : (lent : Bool) (s : Sketch) (regs aux : List ℕ) → Bytes regs → check_no lent s regs aux ≡ 0 → Good s regs aux
check_ok lent s regs aux by e = let (h, (l, g)) = (check_says lent s regs aux).0 e in ((lawful s.kind h.kind_known).tells s regs aux refl h by).0 g

-- so a checked one is in good order
pub checked_good : (h : Checked) → Good h.sketch h.regs.now h.aux.now
checked_good h = check_ok true h.sketch h.regs.now h.aux.now h.bytes h.passed

pub ok_check : (lent : Bool) (s : Sketch) (regs aux : List ℕ) → lent ≡ true → Good s regs aux → check_no lent s regs aux ≡ 0
ok_check lent s regs aux l g = (check_says lent s regs aux).1 (g.shaped, (l, tells_true _ ((lawful s.kind g.shaped.kind_known).tells s regs aux refl g.shaped (good_bytes g)) g))

-- ---- start: an empty sketch
pub start_has : (kind lgk : ℕ) (regs aux : List ℕ) → shape_no kind lgk (length regs) ≡ 0
    → let o = start_of kind lgk regs aux in (o.no ≡ 0) × Has kind lgk (state (replicate (2 ^ lgk) 0) []) o.sketch o.regs o.aux
unfolding start_of kept_out
start_has kind lgk regs aux e =
    let h = (shape_says kind lgk (length regs)).0 e in
    let long : length (replicate {A = ℕ} (2 ^ lgk) 0) ≡ 2 ^ lgk = length-replicate (2 ^ lgk) 0 in
    rw (eq-eqb (shape_no kind lgk (length regs)) 0 e) (
      refl,
      (lawful kind h.kind_known).kept lgk (state (replicate (2 ^ lgk) 0) []) aux h.low h.high
          (record {
            long = long;
            small = λ i l. let z : get_or (replicate {A = ℕ} (2 ^ lgk) 0) i 0 ≡ 0 = get_or-replicate (2 ^ lgk) i 0 0 (subst (λ (n : ℕ). i < n) long l) in omega arith;
            table = λ q. empty_table (base_for lgk) (2 ^ lgk);
            fits = λ q. zero-le;
            none = λ q. refl;
          }),
    )

-- ---- a batch: the coupons that were taken
module _ (s : Sketch) (regs aux cs : List ℕ) (g : Good s regs aux) where
  abbrev k : ℕ
  k = 2 ^ s.lg_k

  abbrev f : State → ℕ → Step State
  f = step_of s.kind s.lg_k (length aux)

  abbrev Possible : State → Type 0
  Possible a = Sound s.kind s.lg_k (length aux) a

  law : Lawful s.kind
  law = lawful s.kind g.shaped.kind_known

  possible : Possible (state_of s regs aux)
  possible = law.sound s regs aux refl g

  goes : (a b : State) (c : ℕ) → Possible a → f a c ≡ went b → Possible b × (b.regs ≡ raise a.regs (home k c) (value c))
  goes a b c = law.goes s.lg_k (length aux) a b c g.shaped.low g.shaped.high

  abbrev r : Ran State
  r = ran f (state_of s regs aux) cs

  pub batch_sound : Possible r.state
  batch_sound = (ran_keeps State f k Possible (λ a. a.regs) goes cs (state_of s regs aux) possible).0

  pub batch_has : let o = batch_of s regs aux cs in (o.no ≡ r.no) × (o.count ≡ r.count) × Has s.kind s.lg_k r.state o.sketch o.regs o.aux × (r.state.regs ≡ fed k (registers s regs aux) (take o.count cs))
  unfolding batch_of kept_out state_of
  batch_has =
      let q = ran_keeps State f k Possible (λ a. a.regs) goes cs (state_of s regs aux) possible in
      (refl, refl, law.kept s.lg_k r.state aux g.shaped.low g.shaped.high q.0, q.1)

  -- where it stops
  pub batch_line : let o = batch_of s regs aux cs in FeedLine s regs aux cs o.count o.no
  unfolding batch_of kept_out state_of
  batch_line =
      ran_line State f k Possible (λ a. a.regs) (λ R c. (s.kind ≡ 4) × NoRoom (base_for s.lg_k) (length aux) R (home k c) (value c)) goes
      (λ a c. law.stops s.lg_k (length aux) a c g.shaped.low g.shaped.high)
      (λ a c o h. law.stops_only s.lg_k (length aux) a c g.shaped.low g.shaped.high o h.0 h.1)
      cs (state_of s regs aux) possible

-- feed is a batch behind the checks
pub feed_is : (s : Sketch) (regs aux scratch cs : List ℕ) → check_no (scratch_fits s.kind (length aux) (length scratch)) s regs aux ≡ 0 → feed_of s regs aux scratch cs ≡ batch_of s regs aux cs
unfolding feed_of
feed_is s regs aux scratch cs e = rw (eq-eqb (check_no (scratch_fits s.kind (length aux) (length scratch)) s regs aux) 0 e)

pub registers_long : (s : Sketch) (regs aux : List ℕ) → Good s regs aux → length (registers s regs aux) ≡ 2 ^ s.lg_k
unfolding state_of
registers_long s regs aux g = ((lawful s.kind g.shaped.kind_known).sound s regs aux refl g).long

-- ---- merge: the larger of each register
pub eight_says : (t : Sketch) (tregs : List ℕ) → Says (eight_no t tregs) ((t.kind ≡ 8) × (check_no true t tregs [] ≡ 0))
unfolding eight_no
eight_says t tregs = says_as _ (says_next _ _ (says_pass _ 0 (tells_eq t.kind 8)) (says_next _ _ (says_self (check_no true t tregs [])) says_last)) (λ p. search) (λ p. search)

pub merge_says : (t : Sketch) (tregs : List ℕ) (s : Sketch) (sregs saux : List ℕ)
    → Says (merge_no t tregs s sregs saux) (((t.kind ≡ 8) × (check_no true t tregs [] ≡ 0)) × ((check_no true s sregs saux ≡ 0) × (t.lg_k ≤ s.lg_k)))
unfolding merge_no
merge_says t tregs s sregs saux =
    says_as _ (says_next _ _ (eight_says t tregs) (says_next _ _ (says_self (check_no true s sregs saux)) (says_next _ _ (says_pass _ 4 (tells_le t.lg_k s.lg_k)) says_last)))
    (λ p. search) (λ p. search)

-- the registers of a kind 8 sketch do not depend on the area
pub eight_aux : (t : Sketch) (tregs aux aux' : List ℕ) → t.kind ≡ 8 → registers t tregs aux ≡ registers t tregs aux'
unfolding registers
eight_aux t tregs aux aux' e = rw (ne_eqb t.kind 4 (λ q. omega arith))

pub merge_has : (t : Sketch) (tregs taux : List ℕ) (s : Sketch) (sregs saux : List ℕ) → Good t tregs taux → Good s sregs saux → merge_no t tregs s sregs saux ≡ 0
    → let o = merge_of t tregs s sregs saux in
    (o.no ≡ 0) × Has 8 t.lg_k (state (joined (2 ^ t.lg_k) (registers t tregs taux) (registers s sregs saux)) []) o.sketch o.regs taux
unfolding merge_of kept_out area_of
merge_has t tregs taux s sregs saux g h e =
    let z = (merge_says t tregs s sregs saux).0 e in
    let q = eight_aux t tregs taux [] z.0.0 in
    rw (eq-eqb (merge_no t tregs s sregs saux) 0 e, ← q) (
      refl,
      (lawful 8 is_eight).kept t.lg_k (state (joined (2 ^ t.lg_k) (registers t tregs taux) (registers s sregs saux)) []) taux g.shaped.low g.shaped.high
          (record {
            long = length_poured _ (registers t tregs taux) 0 (registers s sregs saux) ∙ registers_long t tregs taux g;
            small = poured_small (2 ^ t.lg_k) (registers t tregs taux) 0 (registers s sregs saux) g.small h.small;
            table = λ x. absurd (omega arith);
            fits = λ x. absurd (omega arith);
            none = λ x. refl;
          }),
    )
