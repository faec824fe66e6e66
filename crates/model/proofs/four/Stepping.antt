-- One coupon for kind 4: what it keeps, that it raises its register as any kind's does, and when there is no room. Assumes nothing.
use mathlib.Core.Path.{◌≡◌, refl, sym, ◌∙◌, ap, subst}
use mathlib.Core.Bool.{Bool, true, false}
use mathlib.Core.List.{List}
use Prim.Native.Nat.{ℕ, suc, ◌+◌, ◌-◌, ◌/◌, ◌^◌, ◌≤◌, ◌<◌}
use native.Mathlib.Nat.{mod-lt}
use native.Mathlib.Omega.{arith}
use lib.Dec.{leb, ltb}
use lib.ListN.{length, get_or, set}
use borrow.Author.Tests.{lt-leb, leb-true, leb-false, le-ltb, ltb-true, ltb-false}
use Rattle.model.specs.Pick.{pick}
use Rattle.model.specs.Coupon.{slot, value, home, word}
use Rattle.model.specs.Registers.{raise, least, above}
use Rattle.model.specs.Table.{used, replace, size_for, base_for}
use Rattle.model.specs.Steps.{Step, went, stopped, on_went}
use Rattle.model.specs.Four.{TableAt, State, state, put4, step4, settled, climbed, inserted, risen, NoRoom}
use Rattle.model.proofs.table.Order.{length_replace}
use Rattle.model.proofs.order.Sound.{Sound}
use Rattle.model.proofs.table.Sizes.{Sized, sized}
use Rattle.model.proofs.registers.Raising.{Small, length_raise, raise_small}
use Rattle.model.proofs.four.Raised.{raise_up, raise_not, raise_least}
use Rattle.model.proofs.four.Tables.{table_used, table_climb}
use Rattle.model.proofs.four.Moves.{move_plain, move_replace, move_insert, inserted_size}

not_both : {A : Type 0} (a : A) → went a ≡ stopped → ⊥
not_both a e = let z : ◌≡◌ {A = ℕ} 0 1 = cc in omega arith

went_same : {A : Type 0} (a b : A) → went a ≡ went b → a ≡ b
went_same a b e = cc

-- ---- the register is raised and the table follows, before any rise
pub record Placed (base room low : ℕ) (R : List ℕ) (s v : ℕ) (b : State) : Type 0 where
  pub raised : b.regs ≡ raise R s v
  pub table : TableAt base low b.regs b.table
  pub fits : length b.table ≤ room

module _ {base low : ℕ} (room : ℕ) {R t : List ℕ} (s v : ℕ) (ok : Sized base (length R)) (ta : TableAt base low R t) (inside : s < length R) (rises : get_or R s 0 < v) (small : v < 64) (fits : length t ≤ room) where
  pub put_went : (b : State) → put4 base room low R t s v ≡ went b → Placed base room low R s v b
  unfolding put4
  put_went b = go (ltb v (low + 15)) refl (leb (low + 15) (get_or R s 0)) refl (leb (size_for base (suc (used t))) room) refl
    where
      done : (u : List ℕ) → went (state (raise R s v) u) ≡ went b → TableAt base low (set R s v) u → length u ≤ room → Placed base room low R s v b
      done u q h l =
          subst (Placed base room low R s v) (went_same (state (raise R s v) u) b q)
          (record { raised = refl; table = subst (λ (x : List ℕ). TableAt base low x u) (raise_up R s v rises) h; fits = l })

      go : (x : Bool) → ltb v (low + 15) ≡ x → (y : Bool) → leb (low + 15) (get_or R s 0) ≡ y → (z : Bool) → leb (size_for base (suc (used t))) room ≡ z
          → pick x (went (state (raise R s v) t)) (pick y (went (state (raise R s v) (replace t (word s v)))) (pick z (went (state (raise R s v) (inserted base t (word s v)))) stopped)) ≡ went b → Placed base room low R s v b
      go true e y f z g q = done t q (move_plain s v ok ta inside rises small (ltb-true v (low + 15) e)) fits
      go false e true f z g q = done (replace t (word s v)) q (move_replace s v ok ta inside rises small (leb-true (low + 15) (get_or R s 0) f)) (rw length_replace fits)
      go false e false f true g q =
          let was = leb-false (low + 15) (get_or R s 0) f in
          let is = ltb-false v (low + 15) e in
          done (inserted base t (word s v)) q (move_insert s v ok ta inside rises small was is) (rw (inserted_size s v ok ta inside rises small was is) (leb-true (size_for base (suc (used t))) room g))
      go false e false f false g q = absurd (not_both b (sym q))

-- ---- the rises, one by one
pub settled_stay : (base low : ℕ) (R t : List ℕ) → low ≡ least R → settled base low R t ≡ state R t
unfolding settled climbed
settled_stay base low R t e = ap (λ (n : ℕ). state R (climbed base low n t)) (let z : least R - low ≡ 0 = omega arith in z)

pub settled_rise : (base low : ℕ) (R t : List ℕ) → low < least R → settled base low R t ≡ settled base (suc low) R (risen base (suc low) t)
unfolding settled climbed
settled_rise base low R t h = ap (λ (n : ℕ). state R (climbed base low n t)) (let z : least R - low ≡ suc (least R - suc low) = omega arith in z)

-- ---- one coupon
pub value_small : (c : ℕ) → value c < 64
value_small c = mod-lt (c / 2 ^ 26) (omega arith)

module _ (lgk room : ℕ) (a : State) (c : ℕ) (lo : 4 ≤ lgk) (hi : lgk ≤ 21) (sound : Sound 4 lgk room a) where
  pub sound_sized : Sized (base_for lgk) (length a.regs)
  sound_sized = subst (Sized (base_for lgk)) (sym sound.long) (sized lgk lo hi)

  abbrev s : ℕ
  s = home (length a.regs) c

  pub home_in : home (length a.regs) c < length a.regs
  home_in = mod-lt (slot c) sound_sized.some

  -- what a coupon leads to
  abbrev Stepped : State → Type 0
  Stepped b = Sound 4 lgk room b × (b.regs ≡ raise a.regs s (value c))

  settle : (b : State) → Placed (base_for lgk) room (least a.regs) a.regs s (value c) b → Stepped (settled (base_for lgk) (least a.regs) b.regs b.table)
  unfolding settled
  settle b p =
      let n : length b.regs ≡ length a.regs = ap length p.raised ∙ length_raise a.regs s (value c) in
      let small : Small b.regs = rw p.raised (raise_small a.regs s (value c) (omega (arith, value_small c)) sound.small) in
      let rises : least a.regs ≤ least b.regs = rw p.raised (raise_least a.regs s (value c)) in
      let (table, shorter) = table_climb (least a.regs) (least b.regs - least a.regs) b.table (subst (Sized (base_for lgk)) (sym n) sound_sized) small p.table in (
        record {
          long = n ∙ sound.long;
          small = small;
          table = λ e. subst (λ (l : ℕ). TableAt (base_for lgk) l b.regs (climbed (base_for lgk) (least a.regs) (least b.regs - least a.regs) b.table)) (omega arith) table;
          fits = λ e. omega (arith, p.fits);
          none = λ e. absurd (e refl);
        },
        p.raised,
      )

  step_went : (b : State) → step4 (base_for lgk) room a c ≡ went b → Stepped b
  unfolding step4
  step_went b = go (leb (value c) (get_or a.regs s 0)) refl (put4 (base_for lgk) room (least a.regs) a.regs a.table s (value c)) refl
    where
      go : (x : Bool) → leb (value c) (get_or a.regs s 0) ≡ x → (p : Step State) → put4 (base_for lgk) room (least a.regs) a.regs a.table s (value c) ≡ p
          → pick x (went a) (on_went (λ d. settled (base_for lgk) (least a.regs) d.regs d.table) p) ≡ went b → Stepped b
      go true e p f q = subst Stepped (went_same a b q) (sound, raise_not a.regs s (value c) (leb-true (value c) (get_or a.regs s 0) e))
      go false e (went d) f q =
          subst Stepped (went_same _ b q)
          (settle d (put_went room s (value c) sound_sized (sound.table refl) home_in (leb-false (value c) (get_or a.regs s 0) e) (value_small c) (sound.fits refl) d f))
      go false e stopped f q = absurd (not_both b (sym q))

  -- NO_ROOM, exactly when
  words : used a.table ≡ above (least a.regs + 15) a.regs
  words = table_used (sound.table refl) sound_sized.few

  no_room : step4 (base_for lgk) room a c ≡ stopped → NoRoom (base_for lgk) room a.regs s (value c)
  unfolding step4 put4
  no_room = go (leb (value c) (get_or a.regs s 0)) (ltb (value c) (least a.regs + 15)) refl (leb (least a.regs + 15) (get_or a.regs s 0)) refl (leb (size_for (base_for lgk) (suc (used a.table))) room) refl
    where
      go : (x y : Bool) → ltb (value c) (least a.regs + 15) ≡ y → (z : Bool) → leb (least a.regs + 15) (get_or a.regs s 0) ≡ z → (w : Bool) → leb (size_for (base_for lgk) (suc (used a.table))) room ≡ w
          → pick x (went a) (on_went (λ d. settled (base_for lgk) (least a.regs) d.regs d.table) (pick y (went (state (raise a.regs s (value c)) a.table))
          (pick z (went (state (raise a.regs s (value c)) (replace a.table (word s (value c))))) (pick w (went (state (raise a.regs s (value c)) (inserted (base_for lgk) a.table (word s (value c))))) stopped)))) ≡ stopped
          → NoRoom (base_for lgk) room a.regs s (value c)
      go true y e z f w g q = absurd (not_both _ q)
      go false true e z f w g q = absurd (not_both _ q)
      go false false e true f w g q = absurd (not_both _ q)
      go false false e false f true g q = absurd (not_both _ q)
      go false false e false f false g q = record {
        was = leb-false (least a.regs + 15) (get_or a.regs s 0) f;
        is = ltb-false (value c) (least a.regs + 15) e;
        short = rw words at (leb-false (size_for (base_for lgk) (suc (used a.table))) room g);
      }

  no_room_only : NoRoom (base_for lgk) room a.regs s (value c) → step4 (base_for lgk) room a c ≡ stopped
  unfolding step4 put4
  no_room_only n =
      let short : room < size_for (base_for lgk) (suc (used a.table)) = rw words n.short in
      rw (lt-leb (value c) (get_or a.regs s 0) (omega (arith, n.was, n.is)), le-ltb (value c) (least a.regs + 15) n.is, lt-leb (least a.regs + 15) (get_or a.regs s 0) n.was, lt-leb (size_for (base_for lgk) (suc (used a.table))) room short)

-- it raises its register, and the table follows
pub four_step : (lgk room : ℕ) (a b : State) (c : ℕ) → 4 ≤ lgk → lgk ≤ 21 → Sound 4 lgk room a → step4 (base_for lgk) room a c ≡ went b
    → Sound 4 lgk room b × (b.regs ≡ raise a.regs (home (2 ^ lgk) c) (value c))
four_step lgk room a b c lo hi sound e = let (t, r) = step_went lgk room a c lo hi sound b e in (t, r ∙ ap (λ (n : ℕ). raise a.regs (home n c) (value c)) sound.long)

-- a coupon finds no room exactly where it would make an exception for whose table the area is too small
module _ (lgk room : ℕ) (a : State) (c : ℕ) (lo : 4 ≤ lgk) (hi : lgk ≤ 21) (sound : Sound 4 lgk room a) where
  pub four_no_room : step4 (base_for lgk) room a c ≡ stopped → NoRoom (base_for lgk) room a.regs (home (2 ^ lgk) c) (value c)
  four_no_room e = subst (λ (n : ℕ). NoRoom (base_for lgk) room a.regs (home n c) (value c)) sound.long (no_room lgk room a c lo hi sound e)

  pub four_stopped : NoRoom (base_for lgk) room a.regs (home (2 ^ lgk) c) (value c) → step4 (base_for lgk) room a c ≡ stopped
  four_stopped n = no_room_only lgk room a c lo hi sound (subst (λ (n : ℕ). NoRoom (base_for lgk) room a.regs (home n c) (value c)) (sym sound.long) n)
