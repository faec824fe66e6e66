-- What the tests of good order ask, each both ways. Assumes nothing.
use mathlib.Core.Path.{◌≡◌, refl}
use mathlib.Core.Bool.{Bool, true, false}
use mathlib.Core.List.{List}
use Prim.Native.Nat.{ℕ, ◌+◌, ◌-◌, ◌^◌, ◌≤◌, ◌<◌}
use native.Mathlib.Decide.{ℕ_discrete}
use native.Mathlib.Omega.{arith}
use lib.ListN.{length, get_or, drop}
use Rattle.model.specs.Pick.{pick, Tells}
use Rattle.model.specs.Coupon.{value, slot}
use Rattle.model.specs.Registers.{count_of}
use Rattle.model.specs.Table.{base_for, table_size, place, used}
use Rattle.model.specs.Sketch.{cells, table_in}
use Rattle.model.specs.Check.{counts_fit, values_fit, spare_fits, tally_fits, word_fits, table_fits, good_of, scratch_fits}
use Rattle.model.specs.Claims.{Scratch}
use Rattle.model.specs.declared.Sketch.{Sketch}
use Rattle.model.proofs.packing.Packing.{length_unpacked}
use Rattle.model.proofs.order.Tells.{tells_pass, tells_as, tells_both, tells_le, tells_lt, tells_eq, tells_if, tells_unless, tells_all}

-- a test by another's answer
tells_pick : {P Q R : Type 0} (a b c : Bool) → Tells a P → Tells b Q → Tells c R → Tells (pick a b c) ((P → Q) × ((P → ⊥) → R))
tells_pick true b c x y z = ((λ e. ((λ p. y.0 e), λ f. absurd (f (x.0 refl)))), λ e q. y.1 e (q.0 (x.0 refl)))
tells_pick false b c x y z = ((λ e. ((λ p. absurd (x.1 refl p)), λ f. z.0 e)), λ e q. z.1 e (q.1 (x.1 refl)))

-- a sketch has k cells
pub cells_long : (s : Sketch) (regs : List ℕ) → length (cells s regs) ≡ 2 ^ s.lg_k
unfolding cells
cells_long s regs = length_unpacked s.kind (2 ^ s.lg_k) regs

-- ---- the four tests that opening makes too
pub record CountsFit (s : Sketch) : Type 0 where
  pub num : s.num_at_cur_min ≤ 2 ^ s.lg_k
  pub count : s.aux_count ≤ 2 ^ s.lg_k
  pub low : s.kind ≡ 4 → s.cur_min ≤ 63
  pub none : (s.kind ≡ 4 → ⊥) → (s.cur_min ≡ 0) × (s.aux_count ≡ 0)

pub counts_tells : (s : Sketch) → Tells (counts_fit s) (CountsFit s)
unfolding counts_fit
counts_tells s =
    tells_as _ (λ p. record { num = p.0; count = p.1.0; low = p.1.1.0; none = p.1.1.1 }) (λ h. (h.num, (h.count, (h.low, h.none))))
    (tells_both _ _ (tells_le s.num_at_cur_min (2 ^ s.lg_k))
    (tells_both _ _ (tells_le s.aux_count (2 ^ s.lg_k))
    (tells_pick _ _ _ (tells_eq s.kind 4) (tells_le s.cur_min 63) (tells_both _ _ (tells_eq s.cur_min 0) (tells_eq s.aux_count 0)))))

pub cur_min_most : (s : Sketch) → CountsFit s → s.cur_min ≤ 63
cur_min_most s c = go (ℕ_discrete s.kind 4)
  where
    go : Dec (s.kind ≡ 4) → s.cur_min ≤ 63
    go (yes e) = c.low e
    go (no e) = omega (arith, (c.none e).0)

pub values_tells : (s : Sketch) (regs : List ℕ)
    → Tells (values_fit s regs) ((i : ℕ) → i < length (cells s regs) → ((s.kind ≡ 4) × (get_or (cells s regs) i 0 ≡ 15) → ⊥) → s.cur_min + get_or (cells s regs) i 0 ≤ 63)
unfolding values_fit
values_tells s regs =
    tells_all _ _ (length (cells s regs)) (λ i.
    tells_unless _ _ (tells_both _ _ (tells_eq s.kind 4) (tells_eq (get_or (cells s regs) i 0) 15)) (tells_le (s.cur_min + get_or (cells s regs) i 0) 63))

pub spare_tells : (s : Sketch) (regs : List ℕ) → Tells (spare_fits s regs) (s.kind ≡ 6 → get_or regs (length regs - 1) 0 ≡ 0)
unfolding spare_fits
spare_tells s regs = tells_if _ _ (tells_eq s.kind 6) (tells_eq (get_or regs (length regs - 1) 0) 0)

pub tally_tells : (s : Sketch) (regs : List ℕ) → Tells (tally_fits s regs) ((s.num_at_cur_min ≡ count_of 0 (cells s regs)) × (s.kind ≡ 4 → 0 < s.num_at_cur_min))
unfolding tally_fits
tally_tells s regs = tells_both _ _ (tells_eq s.num_at_cur_min (count_of 0 (cells s regs))) (tells_if _ _ (tells_eq s.kind 4) (tells_lt 0 s.num_at_cur_min))

pub scratch_tells : (kind : ℕ) (aux scratch : List ℕ) → Tells (scratch_fits kind (length aux) (length scratch)) (Scratch kind aux scratch)
unfolding scratch_fits
scratch_tells kind aux scratch = tells_if _ _ (tells_eq kind 4) (tells_le (length aux) (length scratch))

pub scratch_asks : (kind aux scratch : ℕ) → scratch_fits kind aux scratch ≡ true → kind ≡ 4 → aux ≤ scratch
unfolding scratch_fits
scratch_asks kind aux scratch = (tells_if _ _ (tells_eq kind 4) (tells_le aux scratch)).0

-- ---- kind 4's exception table
-- at cur_min low, the word w is of a slot whose nibble is 15, and high enough
pub record WordFits (low : ℕ) (nibbles : List ℕ) (w : ℕ) : Type 0 where
  pub inside : slot w < length nibbles
  pub token : get_or nibbles (slot w) 0 ≡ 15
  pub high : low + 15 ≤ value w
  pub whole : w < 2 ^ 32

pub record TableFits (s : Sketch) (regs aux : List ℕ) : Type 0 where
  pub fits : table_size (base_for s.lg_k) s.aux_count ≤ length aux
  pub many : used (table_in s aux) ≡ s.aux_count
  pub marked : count_of 15 (cells s regs) ≡ s.aux_count
  pub behind : used (drop (table_size (base_for s.lg_k) s.aux_count) aux) ≡ 0
  pub words : (p : ℕ) → p < length (table_in s aux) → (get_or (table_in s aux) p 0 ≡ 0 → ⊥)
      → WordFits s.cur_min (cells s regs) (get_or (table_in s aux) p 0) × (place (table_in s aux) (slot (get_or (table_in s aux) p 0)) ≡ p)

word_tells : (s : Sketch) (regs : List ℕ) (w : ℕ) → Tells (word_fits s regs w) (WordFits s.cur_min (cells s regs) w)
unfolding word_fits
word_tells s regs w =
    tells_as _ (λ (p : (slot w < 2 ^ s.lg_k) × ((get_or (cells s regs) (slot w) 0 ≡ 15) × ((s.cur_min + 15 ≤ value w) × (w < 2 ^ 32)))).
    record { inside = rw cells_long p.0; token = p.1.0; high = p.1.1.0; whole = p.1.1.1 }) (λ h. (rw cells_long at h.inside, (h.token, (h.high, h.whole))))
    (tells_both _ _ (tells_lt (slot w) (2 ^ s.lg_k))
    (tells_both _ _ (tells_eq (get_or (cells s regs) (slot w) 0) 15)
    (tells_both _ _ (tells_le (s.cur_min + 15) (value w)) (tells_lt w (2 ^ 32)))))

pub table_tells : (s : Sketch) (regs aux : List ℕ) → Tells (table_fits s regs aux) (TableFits s regs aux)
unfolding table_fits
table_tells s regs aux =
    let t = table_in s aux in
    let size = table_size (base_for s.lg_k) s.aux_count in
    tells_as _ (λ p. record { fits = p.0; many = p.1.0; marked = p.1.1.0; behind = p.1.1.1.0; words = p.1.1.1.1 })
    (λ h. (h.fits, (h.many, (h.marked, (h.behind, h.words)))))
    (tells_both _ _ (tells_le size (length aux))
    (tells_both _ _ (tells_eq (used t) s.aux_count)
    (tells_both _ _ (tells_eq (count_of 15 (cells s regs)) s.aux_count)
    (tells_both _ _ (tells_eq (used (drop size aux)) 0)
    (tells_all _ _ (length t) (λ p.
    tells_unless _ _ (tells_eq (get_or t p 0) 0) (tells_both _ _ (word_tells s regs (get_or t p 0)) (tells_eq (place t (slot (get_or t p 0))) p))))))))

-- ---- all of them
pub record Passes (s : Sketch) (regs aux : List ℕ) : Type 0 where
  pub counts : counts_fit s ≡ true
  pub values : values_fit s regs ≡ true
  pub spare : spare_fits s regs ≡ true
  pub tally : tally_fits s regs ≡ true
  pub table : s.kind ≡ 4 → table_fits s regs aux ≡ true

pub good_asks : (s : Sketch) (regs aux : List ℕ) → Tells (good_of s regs aux) (Passes s regs aux)
unfolding good_of
good_asks s regs aux =
    tells_as _ (λ p. record { counts = p.0; values = p.1.0; spare = p.1.1.0; tally = p.1.1.1.0; table = p.1.1.1.1 })
    (λ h. (h.counts, (h.values, (h.spare, (h.tally, h.table)))))
    (tells_both _ _ (tells_pass (counts_fit s))
    (tells_both _ _ (tells_pass (values_fit s regs))
    (tells_both _ _ (tells_pass (spare_fits s regs))
    (tells_both _ _ (tells_pass (tally_fits s regs)) (tells_if _ _ (tells_eq s.kind 4) (tells_pass (table_fits s regs aux)))))))
