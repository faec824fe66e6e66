-- Floors: a block of them, what a loop over all of them asks, and what it leaves where it pours them in; and the words that they lack. Assumes nothing.
use mathlib.Core.Path.{◌≡◌, refl, sym, ap, ap₂, ◌∙◌}
use mathlib.Core.List.{List, [], ◌∷◌, map}
use mathlib.Core.Logic.{◌⊎◌, inl, inr}
use Prim.Native.Nat.{ℕ, zero, suc, min, ◌+◌, ◌*◌, ◌/◌, ◌%◌, ◌^◌, ◌≤◌, ◌<◌}
use native.Mathlib.Nat.{le_refl, zero-add, mod_self, min-eq_left, min-eq_right}
use native.Mathlib.Omega.{arith}
use native.Mathlib.Decide.{ℕ_discrete, dec_lt}
use lib.ListN.{length, get_or, take, drop, replicate, length-map}
use lib.Seq.{take_all, length-take-le}
use lib.Pow.{pow_mono, pow-lt, pow_pos}
use borrow.Author.Tests.{ne_eqb}
use Rattle.model.specs.Registers.{fed, poured}
use Rattle.model.specs.Packed.{slot_at}
use Rattle.model.specs.Table.{base_for, table_size}
use Rattle.model.specs.Sketch.{low_of, record_of, cells, floors, table_in, Good}
use Rattle.model.specs.declared.Sketch.{Sketch}
use Rattle.model.proofs.packing.Packing.{get_or_unpacked, slot_lt}
use Rattle.model.proofs.order.Tests.{cells_long}
use Rattle.model.proofs.packing.Lengths.{six_or_eight}
use Rattle.array4_read.proofs.Held as held
use Rattle.array8.specs.Asked.{Power, Blocked}
use Rattle.model.proofs.registers.Turns.{poured_append}
use Rattle.blocks.specs.Asked.{Level, Liftable, Floor, Long, PourableBy, Worded}
use Rattle.blocks.proofs.Turns.{past, past_mod, start_mod, block_start, block_inside, block_next, blocks_end, turn_long, turn_at, turn_left}

map_take : (f : ℕ → ℕ) (n : ℕ) (l : List ℕ) → map f (take n l) ≡ take n (map f l)
map_take f zero l = refl
map_take f (suc n) [] = refl
map_take f (suc n) (x ∷ l) = ap (λ (r : List ℕ). f x ∷ r) (map_take f n l)

map_drop : (f : ℕ → ℕ) (n : ℕ) (l : List ℕ) → map f (drop n l) ≡ drop n (map f l)
map_drop f zero l = refl
map_drop f (suc n) [] = refl
map_drop f (suc n) (x ∷ l) = map_drop f n l

pub floors_long : (s : Sketch) (regs : List ℕ) → length (floors s regs) ≡ 2 ^ s.lg_k
unfolding floors
floors_long s regs = length-map (cells s regs) (◌+◌ s.cur_min) ∙ cells_long s regs

-- a sketch in good order has a cur_min above which each cell is within a byte
pub good_level : (s : Sketch) (regs aux : List ℕ) → Good s regs aux → Level s (length regs)
unfolding record_of low_of
good_level s regs aux g = record { shaped = g.shaped; low = go (ℕ_discrete s.kind 4); none = none }
  where
    none : (s.kind ≡ 4 → ⊥) → s.cur_min ≡ 0
    none h = ap (λ x. x.cur_min) g.record_is ∙ rw (ne_eqb s.kind 4 h)

    go : Dec (s.kind ≡ 4) → s.cur_min ≤ 63
    go (yes e) = held.low_most s regs aux e g
    go (no h) = omega (arith, none h)

-- ---- cells, lifted
module _ (s : Sketch) (regs : List ℕ) {n : ℕ} (v : Level s n) where
  cell_most : (i : ℕ) → s.cur_min + slot_at s.kind regs i < 256
  cell_most i = go (ℕ_discrete s.kind 4)
    where
      plain : (s.kind ≡ 6) ⊎ (s.kind ≡ 8) → s.kind ≤ 8
      plain (inl e) = omega arith
      plain (inr e) = omega arith

      go : Dec (s.kind ≡ 4) → s.cur_min + slot_at s.kind regs i < 256
      go (yes e) = rw e (omega (arith, slot_lt 4 regs i, v.low))
      go (no h) = let wide : 2 ^ s.kind ≤ 2 ^ 8 = pow_mono (plain (six_or_eight s.kind v.shaped.kind_known h)) in omega (arith, slot_lt s.kind regs i, v.none h)

  cell_fits : (i : ℕ) → i < 2 ^ s.lg_k → s.cur_min + get_or (cells s regs) i 0 < 256
  unfolding cells
  cell_fits i l = omega (arith, cell_most i, get_or_unpacked s.kind (2 ^ s.lg_k) regs i l)

map_zero : (l : List ℕ) → map (◌+◌ 0) l ≡ l
map_zero [] = refl
map_zero (x ∷ l) = ap₂ ◌∷◌ (zero-add x) (map_zero l)

-- m of them
module _ (s : Sketch) (regs : List ℕ) {n from m : ℕ} (b : Floor s n from m) {raw : List ℕ} (read : raw ≡ take m (drop from (cells s regs))) where
  cells_end : from + m ≤ length (cells s regs)
  cells_end = rw (cells_long s regs) b.within.inside

  pub block_fits : Liftable s.cur_min raw
  block_fits = record {
    fits = λ i l.
        let h : i < m = omega (arith, turn_long (cells s regs) from m cells_end read) in
        omega (arith, turn_at (cells s regs) from m cells_end read i h, cell_fits s regs b.level (from + i) (omega (arith, b.within.inside)));
  }

  pub block_floors : {after : List ℕ} → after ≡ map (◌+◌ s.cur_min) raw → after ≡ take m (drop from (floors s regs))
  unfolding floors
  block_floors q =
      let f = ◌+◌ s.cur_min in
      q ∙ ap (map f) read ∙ map_take f m (drop from (cells s regs)) ∙ ap (take m) (map_drop f from (cells s regs))

  -- at cur_min 0 they are the cells
  pub block_low : s.cur_min ≡ 0 → raw ≡ take m (drop from (floors s regs))
  block_low e = block_floors (rw e (sym (map_zero raw)))

-- all of them are a block
pub whole_floor : {s : Sketch} {n u : ℕ} → Level s n → u ≡ 2 ^ s.lg_k → Floor s n 0 u
whole_floor v e = record { level = v; within = record { shaped = v.shaped; start = refl; long = rw e (start_mod v.shaped.low (2 ^ _) (mod_self (2 ^ _))); inside = omega arith } }

pub whole_floors : (s : Sketch) (regs : List ℕ) {u : ℕ} {out : List ℕ} → u ≡ 2 ^ s.lg_k → out ≡ take u (drop 0 (floors s regs)) → out ≡ floors s regs
whole_floors s regs {u} e q = q ∙ take_all u (floors s regs) (omega (arith, floors_long s regs))

-- ---- block by block
long_whole : {k : ℕ} (p : Power k) → 4 ≤ p.lg → k < 256 → Long p.lg k
long_whole p h small = record { run = p.lg; power = p.power; least = h; most = le_refl p.lg; small = omega arith }

long_part : {k : ℕ} (p : Power k) → 256 ≤ k → Long p.lg 256
long_part {k} p large = record { run = 8; power = refl; least = omega arith; most = go (dec_lt p.lg 8); small = le_refl 256 }
  where
    go : Dec (p.lg < 8) → 8 ≤ p.lg
    go (yes h) = absurd (omega (arith, p.power, pow-lt h))
    go (no h) = omega arith

pub long_least : {k : ℕ} (p : Power k) → 4 ≤ p.lg → Long p.lg (min k 256)
long_least {k} p h = go (dec_lt k 256)
  where
    go : Dec (k < 256) → Long p.lg (min k 256)
    go (yes small) = rw (min-eq_left {n = k} {m = 256} (omega arith)) (long_whole p h small)
    go (no large) = rw (min-eq_right {n = 256} {m = k} (omega arith)) (long_part p (omega arith))

-- the front of a buffer that has room for any such block
pub buffer_long : {lg m : ℕ} → Long lg m → m ≡ length (take {A = ℕ} m (replicate 256 0))
buffer_long {m = m} l = sym (length-take-le {A = ℕ} m (replicate 256 0) l.small)

-- a turn of a loop over all floors in blocks of m: the b-th, read into a buffer of length u
pub record Turn (s : Sketch) (n m b u : ℕ) : Type 0 where
  pub level : Level s n
  pub long : Long s.lg_k m
  pub inside : b < 2 ^ s.lg_k / m
  pub len : u ≡ m

pub long_some : {lg m : ℕ} → Long lg m → 0 < m
long_some l = rw l.power (pow_pos l.run)

-- after the last one
pub long_end : {lg m k : ℕ} → Long lg m → k ≡ 2 ^ lg → (b : ℕ) → k / m ≤ b → 2 ^ lg ≤ b * m
long_end l many b h = rw (← many) (blocks_end l.most b _ _ l.power many h)

module _ {s : Sketch} {n m b u : ℕ} (w : Turn s n m b u) where
  starts : b * m % 2 ^ w.long.run ≡ 0
  starts = rw (← w.long.power) (block_start b m)

  turn_past : b * m + m ≤ 2 ^ s.lg_k
  turn_past = let h = past w.long.most (b * m) starts (block_inside b m (2 ^ s.lg_k) (long_some w.long) w.inside) in omega (arith, w.long.power)

  pub turn_few : b * m + m ≤ 2 ^ 21
  turn_few = omega (arith, turn_past, pow_mono w.level.shaped.high)

  turn_sixteens : m % 16 ≡ 0
  turn_sixteens = rw w.long.power (start_mod w.long.least (2 ^ w.long.run) (mod_self (2 ^ w.long.run)))

  pub turn_floor : Floor s n (b * m) u
  turn_floor = rw w.len (record { level = w.level; within = record { shaped = w.level.shaped; start = start_mod w.long.least (b * m) starts; long = turn_sixteens; inside = turn_past } })

  pub floors_end : (regs : List ℕ) → b * m + u ≤ length (floors s regs)
  floors_end regs = rw (floors_long s regs) turn_floor.within.inside

-- ---- poured into a target
long_le : {lg lgk m : ℕ} → Long lg m → lg ≤ lgk → Long lgk m
long_le l le = record { run = l.run; power = l.power; least = l.least; most = omega (arith, l.most); small = l.small }

pub pour_long : {s : Sketch} {n m t : ℕ} → PourableBy s n m t → Long s.lg_k m
pour_long p = long_le p.long p.pourable.coarser

module _ {s : Sketch} {n m t b u : ℕ} (p : PourableBy s n m t) (w : Turn s n m b u) (regs : List ℕ) {out : List ℕ} (read : out ≡ take u (drop (b * m) (floors s regs))) where
  abbrev F : List ℕ
  F = floors s regs

  out_long : length out ≡ u
  out_long = turn_long F (b * m) u (floors_end w regs) read

  pub pour_block : {v : ℕ} → v ≡ t → Blocked v (b * m) (length out)
  pour_block e = record {
    target = record { lg = p.pourable.target.lg; power = e ∙ p.pourable.target.power };
    inside = let h = past_mod p.long.most (b * m) (rw (← p.long.power) (block_start b m)) in rw (out_long, w.len, e, p.pourable.target.power) (omega (arith, h, p.long.power));
  }

  -- T before this block and S after it; what is left to pour in leads to all
  pub pour_next : (T S all : List ℕ) → length T ≡ t → S ≡ poured (length T) T (b * m) out → poured t T (b * m) (drop (b * m) (floors s regs)) ≡ all
      → poured t S ((b + 1) * m) (drop ((b + 1) * m) (floors s regs)) ≡ all
  pour_next T S all size e q =
      let end = floors_end w regs in
      let from = b * m in
      ap (λ (i : ℕ). poured t S i (drop i F)) (sym (block_next b m w.len))
      ∙ ap (λ (x : List ℕ). poured t x (from + u) (drop (from + u) F)) (e ∙ ap (λ (i : ℕ). poured i T from out) size)
      ∙ ap (λ (i : ℕ). poured t (poured t T from out) (from + i) (drop (from + u) F)) (sym out_long)
      ∙ sym (poured_append t T from out (drop (from + u) F)) ∙ ap (poured t T from) (sym (turn_left F from u end read)) ∙ q

-- ---- the words
pub good_worded : (s : Sketch) (regs aux : List ℕ) {n : ℕ} → Good s regs aux → Power n → Worded s (length aux) n
good_worded s regs aux g t = record { tabulated = λ e. held.tabulated s regs aux e g; table = λ e. held.size_fits s regs aux e g; target = t }

module _ (s : Sketch) (aux target : List ℕ) where
  pub words_four : {after : List ℕ} {size : ℕ} → s.kind ≡ 4 → size ≡ table_size (base_for s.lg_k) s.aux_count → after ≡ fed (length target) target (take size aux) → after ≡ fed (length target) target (table_in s aux)
  unfolding table_in
  words_four e q h = rw e (h ∙ ap (λ (n : ℕ). fed (length target) target (take n aux)) q)

  pub words_none : (s.kind ≡ 4 → ⊥) → target ≡ fed (length target) target (table_in s aux)
  unfolding table_in fed
  words_none h = rw (ne_eqb s.kind 4 h)
