-- Floors counted block by block, and then the words of the table: what each step asks and leaves. Assumes nothing.
use mathlib.Core.Path.{◌≡◌, refl, ap, ◌∙◌, subst}
use mathlib.Core.Bool.{Bool, true, false}
use mathlib.Core.List.{List, ◌++◌}
use Prim.Native.Nat.{ℕ, ◌+◌, ◌*◌, ◌^◌, ◌≤◌, ◌<◌}
use native.Mathlib.Omega.{arith}
use lib.Dec.{eqb, lit<}
use lib.ListN.{replicate, length, get_or, take, drop, length-map}
use lib.Pow.{pow_mono}
use lib.Seq.{take_all, length-take-le}
use borrow.Author.Tests.{eq-eqb, ne_eqb}
use Rattle.model.specs.Pick.{pick}
use Rattle.model.specs.Coupon.{value}
use Rattle.model.specs.Registers.{fed}
use Rattle.model.specs.Table.{keeps}
use Rattle.model.specs.Sketch.{floors, table_in, registers, Good}
use Rattle.model.specs.declared.Sketch.{Sketch}
use Rattle.model.proofs.registers.Lowest.{count_append}
use Rattle.model.proofs.table.Sifted.{keeps_few}
use Rattle.model.proofs.calls.Has.{registers_long}
use Rattle.model.proofs.registers.Floors.{good_floored, fed_floors}
use Rattle.model.proofs.registers.FloorCounts.{counts_moved, floor_small}
use Rattle.sums.specs.Tally as sums
use Rattle.sums.specs.Tally.{Counted, FewCounted, Room, said, CountedWords, Less}
use Rattle.sums.proofs.Tallies.{counted_none}
use Rattle.array4_read.proofs.Held as held
use Rattle.blocks.proofs.Turns.{block_next, turn_long, turn_at, turn_taken}
use Rattle.blocks.proofs.Levels.{floors_long, good_level, Turn, turn_few, floors_end}
use Rattle.block_counts.specs.Asked.{Small, Countable}

-- ---- floors
module _ {s : Sketch} {regs seen : List ℕ} {m b u : ℕ} (ask : Countable s regs m seen) (w : Turn s (length regs) m b u) {cs out : List ℕ} (inv : Counted (take (b * m) (floors s regs)) cs) (read : out ≡ take u (drop (b * m) (floors s regs))) where
  abbrev F : List ℕ
  F = floors s regs

  end : b * m + u ≤ length F
  end = floors_end w regs

  pub turn_asks : sums.Countable cs out
  turn_asks =
      let long = turn_long F (b * m) u end read in
      record {
        room = record { regs = take (b * m) F; counted = inv; few = omega (arith, length-take-le (b * m) F (omega (arith, end)), long, w.len, turn_few w) };
        small = λ i l. omega (arith, turn_at F (b * m) u end read i (omega (arith, long)), ask.flat.small (b * m + i) (omega (arith, end, long)));
      }

  pub turn_counts : {next : List ℕ} → ((Q : List ℕ) → Counted Q cs → Counted (Q ++ out) next) → Counted (take ((b + 1) * m) (floors s regs)) next
  turn_counts {next} counts = subst (λ (l : List ℕ). Counted l next) (turn_taken F (b * m) u end read ∙ ap (λ (n : ℕ). take n F) (block_next b m w.len)) (counts (take (b * m) F) inv)

pub turns_end : (s : Sketch) (regs : List ℕ) (from : ℕ) {cs : List ℕ} → 2 ^ s.lg_k ≤ from → Counted (take from (floors s regs)) cs → Counted (floors s regs) cs
turns_end s regs from {cs} past inv = subst (λ (l : List ℕ). Counted l cs) (take_all from (floors s regs) (omega (arith, floors_long s regs))) inv

-- ---- words
module _ (s : Sketch) (regs aux : List ℕ) (g : Good s regs aux) where
  abbrev R : List ℕ
  R = registers s regs aux

  pub good_small : Small s regs (replicate 64 0)
  good_small = record {
    none = counted_none;
    level = good_level s regs aux g;
    small = λ i l.
        let d : i < 2 ^ s.lg_k = rw (floors_long s regs) at l in
        omega (arith, (good_floored s regs aux g).under i d, g.small i (rw (registers_long s regs aux g) d));
  }

  -- counts of so few registers that they fit
  pub good_few : {cs : List ℕ} → Counted (registers s regs aux) cs → FewCounted cs
  good_few k = record { regs = registers s regs aux; counted = k; few = rw (registers_long s regs aux g) (pow_mono g.shaped.high) }

  -- kinds 6 and 8 have no words
  pub plain_counted : {cs : List ℕ} → (s.kind ≡ 4 → ⊥) → Counted (floors s regs) cs → Counted (registers s regs aux) cs
  unfolding table_in fed
  plain_counted {cs} h k = subst (λ (l : List ℕ). Counted l cs) (rw (ne_eqb s.kind 4 h) at (fed_floors (good_floored s regs aux g))) k

  module _ (four : s.kind ≡ 4) {cs : List ℕ} (k : Counted (floors s regs) cs) {t : List ℕ} (front : t ≡ table_in s aux) where
    kept_few : length (said (table_in s aux)) ≤ 2 ^ s.lg_k
    kept_few =
        let q = length-map (keeps 1 (table_in s aux)) value in
        omega (arith, keeps_few 1 (table_in s aux) (lit< tt), held.count_is s regs aux four g, (held.tabulated s regs aux four g).few)

    pub words_room : Room cs (length (said t))
    words_room = record { regs = floors s regs; counted = k; few = rw front (omega (arith, floors_long s regs, pow_mono g.shaped.high, kept_few)) }

    module _ {next : List ℕ} {moved : ℕ} (words : CountedWords cs t next moved) where
      counted : Counted (floors s regs ++ said (table_in s aux)) next
      counted = rw front at (words.counted (floors s regs) k)

      many : moved ≡ length (keeps 1 (table_in s aux))
      many = (rw front at words.many_are) ∙ length-map (keeps 1 (table_in s aux)) value

      moves : Less (s.cur_min + 15) moved (floors s regs ++ said (table_in s aux)) (registers s regs aux)
      moves x = rw (count_append x (floors s regs) (said (table_in s aux)), many) (counts_moved s regs aux g four x)

      -- no exception
      pub none_moved : moved ≡ 0 → Counted (registers s regs aux) next
      none_moved z = record { size = counted.size; each = λ v h. counted.each v h ∙ (let q = moves v in omega (arith, none_picked (eqb (s.cur_min + 15) v))) }
        where
          none_picked : (b : Bool) → pick b moved 0 ≡ 0
          none_picked true = z
          none_picked false = refl

      -- some: their floor is a value that a register can have
      module _ (some : moved ≡ 0 → ⊥) where
        pub top_is : s.cur_min + 15 < 64
        top_is = floor_small s regs aux g four (omega (arith, many, some))

        pub top_many : moved ≤ get_or next (s.cur_min + 15) 0
        top_many = omega (arith, counted.each (s.cur_min + 15) top_is, rw (eq-eqb (s.cur_min + 15) (s.cur_min + 15) refl) at (moves (s.cur_min + 15)))

        pub words_moved : {last : List ℕ} → ((L M : List ℕ) → Counted L next → Less (s.cur_min + 15) moved L M → Counted M last) → Counted (registers s regs aux) last
        words_moved out = out (floors s regs ++ said (table_in s aux)) (registers s regs aux) counted moves
