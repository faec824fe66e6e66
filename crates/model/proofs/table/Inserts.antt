-- Words inserted one after the other into a kept table. Assumes nothing.
use mathlib.Core.Path.{◌≡◌, refl, sym, ◌∙◌, ap}
use mathlib.Core.Logic.{◌⊎◌, inl, inr}
use mathlib.Core.List.{List, [], ◌∷◌, ◌++◌}
use Prim.Native.Nat.{ℕ, zero, suc, ◌+◌, ◌*◌, ◌^◌, ◌≤◌, ◌<◌, zero-le, suc-le-suc}
use native.Mathlib.Nat.{le_of_suc-le-suc, not-suc-le-zero, mul-le-mul_left}
use native.Mathlib.Omega.{arith}
use native.Mathlib.Decide.{dec_lt}
use lib.ListN.{length, get_or, take, drop}
use lib.Dec.{leb}
use lib.Pow.{pow_mono, pow_pos, pow-add}
use lib.Seq.{take-suc}
use borrow.Author.Tests.{le-leb, leb-true}
use Rattle.model.specs.Pick.{first}
use Rattle.model.specs.Table.{Member, Kept, word_at, used, insert, inserts, size_for}
use Rattle.model.specs.Coupon.{slot}
use Rattle.model.proofs.table.FirstLaws.{first_upto, first_holds, first_le}
use Rattle.model.proofs.table.Order.{reads_none}
use Rattle.model.proofs.table.Grown.{Distinct}
use Rattle.model.proofs.table.Inserted.{insert_kept, insert_used, insert_from, kept_room}

-- the words ws can be inserted into the table t, one after the other
pub record Insertables (base : ℕ) (t ws : List ℕ) : Type 0 where
  pub four : 4 ≤ base
  pub kept : Kept base t
  pub few : used t + length ws < 2 ^ 26
  pub some : (x : ℕ) → Member ws x → x ≡ 0 → ⊥
  pub distinct : Distinct ws
  pub apart : (x y : ℕ) → (x ≡ 0 → ⊥) → Member t x → Member ws y → slot x ≡ slot y → ⊥

module _ (base : ℕ) (t ws : List ℕ) (w : ℕ) (ok : Insertables base t (w ∷ ws)) where
  pub next_some : w ≡ 0 → ⊥
  next_some = ok.some w (zero, suc-le-suc zero-le, refl)

  pub next_absent : word_at t (slot w) ≡ 0
  next_absent = reads_none t (slot w) (kept_room base t ok.kept ok.four) (λ x hx q m. ok.apart x w hx m (zero, suc-le-suc zero-le, refl) q)

  pub next_kept : Kept base (insert t w)
  next_kept = insert_kept base t w ok.kept ok.four (omega (arith, ok.few)) next_some next_absent

  pub next_used : used (insert t w) ≡ suc (used t)
  next_used = insert_used base t w ok.kept ok.four (omega (arith, ok.few)) next_some next_absent

  pub next : Insertables base (insert t w) ws
  next = record {
    four = ok.four;
    kept = next_kept;
    few = omega (arith, ok.few, next_used);
    some = λ x m. ok.some x (suc m.0, suc-le-suc m.1, m.2);
    distinct = λ i j li lj hi hj e. let s : suc i ≡ suc j = ok.distinct (suc i) (suc j) (suc-le-suc li) (suc-le-suc lj) hi hj e in omega arith;
    apart = λ x y hx mx my e. apart' x y hx (insert_from base t w ok.kept ok.four (omega (arith, ok.few)) next_some next_absent x hx mx) my e;
  }
    where
      apart' : (x y : ℕ) → (x ≡ 0 → ⊥) → (x ≡ w) ⊎ Member t x → Member ws y → slot x ≡ slot y → ⊥
      apart' x y hx (inr mx) my e = ok.apart x y hx mx (suc my.0, suc-le-suc my.1, my.2) e
      apart' x y hx (inl i) my e =
          let twice : zero ≡ suc my.0 =
          ok.distinct zero (suc my.0) (suc-le-suc zero-le) (suc-le-suc my.1) next_some
          (λ z. ok.some y (suc my.0, suc-le-suc my.1, my.2) (sym my.2 ∙ z)) (ap slot (sym i) ∙ e ∙ ap slot (sym my.2)) in
          omega arith

-- after n of the words, the others can be inserted
pub prefix : (base n : ℕ) (t ws : List ℕ) → Insertables base t ws → n ≤ length ws → Insertables base (inserts t (take n ws)) (drop n ws)
unfolding inserts
prefix base zero t ws ok h = ok
prefix base (suc n) t [] ok h = absurd (not-suc-le-zero h)
prefix base (suc n) t (w ∷ ws) ok h = prefix base n (insert t w) ws (next base t ws w ok) (le_of_suc-le-suc h)

pub prefix_used : (base n : ℕ) (t ws : List ℕ) → Insertables base t ws → n ≤ length ws → used (inserts t (take n ws)) ≡ used t + n
unfolding inserts
prefix_used base zero t ws ok h = omega arith
prefix_used base (suc n) t [] ok h = absurd (not-suc-le-zero h)
prefix_used base (suc n) t (w ∷ ws) ok h = omega (arith, prefix_used base n (insert t w) ws (next base t ws w ok) (le_of_suc-le-suc h), next_used base t ws w ok)

inserts_snoc : (t ws : List ℕ) (w : ℕ) → inserts t (ws ++ (w ∷ [])) ≡ insert (inserts t ws) w
unfolding inserts
inserts_snoc t [] w = refl
inserts_snoc t (x ∷ ws) w = inserts_snoc (insert t x) ws w

pub inserts_more : (t ws : List ℕ) (n : ℕ) → n < length ws → inserts t (take (suc n) ws) ≡ insert (inserts t (take n ws)) (get_or ws n 0)
inserts_more t ws n h = ap (inserts t) (take-suc ws n 0 h) ∙ inserts_snoc t (take n ws) (get_or ws n 0)

-- more words, no smaller size
pub size_mono : (base c d : ℕ) → c ≤ d → size_for base c ≤ size_for base d
unfolding size_for
size_mono base c d h = mul-le-mul_left base (pow_mono (go (dec_lt (first (λ n. leb (4 * d) (3 * (base * 2 ^ n))) 32) 32)))
  where
    go : Dec (first (λ n. leb (4 * d) (3 * (base * 2 ^ n))) 32 < 32) → first (λ n. leb (4 * c) (3 * (base * 2 ^ n))) 32 ≤ first (λ n. leb (4 * d) (3 * (base * 2 ^ n))) 32
    go (no l) = omega (arith, first_le (λ n. leb (4 * c) (3 * (base * 2 ^ n))) 32)
    go (yes l) =
        let e : 4 * d ≤ 3 * (base * 2 ^ first (λ n. leb (4 * d) (3 * (base * 2 ^ n))) 32) = leb-true _ _ (first_holds (λ n. leb (4 * d) (3 * (base * 2 ^ n))) 32 l) in
        first_upto (λ n. leb (4 * c) (3 * (base * 2 ^ n))) 32 (first (λ n. leb (4 * d) (3 * (base * 2 ^ n))) 32)
        (le-leb (4 * c) (3 * (base * 2 ^ first (λ n. leb (4 * d) (3 * (base * 2 ^ n))) 32)) (omega arith))

-- the base doubled n times is small only where n is
pub few_doublings : (base n : ℕ) → 4 ≤ base → base * 2 ^ n < 2 ^ 28 → suc n < 32
few_doublings base n four h = go (dec_lt n 31)
  where
    go : Dec (n < 31) → suc n < 32
    go (yes l) = omega arith
    go (no l) = let big : 31 ≤ n = omega arith in let more : base * 2 ^ 31 ≤ base * 2 ^ n = mul-le-mul_left base (pow_mono big) in absurd (omega arith)

-- a size is at least the base
pub size_base : (base count : ℕ) → base ≤ size_for base count
unfolding size_for
size_base base count = omega (arith, mul-le-mul_left base (pow_pos (first (λ n. leb (4 * count) (3 * (base * 2 ^ n))) 32)))

-- and a power of two where the base is
pub size_power : (base count lg : ℕ) → base ≡ 2 ^ lg → (n : ℕ) × (size_for base count ≡ 2 ^ n)
unfolding size_for
size_power base count lg e =
    let d : ℕ = first (λ n. leb (4 * count) (3 * (base * 2 ^ n))) 32 in
    (lg + d, ap (λ (x : ℕ). x * 2 ^ d) e ∙ sym (pow-add 2 lg d))
