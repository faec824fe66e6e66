-- An image that passed: what the functions that make its area ask, and that area. Assumes nothing.
use mathlib.Core.Path.{◌≡◌, sym, ◌∙◌, ap, ap₂, subst}
use mathlib.Core.List.{List, map}
use Prim.Native.Nat.{ℕ, ◌+◌, ◌-◌, ◌^◌, ◌≤◌}
use native.Mathlib.Decide.{ℕ_discrete}
use native.Mathlib.Omega.{arith}
use lib.ListN.{length, take, drop, replicate, length-map, length-replicate}
use borrow.Author.Tests.{eq-eqb, ne_eqb}
use Rattle.model.specs.Packed.{unpacked}
use Rattle.model.specs.Table.{base_for, table_size, filled, made, laid, Makable}
use Rattle.model.specs.Sketch.{bytes_of, area_of, cells}
use Rattle.model.specs.Image.{sketch_in, regs_in, entries_in, homed, form_no}
use Rattle.model.specs.declared.Sketch.{Sketch}
use Rattle.model.proofs.order.Tests.{scratch_asks}
use Rattle.model.proofs.table.Sizes.{sized}
use Rattle.model.proofs.table.Inserted.{size_fits}
use Rattle.model.proofs.table.Shape.{size_some}
use Rattle.model.proofs.image.Entries.{AuxFits}
use Rattle.model.proofs.image.SameSlots.{aux_fits}
use Rattle.model.proofs.image.Taken.{taken_words}
use Rattle.model.proofs.image.Opens.{Opens, form_says, counts_says, open_says}
use Rattle.aux_map.proofs.Bases.{based}
use Rattle.aux_table.specs.Build.{Buildable}
use Rattle.image_words.specs.Entries.{Collectable, Collected}
use Rattle.image_header.specs.Header.{record_in, words_in}
use Rattle.image_header.specs.declared.Image.{Image}
use Rattle.image_header.proofs.Headers.{record_is, words_are}
use Rattle.image_check.specs.Passed.{Sound}
use Rattle.image_check.proofs.Passing.{formed, payload_here}
use Rattle.image_check.proofs.Payload.{words_part, words_long}
use Rattle.image_load.specs.Loaded.{Accepted}

-- the area that another kind leaves
pub area_other : (kind : ℕ) (t aux : List ℕ) → (kind ≡ 4 → ⊥) → aux ≡ area_of kind t aux
unfolding area_of
area_other kind t aux h = rw (ne_eqb kind 4 h)

module _ (i : Image) (aux scratch : ℕ) (ok : Accepted i aux scratch) where
  -- the rungs
  opens : Opens i.bytes.now ok.regs aux scratch
  opens = (open_says _ _ _ _).0 ok.passed

  abbrev s : Sketch
  s = record_in i.header

  pub is_in : record_in i.header ≡ sketch_in i.bytes.now
  is_in = record_is i.bytes.now i.header i.headed

  pub sound : Sound i
  sound =
      record {
        formed = record { form = subst (λ (r : Sketch). form_no r.kind r.lg_k ≡ 0) (sym is_in) ((form_says _ _).1 (opens.known, opens.sized)) };
        counts = (counts_says i.bytes.now).1 opens.counted;
      }

  pub low : 4 ≤ i.header.lg_k
  low = (formed sound.formed).1.0

  pub high : i.header.lg_k ≤ 21
  high = (formed sound.formed).1.1

  -- the register buffer has the image's size
  pub regs_size : ok.regs ≡ bytes_of i.header.kind i.header.lg_k
  regs_size = opens.lent ∙ ap (λ (r : Sketch). bytes_of r.kind r.lg_k) (sym is_in)

  module _ (four : i.header.kind ≡ 4) where
    listed_in : AuxFits (2 ^ s.lg_k) s.cur_min s.aux_count (cells s (regs_in i.bytes.now)) (entries_in i.bytes.now)
    listed_in =
        subst (λ (r : Sketch). AuxFits (2 ^ r.lg_k) r.cur_min r.aux_count (cells r (regs_in i.bytes.now)) (entries_in i.bytes.now)) (sym is_in)
        (aux_fits i.bytes.now (ap (λ (r : Sketch). r.kind) (sym is_in) ∙ four) opens.bodied.entries)

    abbrev ws : List ℕ
    ws = map (homed (2 ^ s.lg_k)) (entries_in i.bytes.now)

    makable : Makable ws
    makable = taken_words s (regs_in i.bytes.now) (entries_in i.bytes.now) listed_in (sized s.lg_k low high)

    many_ws : length ws ≡ s.aux_count
    many_ws = length-map (entries_in i.bytes.now) (homed (2 ^ s.lg_k)) ∙ listed_in.many

    fits : table_size (base_for s.lg_k) s.aux_count ≤ aux
    fits = subst (λ (r : Sketch). table_size (base_for r.lg_k) r.aux_count ≤ aux) (sym is_in) opens.room

    spared : aux ≤ scratch
    spared = scratch_asks _ _ _ opens.scratched (ap (λ (r : Sketch). r.kind) (sym is_in) ∙ four)

    -- a table has more words than entries
    count_fits : s.aux_count ≤ aux
    count_fits = go (ℕ_discrete s.aux_count 0)
      where
        go : Dec (s.aux_count ≡ 0) → s.aux_count ≤ aux
        go (yes z) = omega arith
        go (no z) =
            omega (arith, fits, size_some (base_for s.lg_k) s.aux_count (omega arith), size_fits (base_for s.lg_k) s.aux_count (omega (arith, many_ws, makable.few)) (based s.lg_k (omega (arith, low)) (omega (arith, high))).four)

    module _ (n : ℕ) (bytes : n ≡ bytes_of i.header.kind i.header.lg_k) (many : ℕ) (words : many ≡ words_in i.header) where
      abbrev part : List ℕ
      part = take (length i.bytes.now - (40 + n)) (drop (40 + n) i.bytes.now)

      entries_here : filled (unpacked 32 many part) ≡ entries_in i.bytes.now
      unfolding entries_in
      entries_here = ap₂ (λ (m : ℕ) (bs : List ℕ). filled (unpacked 32 m bs)) (words ∙ words_are i.bytes.now i.header i.headed) (words_part i.bytes.now s is_in n bytes)

      pub collectable : (into : List ℕ) → length into ≡ scratch → Collectable i.header.lg_k (take (length i.bytes.now - (40 + n)) (drop (40 + n) i.bytes.now)) many into
      collectable into long =
          record {
            high = high;
            whole = omega (arith, words_long i.bytes.now s is_in n bytes, payload_here sound, bytes, words);
            fits = rw entries_here (omega (arith, listed_in.many, count_fits, spared));
          }

      -- the entries at scratch's end, and an area that was cleared
      module _ (into : List ℕ) (top : ℕ) (long : length into ≡ scratch) (got : Collected i.header.lg_k (take (length i.bytes.now - (40 + n)) (drop (40 + n) i.bytes.now)) many into top) where
        got_is : drop top into ≡ ws
        got_is = got.are ∙ ap (map (homed (2 ^ s.lg_k))) entries_here

        pub buildable : (area : List ℕ) (base : ℕ) → area ≡ replicate aux 0 → base ≡ base_for i.header.lg_k → Buildable area into base top
        buildable area base clear e =
            let la : length area ≡ aux = ap length clear ∙ length-replicate {A = ℕ} aux 0 in
            let count : table_size base (length (drop top into)) ≡ table_size (base_for s.lg_k) s.aux_count = ap₂ table_size e (ap length got_is ∙ many_ws) in
            record {
              based = rw e (based s.lg_k (omega (arith, low)) (omega (arith, high)));
              within = got.within;
              words = rw got_is makable;
              clean = clear ∙ ap (λ (m : ℕ). replicate m 0) (sym la);
              fits = omega (arith, count, la, fits);
              spared = omega (arith, count, fits, spared);
            }

        pub area_four : (area old after : List ℕ) (base : ℕ) → length old ≡ aux → area ≡ replicate aux 0 → base ≡ base_for i.header.lg_k → after ≡ laid (length area) (made base (drop top into))
            → after ≡ area_of i.header.kind (made (base_for i.header.lg_k) (map (homed (2 ^ i.header.lg_k)) (entries_in i.bytes.now))) old
        unfolding area_of
        area_four area old after base lo clear e h =
            rw (eq-eqb s.kind 4 four)
            (h ∙ (λ i. laid ((ap length clear ∙ length-replicate {A = ℕ} aux 0 ∙ sym lo) i) (made (e i) (got_is i))))
