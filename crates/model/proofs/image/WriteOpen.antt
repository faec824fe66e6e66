-- What write wrote opens to the same sketch, whatever stood in the buffer behind the image. Assumes nothing.
use mathlib.Core.Path.{◌≡◌, refl, sym, ap, ◌∙◌, subst}
use mathlib.Core.Bool.{true}
use mathlib.Core.List.{List, ◌++◌, append_assoc}
use Prim.Native.Nat.{ℕ, ◌+◌, ◌*◌, ◌≤◌, zero-le}
use native.Mathlib.Decide.{ℕ_discrete}
use native.Mathlib.Omega.{arith}
use lib.ListN.{length, drop}
use borrow.Author.Tests.{eq-eqb}
use Rattle.model.specs.Table.{base_for, table_size, filled}
use Rattle.model.specs.Answers.{Said}
use Rattle.model.specs.Four.{registers4}
use Rattle.model.specs.Sketch.{bytes_of, area_of, table_in, registers, Shaped, Good}
use Rattle.model.specs.Check.{scratch_fits}
use Rattle.model.specs.Image.{header, image_in, Written, write_of, sketch_in, regs_in, word_count, words_in, entries_in, aux_in, open_of}
use Rattle.model.specs.Claims.{EntryAt, Again, Reopens}
use Rattle.model.specs.declared.Sketch.{Sketch}
use Rattle.model.proofs.order.Tells.{tells_true}
use Rattle.model.proofs.table.Sizes.{sized}
use Rattle.model.proofs.order.Plain.{plain_cells}
use Rattle.model.proofs.order.Tests.{Passes, TableFits, counts_tells, good_asks, table_tells}
use Rattle.model.proofs.image.Entries.{filled_all, filled_entry}
use Rattle.model.proofs.image.SameSlots.{no_words, aux_other, fits_aux}
use Rattle.model.proofs.image.Taken.{made_in}
use Rattle.model.proofs.order.Tests.{scratch_tells}
use Rattle.model.proofs.image.Opens.{Opens, open_says, lg_arr_tells}
use Rattle.model.proofs.image.Opening.{area_in, opens_to}
use Rattle.model.proofs.image.Fields.{FieldsFit}
use Rattle.model.proofs.image.Images.{image_over, over_long, over_sketch, over_regs, over_count, over_words}
use Rattle.model.proofs.image.Listing.{listing, listing_small, listing_listed, listing_registers}
use Rattle.model.proofs.image.Writing.{good_small, image_parts, write_no_lem, write_says, writes}

module _ (s : Sketch) (regs aux rest regs' aux' scratch' : List ℕ) (g : Good s regs aux) (ok : Passes s regs aux)
    (long : length regs' ≡ length regs) (scratch : scratch_fits s.kind (length aux') (length scratch') ≡ true)
    (room : s.kind ≡ 4 → table_size (base_for s.lg_k) s.aux_count ≤ length aux') where
  abbrev R : List ℕ
  R = registers s regs aux

  abbrev ws : List ℕ
  ws = listing s aux

  abbrev l : List ℕ
  l = image_over s R regs ws rest

  abbrev h : Shaped s.kind s.lg_k (length regs)
  h = g.shaped

  small : FieldsFit s
  small = good_small s (length regs) h ok.counts

  table : s.kind ≡ 4 → TableFits s regs aux
  table four = (table_tells s regs aux).0 (ok.table four)

  same_record : sketch_in l ≡ s
  same_record = over_sketch s R regs ws rest small

  same_bytes : regs_in l ≡ regs
  same_bytes = over_regs s R regs ws rest small h.long

  same_words : s.kind ≡ 4 → words_in l ≡ ws
  same_words four = over_words s R regs ws rest small h.long four (listing_small s regs aux (table four)) (listing_listed s regs aux (table four)).many

  same_entries : s.kind ≡ 4 → entries_in l ≡ ws
  unfolding entries_in
  same_entries four = ap (λ (us : List ℕ). filled us) (same_words four) ∙ filled_all ws (filled_entry (table_in s aux))

  -- ---- no rung refuses
  of_four : {P : Type 0} → (s.kind ≡ 4 → P) → (sketch_in l).kind ≡ 4 → P
  of_four f e = f (sym (ap (λ (r : Sketch). r.kind) same_record) ∙ e)

  -- kinds 6 and 8 have no words
  none : (s.kind ≡ 4 → ⊥) → s.aux_count ≡ 0
  none n = (((counts_tells s).0 ok.counts).none n).1

  payload : 40 + bytes_of s.kind s.lg_k + 4 * word_count l ≤ 40 + length regs + 4 * length ws + length rest
  payload = go (ℕ_discrete s.kind 4)
    where
      go : Dec (s.kind ≡ 4) → 40 + bytes_of s.kind s.lg_k + 4 * word_count l ≤ 40 + length regs + 4 * length ws + length rest
      go (yes e) = rw (over_count s R regs ws rest small e) (omega (arith, h.long, (listing_listed s regs aux (table e)).many))
      go (no e) = rw (no_words l (ap (λ (r : Sketch). r.aux_count) same_record ∙ none e)) (omega (arith, h.long))

  roomy : table_size (base_for s.lg_k) s.aux_count ≤ length aux'
  unfolding table_size
  roomy = go (ℕ_discrete s.kind 4)
    where
      go : Dec (s.kind ≡ 4) → table_size (base_for s.lg_k) s.aux_count ≤ length aux'
      go (yes e) = room e
      go (no e) = rw (none e) zero-le

  nothing_wrong : Dec (s.kind ≡ 4) → (aux_in l).no ≡ 0
  nothing_wrong (yes e) =
      fits_aux l (ap (λ (r : Sketch). r.kind) same_record ∙ e) (rw (same_record, same_bytes, same_entries e) (listing_listed s regs aux (table e)))
      (λ i d. subst (λ (us : List ℕ). EntryAt us i) (sym (same_words e)) (filled_entry (table_in s aux) i (rw (same_words e) at d)))
  nothing_wrong (no e) = ap (λ (f : Said). f.no) (aux_other l (λ q. e (sym (ap (λ (r : Sketch). r.kind) same_record) ∙ q)))

  opens : Opens l (length regs') (length aux') (length scratch')
  unfolding header
  opens =
      record {
        long = omega (arith, over_long s R regs ws rest);
        begins = (refl, (refl, refl));
        known = rw same_record h.kind_known;
        sized = rw same_record (h.low, h.high);
        lent = rw same_record (long ∙ h.long);
        scratched = rw same_record scratch;
        counted = record { counts = rw same_record ok.counts; lg_arr = tells_true _ (lg_arr_tells l) (λ c n. zero-le); payload = rw (same_record, over_long s R regs ws rest) payload };
        room = rw same_record roomy;
        bodied = record {
          values = rw (same_record, same_bytes) ok.values;
          entries = nothing_wrong (ℕ_discrete s.kind 4);
          spare = rw (same_record, same_bytes) ok.spare;
          tally = rw (same_record, same_bytes) ok.tally;
        };
      }

  -- ---- the registers are the same
  four_back : s.kind ≡ 4 → registers s regs (area_in l aux') ≡ R
  unfolding area_in area_of registers
  four_back four =
      let size = sized s.lg_k h.low h.high in
      rw (same_record, same_entries four, eq-eqb s.kind 4 four)
      (ap (λ (t : List ℕ). registers4 s.cur_min t regs) (made_in s regs ws (listing_listed s regs aux (table four)) size (length aux') four)
      ∙ listing_registers s regs aux (table four) size (g.tabled four).table.shape s.cur_min regs)

  registers_back : registers s regs (area_in l aux') ≡ R
  registers_back = go (ℕ_discrete s.kind 4)
    where
      go : Dec (s.kind ≡ 4) → registers s regs (area_in l aux') ≡ R
      go (yes e) = four_back e
      go (no e) = plain_cells s regs (area_in l aux') e ∙ sym (plain_cells s regs aux e)

  reopened : Again s regs aux (open_of l regs' aux' scratch')
  reopened =
      subst (Again s regs aux) (sym (opens_to l regs' aux' scratch' ((open_says l _ _ _).1 opens)))
      (record { opens = refl; same_sketch = same_record; same_regs = same_bytes; same_registers = rw (same_record, same_bytes) registers_back })

pub write_open : Reopens
write_open s regs aux buf regs' aux' scratch' g e long scratch room =
    let n = sym (write_no_lem s regs aux buf) ∙ e in
    let ok = (good_asks s regs aux).0 ((write_says s regs aux buf).0 n).0.1 in
    let rest = drop (length (image_in s regs aux)) buf in
    let parts : (write_of s regs aux buf).out ≡ image_over s (registers s regs aux) regs (listing s aux) rest =
    ap (λ (w : Written). w.out) (writes s regs aux buf n) ∙ ap (λ (l : List ℕ). l ++ rest) (image_parts s regs aux g) ∙ simp append_assoc in
    rw parts (reopened s regs aux rest regs' aux' scratch' g ok long (tells_true _ (scratch_tells s.kind aux' scratch') scratch) room)
