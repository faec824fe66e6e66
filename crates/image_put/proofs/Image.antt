-- The image of a sketch in good order, by the parts that the code puts: the header, the register bytes, and as many words of the area as
-- the record counts. Assumes nothing.
use mathlib.Core.Path.{◌≡◌, refl, sym, ap, ap₂, ◌∙◌}
use mathlib.Core.List.{List, [], ◌++◌, append_assoc}
use Prim.Native.Nat.{ℕ, ◌+◌, ◌-◌, ◌*◌, ◌≤◌}
use native.Mathlib.Decide.{ℕ_discrete}
use native.Mathlib.Omega.{arith}
use lib.Ieee.{Float}
use lib.ListN.{length, take, drop, length-append, length-take}
use lib.Seq.{take-length}
use borrow.Author.Tests.{ne_eqb}
use Rattle.model.specs.Packed.{packed}
use Rattle.model.specs.Sums.{kxq0, kxq1}
use Rattle.model.specs.Table.{laid, filled}
use Rattle.model.proofs.table.Sifted.{sifted_none, filled_front}
use Rattle.model.specs.Sketch.{table_in, registers, Good}
use Rattle.model.specs.Image.{image_in}
use Rattle.model.specs.declared.Sketch.{Sketch}
use Rattle.model.specs.declared.Checked.{Checked}
use Rattle.model.proofs.order.Tells.{tells_true}
use Rattle.model.proofs.order.Tests.{Passes, TableFits, good_asks, counts_tells, table_tells}
use Rattle.model.proofs.order.Lawful.{lawful}
use Rattle.model.proofs.calls.Has.{good_bytes, checked_good}
use Rattle.model.proofs.image.Listing.{listing, listing_listed}
use Rattle.model.proofs.image.Writing.{good_small, image_parts, image_long}
use Rattle.sums.proofs.Dyadic.{ratio_no_nan}
use Rattle.image_put.specs.Parts.{over, header_bytes, word_bytes}
use Rattle.image_put.specs.Write.{HeaderFits, Writable}
use Rattle.image_put.proofs.Over.{next, over_front}
use Rattle.image_put.proofs.Heading.{heading_long, header_is}
use Rattle.image_put.proofs.Turns.{length_words}

module _ (s : Sketch) (regs aux : List ℕ) (g : Good s regs aux) where
  passes : Passes s regs aux
  passes = (good_asks s regs aux).0 (tells_true _ ((lawful s.kind g.shaped.kind_known).tells s regs aux refl g.shaped (good_bytes g)) g)

  -- kind 4's words are the area's, of which none stand behind the table; the others have none
  abbrev Counted : Type 0
  Counted = (length (listing s aux) ≡ s.aux_count) × (take s.aux_count (filled aux) ≡ listing s aux)

  counted : Counted
  unfolding laid table_in
  counted = go (ℕ_discrete s.kind 4)
    where
      four : s.kind ≡ 4 → Counted
      four e =
          let f : TableFits s regs aux = (table_tells s regs aux).0 (passes.table e) in
          let many : length (listing s aux) ≡ s.aux_count = (listing_listed s regs aux f).many in
          let all : filled aux ≡ listing s aux = ap filled (g.tabled e).area ∙ filled_front (table_in s aux) (length aux - length (table_in s aux)) in
          (many, ap₂ take (sym many) all ∙ take-length (listing s aux))

      none : (s.kind ≡ 4 → ⊥) → Counted
      none h =
          let z : s.aux_count ≡ 0 = (((counts_tells s).0 passes.counts).none h).1 in
          let e : listing s aux ≡ [] = rw (ne_eqb s.kind 4 h, sifted_none) in
          (ap length e ∙ sym z, ap (λ (n : ℕ). take n (filled aux)) z ∙ sym e)

      go : Dec (s.kind ≡ 4) → Counted
      go (yes e) = four e
      go (no h) = none h

  pub words_enough : s.aux_count ≤ length (filled aux)
  words_enough = omega (arith, length-take s.aux_count (filled aux), ap length counted.1, counted.0)

  image_is : image_in s regs aux ≡ header_bytes s (kxq0 (registers s regs aux)) (kxq1 (registers s regs aux)) ++ (regs ++ word_bytes s.aux_count aux)
  unfolding word_bytes
  image_is =
      image_parts s regs aux g
      ∙ ap₂ (λ (h t : List ℕ). h ++ (regs ++ t)) (header_is s (registers s regs aux) (good_small s (length regs) g.shaped passes.counts))
      (ap₂ (λ (n : ℕ) (l : List ℕ). packed 32 (4 * n) l) counted.0 (sym counted.1))

  pub image_counted : 40 + length regs + 4 * s.aux_count ≡ length (image_in s regs aux)
  image_counted = omega (arith, image_long s regs aux g, g.shaped.long, counted.0)

-- ---- what is asked, and the three puts of the code
module _ {h : Checked} {x y : Float} {d : List ℕ} (w : Writable h x y d) where
  abbrev s : Sketch
  s = h.sketch

  abbrev regs : List ℕ
  regs = h.regs.now

  abbrev aux : List ℕ
  aux = h.aux.now

  good : Good s regs aux
  good = checked_good h

  pub image_room : 40 + length regs + 4 * s.aux_count ≤ length d
  image_room = omega (arith, image_counted s regs aux good, w.room)

  pub header_fits : HeaderFits x y d
  header_fits = record { low = rw w.low (ratio_no_nan 31 _); high = rw w.high (ratio_no_nan 63 _); room = omega (arith, image_room) }

  -- they leave the image, and behind it what stood there
  pub image_put : {a b c : List ℕ} → a ≡ over d 0 (header_bytes s x y) → b ≡ over a 40 regs → c ≡ over b (40 + length regs) (word_bytes s.aux_count aux)
      → c ≡ image_in s regs aux ++ drop (length (image_in s regs aux)) d
  image_put p q r =
      let front = header_bytes s x y in
      let ws = word_bytes s.aux_count aux in
      let long = heading_long s x y in
      let is : image_in s regs aux ≡ (front ++ regs) ++ ws =
      image_is s regs aux good ∙ ap₂ (λ (u v : Float). header_bytes s u v ++ (regs ++ ws)) (sym w.low) (sym w.high) ∙ sym (append_assoc front regs ws) in
      next d 0 (40 + length regs) (front ++ regs) ws refl refl (next d 0 40 front regs refl refl p q (omega arith) (omega (arith, image_room))) r
      (omega (arith, length-append front regs)) (omega (arith, length_words s.aux_count aux, image_room))
      ∙ ap (over d 0) (sym is) ∙ over_front d (image_in s regs aux)
