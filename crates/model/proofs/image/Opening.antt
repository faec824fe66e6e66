-- What open accepts is in good order. Assumes nothing.
use mathlib.Core.Path.{◌≡◌, refl, sym, ◌∙◌, subst}
use mathlib.Core.Bool.{true}
use mathlib.Core.List.{List}
use Prim.Native.Nat.{ℕ}
use native.Mathlib.Omega.{arith}
use lib.ListN.{length, drop, length-drop}
use lib.Seq.{length-take-le}
use borrow.Author.Tests.{eq-eqb}
use Rattle.model.specs.Packed.{Bytes}
use Rattle.model.specs.Sketch.{bytes_of, area_of, Shaped, Good}
use Rattle.model.specs.Check.{good_of}
use Rattle.model.specs.Calls.{Out, out}
use Rattle.model.specs.Image.{sketch_in, regs_in, entries_in, open_no, open_of}
use Rattle.model.specs.Claims.{OpensGood}
use Rattle.model.proofs.packing.ByteLists.{bytes_drop, bytes_take}
use Rattle.model.proofs.order.Tells.{tells_true}
use Rattle.model.proofs.table.Sizes.{sized}
use Rattle.model.proofs.order.Lawful.{lawful}
use Rattle.model.proofs.order.Tests.{good_asks}
use Rattle.model.proofs.image.SameSlots.{aux_fits}
use Rattle.model.proofs.image.Taken.{made_of, made_fits}
use Rattle.model.proofs.calls.Picked.{picked_no}
use Rattle.model.proofs.image.Opens.{Opens, open_says}

-- the area that an image makes
unfoldable pub area_in : List ℕ → List ℕ → List ℕ
area_in l aux = area_of (sketch_in l).kind (made_of (sketch_in l) (entries_in l)) aux

module _ (l regs aux scratch : List ℕ) where
  pub open_no_lem : (open_of l regs aux scratch).no ≡ open_no l (length regs) (length aux) (length scratch)
  unfolding open_of
  open_no_lem = picked_no (open_no l (length regs) (length aux) (length scratch)) _ _ (λ (o : Out). o.no) refl refl

  pub opens_to : open_no l (length regs) (length aux) (length scratch) ≡ 0 → open_of l regs aux scratch ≡ out 0 0 (sketch_in l) 0 (regs_in l) (area_in l aux)
  unfolding open_of area_in
  opens_to e = rw e

regs_bytes : (l : List ℕ) → Bytes l → Bytes (regs_in l)
unfolding regs_in
regs_bytes l b = bytes_take (bytes_of (sketch_in l).kind (sketch_in l).lg_k) (drop 40 l) (bytes_drop 40 l b)

pub open_shaped : (l : List ℕ) (regs aux scratch : ℕ) → Opens l regs aux scratch → Shaped (sketch_in l).kind (sketch_in l).lg_k (length (regs_in l))
unfolding sketch_in regs_in
open_shaped l regs aux scratch o =
    record {
      kind_known = o.known;
      low = o.sized.0;
      high = o.sized.1;
      long = length-take-le _ (drop 40 l) (omega (arith, length-drop 40 l, o.counted.payload));
    }

-- ---- what open accepts passes the tests of good order
pub open_passes : (l regs aux scratch : List ℕ) → Opens l (length regs) (length aux) (length scratch) → good_of (sketch_in l) (regs_in l) (area_in l aux) ≡ true
unfolding area_in area_of
open_passes l regs aux scratch o =
    let s = sketch_in l in
    tells_true _ (good_asks s (regs_in l) (area_in l aux))
    (record {
      counts = o.counted.counts;
      values = o.bodied.values;
      spare = o.bodied.spare;
      tally = o.bodied.tally;
      table = λ four. rw (eq-eqb s.kind 4 four)
          (made_fits s (regs_in l) (entries_in l) (aux_fits l four o.bodied.entries) (sized s.lg_k o.sized.0 o.sized.1) (length aux) four o.room);
    })

-- so it is in good order, if the register bytes are bytes
pub open_good_of : (l regs aux scratch : List ℕ) → Bytes (regs_in l) → let o = open_of l regs aux scratch in o.no ≡ 0 → Good o.sketch o.regs o.aux
open_good_of l regs aux scratch b e =
    let n = sym (open_no_lem l regs aux scratch) ∙ e in
    let o = (open_says l _ _ _).0 n in
    subst (λ (r : Out). Good r.sketch r.regs r.aux) (sym (opens_to l regs aux scratch n))
    (((lawful (sketch_in l).kind o.known).tells (sketch_in l) (regs_in l) (area_in l aux) refl (open_shaped l _ _ _ o) b).0 (open_passes l regs aux scratch o))

pub open_good : OpensGood
open_good l regs aux scratch b = open_good_of l regs aux scratch (regs_bytes l b)
