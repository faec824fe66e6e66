-- What a header says is what the book reads of its image. Assumes nothing.
use mathlib.Core.Path.{◌≡◌, ap}
use mathlib.Core.Bool.{Bool, true, false}
use mathlib.Core.List.{List, [], ◌∷◌}
use Prim.Native.Nat.{ℕ, ◌^◌, ◌≤◌, ◌<◌}
use native.Mathlib.Omega.{arith}
use lib.Dec.{eqb, leb}
use lib.ListN.{length, get_or}
use lib.Pow.{pow_mono}
use borrow.Author.Tests.{leb-true}
use Rattle.std.specs.List.{starts_with}
use Rattle.std.proofs.lemmas.Slice.Eq.{starts_is}
use Rattle.std.proofs.lemmas.Bool.Decides.{Decides-eqb}
use Rattle.model.specs.Pick.{pick, Tells}
use Rattle.model.specs.Image.{sketch_in, compact_in, word_count, lg_arr_fits}
use Rattle.model.proofs.table.FirstLaws.{true_not_false}
use Rattle.model.proofs.image.Opens.{header_says}
use Rattle.image_header.specs.Header.{header_in, record_in, lg_arr_in, words_in, Headed}
use Rattle.image_header.specs.declared.Header.{Header}

-- the first three bytes, as a byte string that stands there
pub begins_tells : (l : List ℕ) (b : Bool) → 40 ≤ length l → b ≡ starts_with eqb l (10 ∷ 1 ∷ 7 ∷ []) → Tells b ((get_or l 0 0 ≡ 10) × ((get_or l 1 0 ≡ 1) × (get_or l 2 0 ≡ 7)))
begins_tells [] b h e = absurd (omega arith)
begins_tells (x ∷ []) b h e = absurd (omega arith)
begins_tells (x ∷ y ∷ []) b h e = absurd (omega arith)
begins_tells (x ∷ y ∷ z ∷ r) b h e =
    let says = starts_is Decides-eqb (x ∷ y ∷ z ∷ r) (10 ∷ 1 ∷ 7 ∷ []) b e in (
      λ t. let q = says.0 t in (ap (λ (s : List ℕ). get_or s 0 0) q, (ap (λ (s : List ℕ). get_or s 1 0) q, ap (λ (s : List ℕ). get_or s 2 0) q)),
      λ f k. true_not_false (says.1 r (λ i. k.0 i ∷ k.1.0 i ∷ k.1.1 i ∷ r)) f,
    )

pub record_of : (l : List ℕ) (h : Header) → h ≡ header_in l → record_in h ≡ sketch_in l
unfolding header_in
record_of l h is = ap record_in is

module _ (l : List ℕ) (h : Header) (ok : Headed l h) where
  pub headed_long : 40 ≤ length l
  headed_long = ((header_says l).0 ok.passed).0

  pub record_is : record_in h ≡ sketch_in l
  record_is = record_of l h ok.is

  pub compact_is : h.compact ≡ compact_in l
  unfolding header_in
  compact_is = ap (λ (x : Header). x.compact) ok.is

  pub lg_arr_is : lg_arr_in h ≡ lg_arr_fits l
  unfolding header_in lg_arr_fits
  lg_arr_is = ap lg_arr_in ok.is

  pub words_are : words_in h ≡ word_count l
  unfolding header_in word_count
  words_are = ap words_in ok.is

-- the number of words fits the sums that the code makes of it
pub words_few : (h : Header) → lg_arr_in h ≡ true → h.aux_count < 2 ^ 32 → words_in h < 2 ^ 32
words_few h f few = go h.compact (eqb h.aux_count 0) f
  where
    go : (a b : Bool) → pick a true (pick b true (leb h.lg_arr 22)) ≡ true → pick a h.aux_count (pick b 0 (2 ^ h.lg_arr)) < 2 ^ 32
    go true b e = few
    go false true e = omega arith
    go false false e = omega (arith, pow_mono (leb-true h.lg_arr 22 e))
