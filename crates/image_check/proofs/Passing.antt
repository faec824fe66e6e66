-- What is known of an image and its header once a part of the ladder has passed. Assumes nothing.
use mathlib.Core.Path.{◌≡◌, sym, ◌∙◌, ap, ap₂, subst}
use mathlib.Core.Bool.{true}
use Prim.Native.Nat.{ℕ, ◌+◌, ◌*◌, ◌^◌, ◌≤◌, ◌<◌}
use native.Mathlib.Omega.{arith}
use lib.ListN.{length}
use lib.Pow.{pow_mono}
use Rattle.model.specs.Sketch.{is_kind, bytes_of}
use Rattle.model.specs.Check.{counts_fit}
use Rattle.model.specs.Image.{sketch_in, word_count, counts_no}
use Rattle.model.specs.declared.Sketch.{Sketch}
use Rattle.model.proofs.order.Tests.{counts_tells}
use Rattle.model.proofs.image.Opens.{Counted, form_says, counts_says}
use Rattle.image_header.specs.Header.{record_in, lg_arr_in, words_in}
use Rattle.image_header.specs.declared.Image.{Image}
use Rattle.image_header.proofs.Headers.{record_is, lg_arr_is, words_are, words_few}
use Rattle.image_check.specs.Passed.{Formed, Sound}

module _ {i : Image} (f : Formed i) where
  pub formed : (is_kind i.header.kind ≡ true) × ((4 ≤ i.header.lg_k) × (i.header.lg_k ≤ 21))
  formed = (form_says _ _).0 f.form

  pub is_in : record_in i.header ≡ sketch_in i.bytes.now
  is_in = record_is i.bytes.now i.header i.headed

  -- where its payload ends
  pub end_is : 40 + bytes_of i.header.kind i.header.lg_k + 4 * words_in i.header ≡ 40 + bytes_of (sketch_in i.bytes.now).kind (sketch_in i.bytes.now).lg_k + 4 * word_count i.bytes.now
  end_is = ap₂ (λ (s : Sketch) (n : ℕ). 40 + bytes_of s.kind s.lg_k + 4 * n) is_in (words_are i.bytes.now i.header i.headed)

  few_in : counts_fit (sketch_in i.bytes.now) ≡ true → i.header.aux_count ≤ 2 ^ i.header.lg_k
  few_in e = ((counts_tells (record_in i.header)).0 (ap counts_fit is_in ∙ e)).count

  pub counts_few : counts_no i.bytes.now ≡ 0 → i.header.aux_count ≤ 2 ^ i.header.lg_k
  counts_few e = few_in ((counts_says i.bytes.now).0 e).counts

  -- the number of words fits the sums that the code makes of it
  pub words_small : counts_fit (sketch_in i.bytes.now) ≡ true → lg_arr_in i.header ≡ true → words_in i.header < 2 ^ 32
  words_small e a = words_few i.header a (omega (arith, few_in e, pow_mono formed.1.1))

module _ {i : Image} (s : Sound i) where
  pub counted : Counted i.bytes.now
  counted = (counts_says i.bytes.now).0 s.counts

  pub lg_arr_here : lg_arr_in i.header ≡ true
  lg_arr_here = lg_arr_is i.bytes.now i.header i.headed ∙ counted.lg_arr

  pub counts_here : counts_fit (record_in i.header) ≡ true
  counts_here = ap counts_fit (is_in s.formed) ∙ counted.counts

  pub words_here : words_in i.header < 2 ^ 32
  words_here = words_small s.formed counted.counts lg_arr_here

  pub payload_here : 40 + bytes_of i.header.kind i.header.lg_k + 4 * words_in i.header ≤ length i.bytes.now
  payload_here = subst (λ (n : ℕ). n ≤ length i.bytes.now) (sym (end_is s.formed)) counted.payload
